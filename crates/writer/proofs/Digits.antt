-- How many digits a decimal number has.
use Rattle.std.proofs.Common.{◌≡◌, ℕ, zero, suc, ◌+◌, ◌*◌, ◌/◌, ◌^◌, ◌<◌, ◌≤◌, length, ap, arith, length-append}
use Rattle.plan_text.specs.Decimal.{decimal}
use Rattle.plan_text.proofs.Decimals.{decimal_small, decimal_large}

-- A power of 10 is at least 1.
power_positive : (k : ℕ) → 1 ≤ 10 ^ k
power_positive zero = omega arith
power_positive (suc k) = omega (arith, power_positive k)

-- Between two powers of 10 there is one digit more than the power says.
pub length_decimal : (k n : ℕ) → 10 ^ k ≤ n → n < 10 * 10 ^ k → length (decimal n) ≡ k + 1
length_decimal zero n low high = omega (arith, ap length (decimal_small n (omega (arith, high))))
length_decimal (suc k) n low high =
    omega (
      arith,
      ap length (decimal_large n (omega (arith, low, power_positive k))),
      length-append {A = ℕ},
      length_decimal k (n / 10) (omega (arith, low)) (omega (arith, high)),
    )

-- The number 0 has one digit.
pub length_zero : (n : ℕ) → n ≡ 0 → length (decimal n) ≡ 1
length_zero n none = omega (arith, ap length (decimal_small n (omega (arith, none))))
