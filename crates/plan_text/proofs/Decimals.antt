-- Decimal numbers: one digit, or the digits of a tenth and the last digit.
use mathlib.Core.Path.{◌≡◌, sym, ap, ◌∙◌}
use mathlib.Core.List.{List, [], ◌∷◌, ◌++◌}
use Prim.Native.Nat.{ℕ, zero, suc, ◌+◌, ◌*◌, ◌/◌, ◌%◌, ◌≤◌, ◌<◌}
use native.Mathlib.Omega.{arith}
use borrow.Author.Tests.{lt-ltb, le-ltb}
use lib.Dec.{ltb}
use Rattle.placement.proofs.Tests.{by_order}
use Rattle.plan_text.specs.Decimal.{digit, decimal_within, decimal}
use Rattle.placement.proofs.Conjunctions.{cond_true, cond_false}

-- Below 10 one digit is enough, whatever the number of steps.
within_small : (steps n : ℕ) → n < 10 → decimal_within steps n ≡ digit n ∷ []
within_small zero n h = let e : n % 10 ≡ n = omega arith in ap (λ (d : ℕ). digit d ∷ []) e
within_small (suc steps) n h = cond_true (ltb n 10) _ _ (lt-ltb n 10 h)

-- From 10 on, one step takes off the last digit.
within_large : (steps n : ℕ) → 10 ≤ n → decimal_within (suc steps) n ≡ decimal_within steps (n / 10) ++ (digit (n % 10) ∷ [])
within_large steps n h = cond_false (ltb n 10) _ _ (le-ltb n 10 h)

-- Any number of steps that is large enough gives the same digits.
within_enough : (s t n : ℕ) → n ≤ s → n ≤ t → decimal_within s n ≡ decimal_within t n
within_enough zero t n g h = within_small zero n (omega arith) ∙ sym (within_small t n (omega arith))
within_enough (suc s) zero n g h = within_small (suc s) n (omega arith) ∙ sym (within_small zero n (omega arith))
within_enough (suc s) (suc t) n g h =
    by_order n 10
    (λ less. within_small (suc s) n less ∙ sym (within_small (suc t) n less))
    (λ more.
    within_large s n more
    ∙ ap (λ (front : List ℕ). front ++ (digit (n % 10) ∷ [])) (within_enough s t (n / 10) (omega arith) (omega arith))
    ∙ sym (within_large t n more))

-- A number below 10 is one digit.
pub decimal_small : (n : ℕ) → n < 10 → decimal n ≡ digit n ∷ []
unfolding decimal
decimal_small n h = within_small n n h

-- Another number is the digits of its tenth, then its last digit.
pub decimal_large : (n : ℕ) → 10 ≤ n → decimal n ≡ decimal (n / 10) ++ (digit (n % 10) ∷ [])
unfolding decimal
decimal_large zero h = absurd (omega arith)
decimal_large (suc n) h =
    within_large n (suc n) h
    ∙ ap (λ (front : List ℕ). front ++ (digit (suc n % 10) ∷ [])) (within_enough n (suc n / 10) (suc n / 10) (omega arith) (omega arith))

-- One more digit behind a number of at least 1.
pub decimal_more : (n d : ℕ) → 1 ≤ n → d < 10 → decimal (n * 10 + d) ≡ decimal n ++ (digit d ∷ [])
decimal_more n d g h =
    let tenth : (n * 10 + d) / 10 ≡ n = omega arith in
    let last : (n * 10 + d) % 10 ≡ d = omega arith in
    decimal_large (n * 10 + d) (omega arith)
    ∙ ap (λ (m : ℕ). decimal m ++ (digit ((n * 10 + d) % 10) ∷ [])) tenth
    ∙ ap (λ (e : ℕ). decimal n ++ (digit e ∷ [])) last
