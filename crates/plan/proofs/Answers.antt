-- Laws on what a read answers, and on the tests of its sign.
use mathlib.Core.Path.{◌≡◌, refl, sym, subst}
use mathlib.Core.Bool.{true, false}
use Prim.Native.Nat.{zero, suc}
use native.Mathlib.Omega.{arith}
use lib.Dec.{T, eqb, ltb→lt}
use borrow.Author.Tests.{lt-ltb, ne_eqb}
use lib.IntN.{ℤ, pos, negsuc, nat_abs}
use lib.Signed.{lt_z, non_neg}
use mir.Syntax.{w64}
use mir.Val.{Fits, SFits, of_z}
use Rattle.plan.specs.Answers.{goes_on, is_end, bytes_of}

-- A test for more than 0 says whether more may come.
pub above_goes_on : (answer : ℤ) → lt_z (pos 0) answer ≡ goes_on answer
above_goes_on (pos zero) = refl
above_goes_on (pos (suc n)) = lt-ltb 0 (suc n) (omega arith)
above_goes_on (negsuc e) = refl

-- A test of the bits for 0 says whether the end was seen.
pub zero_is_end : (answer : ℤ) → SFits w64 answer → eqb (of_z w64 answer) 0 ≡ is_end answer
zero_is_end (pos zero) fits = refl
zero_is_end (pos (suc n)) fits = ne_eqb (suc n) 0 (λ same. omega (arith, same))
zero_is_end (negsuc e) fits = ne_eqb (of_z w64 (negsuc e)) 0 (λ same. omega (arith, same, fits.sfits))

-- An answer below 0 brought nothing.
pub below_none : (answer : ℤ) → lt_z answer (pos 0) ≡ true → 0 ≡ bytes_of answer
below_none (pos n) below = omega (arith, ltb→lt n 0 (subst T (sym below) tt))
below_none (negsuc e) below = refl

-- Another answer is the number of bytes that came.
pub above_number : (answer : ℤ) → lt_z answer (pos 0) ≡ false → nat_abs answer ≡ bytes_of answer
above_number (pos n) above = refl
above_number (negsuc e) above = absurd (subst T above tt)

-- It fits a number without a sign.
pub above_fits : (answer : ℤ) → SFits w64 answer → lt_z answer (pos 0) ≡ false → T (non_neg answer) × Fits w64 (nat_abs answer)
above_fits (pos n) fits above = (tt, record { fits = omega (arith, fits.sfits) })
above_fits (negsuc e) fits above = absurd (subst T above tt)
