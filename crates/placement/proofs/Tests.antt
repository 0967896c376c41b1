-- Case distinction by a test, what a test leaves of a choice, and what the test of a range says.
use mathlib.Core.Path.{◌≡◌, refl, ap}
use mathlib.Core.Bool.{Bool, true, false, cond}
use Prim.Native.Nat.{ℕ, zero, suc, ◌≤◌, ◌<◌}
use native.Mathlib.Omega.{arith}
use borrow.Author.Tests.{leb-true, ltb-true, ltb-false, le-leb, lt-leb}
use lib.Dec.{leb, ltb}
use Rattle.placement.specs.Rack.{in_range}
use Rattle.placement.proofs.Conjunctions.{both_true, and_holds}

-- What follows whether the test holds or not.
pub by_test : {P : Type 0} (b : Bool) → (b ≡ true → P) → (b ≡ false → P) → P
by_test true held failed = held refl
by_test false held failed = failed refl

-- What follows whether a is below b or not.
pub by_order : {P : Type 0} (a b : ℕ) → (a < b → P) → (b ≤ a → P) → P
by_order a b less more = by_test (ltb a b) (λ e. less (ltb-true a b e)) (λ e. more (ltb-false a b e))

-- A choice by "at least 1".
pub chosen : {A : Type 0} (a : ℕ) (x y : A) → 1 ≤ a → cond (leb 1 a) x y ≡ x
chosen a x y h = ap (λ (b : Bool). cond b x y) (le-leb 1 a h)

pub passed : {A : Type 0} (a : ℕ) (x y : A) → a ≡ 0 → cond (leb 1 a) x y ≡ y
passed a x y h = ap (λ (b : Bool). cond b x y) (lt-leb 1 a (omega arith))

-- An amount counts whether or not it is tested.
pub amount_chosen : (a : ℕ) → cond (leb 1 a) a 0 ≡ a
amount_chosen zero = refl
amount_chosen (suc a) = chosen (suc a) (suc a) 0 (omega arith)

-- A number in range is at least 1 and at most the limit.
pub in_range_bounds : (most n : ℕ) → in_range most n ≡ true → (1 ≤ n) × (n ≤ most)
in_range_bounds most n e =
    let both = both_true (leb 1 n) (leb n most) e in
    (leb-true 1 n both.0, leb-true n most both.1)

-- A number from 1 to the limit is in range.
pub in_range_lem : (most n : ℕ) → 1 ≤ n → n ≤ most → in_range most n ≡ true
in_range_lem most n least greatest = and_holds (leb 1 n) (leb n most) (le-leb 1 n least) (le-leb n most greatest)
