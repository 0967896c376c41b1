-- What the parts of a conjunction say of it, for tests one after the other, and choices by a test that is decided.
use mathlib.Core.Path.{◌≡◌, refl, sym, ap, subst, ◌∙◌}
use mathlib.Core.Bool.{Bool, true, false, cond, ◌&&◌}

-- Both parts of a test that holds.
pub both_true : (a b : Bool) → (a && b) ≡ true → (a ≡ true) × (b ≡ true)
both_true true b e = (refl, e)
both_true false b e = absurd (subst (λ (c : Bool). cond c ⊥ (Unit {0})) e tt)

-- Two tests that hold.
pub and_holds : (a b : Bool) → a ≡ true → b ≡ true → (a && b) ≡ true
and_holds a b p q = ap (λ (x : Bool). x && b) p ∙ q

-- The first test fails.
pub first_fails : (a b : Bool) → a ≡ false → false ≡ (a && b)
first_fails a b p = sym (ap (λ (x : Bool). x && b) p)

-- The first holds, so the second decides.
pub second_decides : (a b : Bool) → a ≡ true → b ≡ (a && b)
second_decides a b p = sym (ap (λ (x : Bool). x && b) p)

-- The first holds and the second fails.
pub second_fails : (a b c : Bool) → a ≡ true → b ≡ false → false ≡ (a && (b && c))
second_fails a b c p q = first_fails b c q ∙ second_decides a (b && c) p

-- The first two hold, so the third decides.
pub third_decides : (a b c : Bool) → a ≡ true → b ≡ true → c ≡ (a && (b && c))
third_decides a b c p q = second_decides b c q ∙ second_decides a (b && c) p

-- A test does not both fail and hold.
pub false_true : {P : Type 0} → false ≡ true → P
false_true e = absurd (subst (λ (b : Bool). cond b ⊥ (Unit {0})) e tt)

-- A choice whose test holds, or fails.
pub cond_true : {A : Type 0} (b : Bool) (x y : A) → b ≡ true → cond b x y ≡ x
cond_true b x y e = ap (λ (c : Bool). cond c x y) e

pub cond_false : {A : Type 0} (b : Bool) (x y : A) → b ≡ false → cond b x y ≡ y
cond_false b x y e = ap (λ (c : Bool). cond c x y) e
