-- The members of a list under a function: the one at a place, and the first of them with one more.
use mathlib.Core.Path.{◌≡◌, refl, ap}
use mathlib.Core.List.{List, [], ◌∷◌, ◌++◌, map}
use Prim.Native.Nat.{ℕ, zero, suc, ◌+◌, ◌<◌}
use native.Mathlib.Numerals.{add-one}
use native.Mathlib.Omega.{arith}
use lib.ListN.{length, take, get_or}
use Rattle.placement.specs.WellFormed.{Each}

module _ {A B : Type 0} (f : A → B) (none : A) where
  -- A property of all of them at a place.
  pub each_mapped : (P : B → Type 0) (xs : List A) (i : ℕ) → Each P (map f xs) → i < length xs → P (f (get_or xs i none))
  each_mapped P [] i all h = absurd (omega arith)
  each_mapped P (x ∷ xs) zero all h = all.0
  each_mapped P (x ∷ xs) (suc i) all h = each_mapped P xs i all.1 (omega arith)

  more : (xs : List A) (i : ℕ) → i < length xs → map f (take (suc i) xs) ≡ map f (take i xs) ++ (f (get_or xs i none) ∷ [])
  more [] i h = absurd (omega arith)
  more (x ∷ xs) zero h = refl
  more (x ∷ xs) (suc i) h = ap (λ (r : List B). f x ∷ r) (more xs i (omega arith))

  -- One member more.
  pub mapped_more : (xs : List A) (i : ℕ) → i < length xs → map f (take (i + 1) xs) ≡ map f (take i xs) ++ (f (get_or xs i none) ∷ [])
  mapped_more xs i h = rw add-one (more xs i h)

-- The last member.
pub map_last : {A B : Type 0} (f : A → B) (xs : List A) (x : A) → map f (xs ++ (x ∷ [])) ≡ map f xs ++ (f x ∷ [])
map_last f [] x = refl
map_last {B} f (y ∷ ys) x = ap (λ (r : List B). f y ∷ r) (map_last f ys x)
