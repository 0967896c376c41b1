-- Laws of lists for the two loops over entries: one that takes a list place by place, and one that overwrites a list from the front.
use mathlib.Core.Path.{◌≡◌, refl, sym, ◌∙◌, ap}
use Prim.Native.Nat.{ℕ, zero, suc, ◌+◌, ◌<◌, min}
use native.Mathlib.Omega.{arith}
use mathlib.Core.List.{List, [], ◌∷◌, ◌++◌, map}
use lib.ListN.{length, get_or, set, take, drop}
use lib.Seq.{take_all}

module _ {X : Type 0} where
  -- As many places as there are, at most m, are the first m.
  pub take_least : (m : ℕ) (xs : List X) (i : ℕ) → i ≡ min (length xs) m → take i xs ≡ take m xs
  take_least m [] zero e = sym (take_all m [] (omega arith))
  take_least m [] (suc i) e = absurd (omega (arith, e))
  take_least zero (x ∷ xs) zero e = refl
  take_least zero (x ∷ xs) (suc i) e = absurd (omega (arith, e))
  take_least (suc m) (x ∷ xs) zero e = absurd (omega (arith, e))
  take_least (suc m) (x ∷ xs) (suc i) e = ap (λ (r : List X). x ∷ r) (take_least m xs i (omega (arith, e)))

  -- The first i places of one list, then the others of another.
  abbrev pub over : List X → List X → ℕ → List X
  over new old i = take i new ++ drop i old

  over_suc : (new old : List X) (i : ℕ) (z : X) → i < length new → i < length old → set (over new old i) i (get_or new i z) ≡ over new old (suc i)
  over_suc [] old i z h g = absurd (omega (arith, h))
  over_suc (x ∷ new) [] i z h g = absurd (omega (arith, g))
  over_suc (x ∷ new) (y ∷ old) zero z h g = refl
  over_suc (x ∷ new) (y ∷ old) (suc i) z h g = ap (λ (r : List X). x ∷ r) (over_suc new old i z (omega (arith, h)) (omega (arith, g)))

  pub over_next : (new old : List X) (i : ℕ) (z : X) → i < length new → i < length old → set (over new old i) i (get_or new i z) ≡ over new old (i + 1)
  over_next new old i z h g = over_suc new old i z h g ∙ ap (over new old) next
    where
      next : suc i ≡ i + 1
      next = omega arith

  -- Where one of the lists ends, as much of the new list as fits stands in front of what it does not reach.
  pub over_least : (new old : List X) (i : ℕ) → i ≡ min (length new) (length old) → over new old i ≡ take (length old) new ++ drop (length new) old
  over_least [] old zero e = ap (λ (r : List X). r ++ old) (sym (take_all (length old) [] (omega arith)))
  over_least [] old (suc i) e = absurd (omega (arith, e))
  over_least (x ∷ new) [] zero e = refl
  over_least (x ∷ new) [] (suc i) e = absurd (omega (arith, e))
  over_least (x ∷ new) (y ∷ old) zero e = absurd (omega (arith, e))
  over_least (x ∷ new) (y ∷ old) (suc i) e = ap (λ (r : List X). x ∷ r) (over_least new old i (omega (arith, e)))

-- Setting a place, and then a function on every place.
pub map_set : {X Y : Type 0} (f : X → Y) (xs : List X) (i : ℕ) (x : X) → map f (set xs i x) ≡ set (map f xs) i (f x)
map_set f [] i x = refl
map_set f (y ∷ xs) zero x = refl
map_set f (y ∷ xs) (suc i) x = ap (λ (r : List _). f y ∷ r) (map_set f xs i x)
