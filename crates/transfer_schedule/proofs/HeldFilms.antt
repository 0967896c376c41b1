-- Which films are stored on a disk among copies of several: those of its own copies alone.
use mathlib.Core.Path.{◌≡◌, refl, sym, ap, ◌∙◌}
use mathlib.Core.Bool.{Bool, true, false, cond, ◌&&◌, ◌||◌}
use mathlib.Core.List.{List, [], ◌∷◌, ◌++◌, map}
use Prim.Native.Nat.{ℕ, ◌+◌}
use native.Mathlib.Omega.{arith}
use borrow.Author.Tests.{eq-eqb, ne_eqb, le-leb}
use lib.Dec.{leb, eqb}
use Rattle.transfer_schedule.specs.Stored.{StoredCopy, stored_copy, same_copy, is_stored}
use Rattle.transfer_schedule.specs.Counts.{count_by}

-- A copy in one of two lists, one behind the other.
pub stored_append : (c : StoredCopy) (xs ys : List StoredCopy) → is_stored c (xs ++ ys) ≡ (is_stored c xs || is_stored c ys)
stored_append c [] ys = refl
stored_append c (x ∷ xs) ys = go (same_copy c x) (stored_append c xs ys)
  where
    go : (b : Bool) → is_stored c (xs ++ ys) ≡ (is_stored c xs || is_stored c ys)
        → (b || is_stored c (xs ++ ys)) ≡ ((b || is_stored c xs) || is_stored c ys)
    go true later = refl
    go false later = later

-- A disk holds the films of its copies,
pub same_disk : (n film : ℕ) (films : List ℕ) → is_stored (stored_copy n film) (map (stored_copy n) films) ≡ leb 1 (count_by (eqb film) films)
same_disk n film [] = refl
same_disk n film (f ∷ films) =
    ap (λ (b : Bool). (b && eqb film f) || is_stored (stored_copy n film) (map (stored_copy n) films)) (eq-eqb n n refl)
    ∙ go (eqb film f) (same_disk n film films)
  where
    go : (b : Bool) → is_stored (stored_copy n film) (map (stored_copy n) films) ≡ leb 1 (count_by (eqb film) films)
        → (b || is_stored (stored_copy n film) (map (stored_copy n) films)) ≡ leb 1 (cond b 1 0 + count_by (eqb film) films)
    go true later = sym (le-leb 1 (1 + count_by (eqb film) films) (omega arith))
    go false later =
        let same : count_by (eqb film) films ≡ 0 + count_by (eqb film) films = omega arith in
        later ∙ ap (leb 1) same

-- and no other disk does.
pub other_disk : (m n film : ℕ) (films : List ℕ) → (m ≡ n → ⊥) → is_stored (stored_copy m film) (map (stored_copy n) films) ≡ false
other_disk m n film [] other = refl
other_disk m n film (f ∷ films) other =
    ap (λ (b : Bool). (b && eqb film f) || is_stored (stored_copy m film) (map (stored_copy n) films)) (ne_eqb m n other)
    ∙ other_disk m n film films other
