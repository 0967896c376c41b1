-- The stored copies of a well-formed plan, and the transfers to it, stand by ascending disk, then film.
use mathlib.Core.Path.{◌≡◌, refl, sym, ap₂, subst, ◌∙◌}
use mathlib.Core.Bool.{Bool, true, false, cond, ◌||◌}
use mathlib.Core.List.{List, [], ◌∷◌, ◌++◌, map}
use mathlib.Core.Logic.{inl, inr}
use Prim.Native.Nat.{ℕ, suc, ◌<◌}
use native.Mathlib.Omega.{arith}
use borrow.Author.Tests.{eqb-true}
use lib.Dec.{eqb}
use Rattle.placement.specs.Copies.{Copy, unmarked, layout_of}
use Rattle.placement.specs.Rack.{Disk}
use Rattle.placement.specs.Plan.{Plan, disk_accepted, disks_accepted, well_formed}
use Rattle.placement.proofs.Conjunctions.{both_true, false_true}
use Rattle.placement.proofs.Tests.{by_test}
use Rattle.placement.proofs.Formed.{disk_distinct, plan_disks}
use Rattle.transfer_schedule.specs.Stored.{StoredCopy, stored_copy, ascending, films_of, stored_from, stored_copies, same_copy, is_stored}
use Rattle.transfer_schedule.specs.Schedule.{lacking, schedule}
use Rattle.transfer_schedule.specs.Words.{copy_made, StandsBefore, InOrderBehind, InOrder}
use Rattle.transfer_schedule.proofs.Placing.{place_copies}
use Rattle.transfer_schedule.proofs.StoredPlans.{films_occur}
use Rattle.transfer_schedule.proofs.Strict.{StrictAbove, Strict, ascending_strict}

-- A list behind a copy is ordered by itself.
behind_ordered : (c : StoredCopy) (cs : List StoredCopy) → InOrderBehind c cs → InOrder cs
behind_ordered c [] behind = tt
behind_ordered c (x ∷ xs) behind = behind.1

module _ (number : ℕ) (rest : List StoredCopy) (behind : (c : StoredCopy) → c.disk < suc number → InOrderBehind c rest) where
  -- The copies of a disk stand one before the other, and before those of the disks behind it,
  disk_behind : (film : ℕ) (films : List ℕ) → StrictAbove film films → InOrderBehind (stored_copy number film) (map (stored_copy number) films ++ rest)
  disk_behind film [] above = behind (stored_copy number film) (omega arith)
  disk_behind film (f ∷ films) above = (inr (refl, above.0), disk_behind f films above.1)

  -- and all of them behind a copy on a lower disk.
  lower_behind : (c : StoredCopy) (films : List ℕ) → c.disk < number → Strict films → InOrderBehind c (map (stored_copy number) films ++ rest)
  lower_behind c [] less strict = behind c (omega arith)
  lower_behind c (f ∷ films) less strict = (inl less, disk_behind f films strict)

-- So it is for disks numbered from one on,
from_behind :
    (rack : List Disk) (copies : List (List Copy)) (number : ℕ) → disks_accepted rack (layout_of copies) ≡ true
    → (c : StoredCopy) → c.disk < number → InOrderBehind c (stored_from number copies)
from_behind rack [] number e c less = tt
from_behind [] (cs ∷ rest) number e c less = false_true e
from_behind (d ∷ ds) (cs ∷ rest) number e c less =
    let both = both_true (disk_accepted d (map unmarked cs)) (disks_accepted ds (layout_of rest)) e in
    lower_behind number (stored_from (suc number) rest) (from_behind ds rest (suc number) both.1) c (ascending (films_of cs)) less
    (ascending_strict (films_of cs) (λ k. omega (arith, films_occur k cs, disk_distinct d (map unmarked cs) both.0 k)))

-- and the stored copies of a well-formed plan stand by disk, then film.
pub stored_ordered : (p : Plan) → well_formed p ≡ true → InOrder (stored_copies p)
stored_ordered p e =
    behind_ordered (stored_copy 0 0) (stored_copies p)
    (from_behind p.rack p.copies 1 (plan_disks p e) (stored_copy 0 0) (omega arith))

-- A copy before another one stands before what the other one stands before,
before_later : (x y z : StoredCopy) → StandsBefore x y → StandsBefore y z → StandsBefore x z
before_later x y z (inl less) (inl more) = inl (omega arith)
before_later x y z (inl less) (inr more) = inl (omega (arith, more.0))
before_later x y z (inr less) (inl more) = inl (omega (arith, less.0))
before_later x y z (inr less) (inr more) = inr (less.0 ∙ more.0, omega (arith, less.1, more.1))

-- so that what is in order behind the other one is behind it too.
before_behind : (x y : StoredCopy) (zs : List StoredCopy) → StandsBefore x y → InOrderBehind y zs → InOrderBehind x zs
before_behind x y [] before behind = tt
before_behind x y (z ∷ zs) before behind = (before_later x y z before behind.0, behind.1)

-- A copy before another one is not the other, whichever is looked up,
apart : (x y : StoredCopy) → (x.disk ≡ y.disk → x.film ≡ y.film → ⊥) → same_copy x y ≡ false
apart x y other =
    by_test (same_copy x y)
    (λ e.
    let both = both_true (eqb x.disk y.disk) (eqb x.film y.film) e in
    absurd (other (eqb-true x.disk y.disk both.0) (eqb-true x.film y.film both.1)))
    (λ e. e)

pub before_other : (x y : StoredCopy) → StandsBefore x y → (same_copy x y ≡ false) × (same_copy y x ≡ false)
before_other x y (inl less) = (apart x y (λ d f. omega arith), apart y x (λ d f. omega arith))
before_other x y (inr both) = (apart x y (λ d f. omega (arith, both.1)), apart y x (λ d f. omega (arith, both.1)))

-- and one before all of a list is not among them.
pub behind_absent : (c : StoredCopy) (cs : List StoredCopy) → InOrderBehind c cs → is_stored c cs ≡ false
behind_absent c [] behind = refl
behind_absent c (x ∷ xs) behind =
    ap₂ ◌||◌ (before_other c x behind.0).0 (behind_absent c xs (before_behind c x xs behind.0 behind.1))

-- The copies that a list lacks are in order behind a copy,
lacking_behind : (old : List StoredCopy) (c : StoredCopy) (new : List StoredCopy) → InOrderBehind c new → InOrderBehind c (lacking old new)
lacking_behind old c [] behind = tt
lacking_behind old c (x ∷ xs) behind =
    go (is_stored x old) (lacking_behind old c xs (before_behind c x xs behind.0 behind.1)) (lacking_behind old x xs behind.1)
  where
    go : (b : Bool)
        → InOrderBehind c (lacking old xs)
        → InOrderBehind x (lacking old xs)
        → InOrderBehind c (cond b (lacking old xs) (x ∷ lacking old xs))
    go true fewer more = fewer
    go false fewer more = (behind.0, more)

-- and by themselves.
lacking_ordered : (old new : List StoredCopy) → InOrder new → InOrder (lacking old new)
lacking_ordered old [] ordered = tt
lacking_ordered old (x ∷ xs) ordered = go (is_stored x old) (lacking_behind old x xs ordered)
  where
    go : (b : Bool) → InOrderBehind x (lacking old xs) → InOrder (cond b (lacking old xs) (x ∷ lacking old xs))
    go true behind = behind_ordered x (lacking old xs) behind
    go false behind = behind

-- The transfers to ordered copies are listed "by ascending destination, then film".
pub transfers_ordered : (old new : List StoredCopy) → InOrder new → InOrder (map copy_made (schedule old new))
transfers_ordered old new ordered = subst InOrder (sym (place_copies old [] (lacking old new))) (lacking_ordered old new ordered)
