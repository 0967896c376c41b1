-- Sets of films that bound every sharing of the method's copies, and the one for no disk.
use mathlib.Core.Path.{◌≡◌}
use mathlib.Core.Bool.{Bool, true}
use mathlib.Core.List.{List, [], ◌∷◌}
use Prim.Native.Nat.{ℕ, ◌+◌, ◌≤◌}
use native.Mathlib.Omega.{arith}
use borrow.Author.Tests.{eq-eqb, ne_eqb}
use lib.Dec.{eqb}
use Rattle.placement.specs.Items.{Item, sum_by, occurrences}
use Rattle.placement.specs.Rack.{Disk}
use Rattle.placement.specs.Disk.{list_after}
use Rattle.placement.specs.Method.{placement, served}
use Rattle.placement.specs.Sharing.{WithinLoads}
use Rattle.placement.proofs.Films.{Usable, after_occurrences}
use Rattle.placement.proofs.FilmSets.{in_set, in_set_none}
use Rattle.placement.proofs.Layouts.{together, OnWindows}

-- A set of films that bounds every sharing of the method's copies: it has all films that are not in the list, and what a
-- sharing serves beyond the set's films is at most what the method serves beyond the list's amounts of them.
pub record Closed (disks : List Disk) (list : List Item) (set : ℕ → Bool) : Type 0 where
  pub absent : (f : ℕ) → occurrences f list ≡ 0 → set f ≡ true
  pub bound :
      (shares : List (List Item)) → WithinLoads disks shares → OnWindows disks list shares
      → served shares + sum_by (in_set set) list ≤ served (placement disks list) + sum_by (in_set set) (together shares)

-- With no disk: the films that are not in the list.
pub none_closed : (list : List Item) → Closed [] list (λ f. eqb (occurrences f list) 0)
none_closed list = record {
  absent = λ f h. eq-eqb (occurrences f list) 0 h;
  bound = go;
}
  where
    empty : sum_by (in_set (λ f. eqb (occurrences f list) 0)) list ≡ 0
    empty = in_set_none (λ f. eqb (occurrences f list) 0) list (λ f h. ne_eqb (occurrences f list) 0 (λ e. omega arith))

    go :
        (shares : List (List Item)) → WithinLoads [] shares → OnWindows [] list shares
        → served shares + sum_by (in_set (λ f. eqb (occurrences f list) 0)) list
        ≤ 0 + sum_by (in_set (λ f. eqb (occurrences f list) 0)) (together shares)
    go [] loads on = omega (arith, empty)
    go (copies ∷ rest) loads on = absurd on

module _
    (d : Disk) (ds : List Disk) (list : List Item) (usable : Usable (d ∷ ds))
    (set : ℕ → Bool) (closed : Closed ds (list_after d list) set)
  where
    -- A film that is not in the list is in the set for the next one.
    pub set_absent : (f : ℕ) → occurrences f list ≡ 0 → set f ≡ true
    set_absent f h = closed.absent f (omega (arith, after_occurrences d list usable.0 usable.1 f))
