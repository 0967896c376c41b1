-- Best sharing, the first part of demand 3: no sharing of the plan's copies serves more viewers than the plan.
use mathlib.Core.Path.{◌≡◌, refl, ◌∙◌}
use mathlib.Core.Bool.{Bool}
use mathlib.Core.List.{List, [], ◌∷◌}
use Prim.Native.Nat.{ℕ, ◌+◌, ◌≤◌}
use native.Mathlib.Omega.{arith}
use lib.Dec.{eqb}
use Rattle.placement.specs.Items.{Item, total, amount_if, amount_for, list_of}
use Rattle.placement.specs.Rack.{Disk}
use Rattle.placement.specs.Window.{within, window_of}
use Rattle.placement.specs.Disk.{remainder, copies_of, list_after}
use Rattle.placement.specs.Method.{placement, served, unserved}
use Rattle.placement.specs.Sharing.{Sharing, WithinLoads, viewers_of}
use Rattle.placement.specs.Promise.{Distinct}
use Rattle.placement.proofs.Windows.{window_cases, window_last_needed}
use Rattle.placement.proofs.Disks.{copies_load, step_total, before_sum, after_sum}
use Rattle.placement.proofs.Films.{Usable}
use Rattle.placement.proofs.FilmSets.{in_set_bound, stored_in_set}
use Rattle.placement.proofs.Layouts.{together, together_viewers, same_copies_on_windows}
use Rattle.placement.proofs.Listed.{list_of_distinct, list_of_total, list_of_amount_for, in_set_wanted}
use Rattle.placement.proofs.ClosedSet.{Closed, closed_set}

-- Every sharing of the plan's copies serves at most as many viewers as the plan.
pub best_sharing :
    (disks : List Disk) (records : List Item) → Usable disks → Distinct records
    → (shares : List (List Item)) → Sharing disks records (placement disks (list_of records)) shares
    → served shares ≤ served (placement disks (list_of records))
best_sharing disks records usable distinct shares sharing =
    go (closed_set disks (list_of records) usable (list_of_distinct records distinct))
  where
    go :
        (set : ℕ → Bool) × Closed disks (list_of records) set → served shares ≤ served (placement disks (list_of records))
    go s =
        omega (
          arith,
          s.1.bound shares sharing.within_loads
              (same_copies_on_windows disks (list_of records) shares usable sharing.same_copies),
          in_set_bound (together shares) (list_of records)
              (λ f. omega (arith, sharing.within_demands f, together_viewers f shares, list_of_amount_for f records))
              s.0,
        )

-- Served and left make up the list.
list_total : (disks : List Disk) (list : List Item) → Usable disks → served (placement disks list) + unserved disks list ≡ total list
list_total [] list usable = omega arith
list_total (d ∷ ds) list usable =
    omega (arith, list_total ds (list_after d list) usable.2, step_total d list usable.0 usable.1)

-- S and U make up total demand.
pub plan_total :
    (disks : List Disk) (records : List Item) → Usable disks
    → served (placement disks (list_of records)) + unserved disks (list_of records) ≡ total records
plan_total disks records usable = list_total disks (list_of records) usable ∙ list_of_total records

-- Each disk of the plan serves at most its load.
plan_loads : (disks : List Disk) (list : List Item) → Usable disks → WithinLoads disks (placement disks list)
plan_loads [] list usable = tt
plan_loads (d ∷ ds) list usable =
    (copies_load d list usable.0 usable.1, plan_loads ds (list_after d list) usable.2)

-- A film's viewers on a disk and what the next list has of it make up what the list had.
step_film :
    (d : Disk) (list : List Item) (f : ℕ) → 1 ≤ d.slots → 1 ≤ d.load
    → amount_for f (copies_of d list) + amount_for f (list_after d list) ≡ amount_for f list
step_film d list f some_slots some_load =
    omega (
      arith,
      stored_in_set (eqb f) d.load films some_load (window_last_needed some_slots (window_cases d list some_load)),
      before_sum d list some_slots some_load (amount_if f),
      after_sum d list some_slots some_load (amount_if f),
      in_set_wanted (eqb f (remainder d.load films).film) (remainder d.load films).amount,
    )
  where
    films : List Item
    films = within (window_of d list) list

-- The plan gives no film more viewers than the list has for it.
plan_viewers : (disks : List Disk) (list : List Item) (f : ℕ) → Usable disks → viewers_of f (placement disks list) ≤ amount_for f list
plan_viewers [] list f usable = omega arith
plan_viewers (d ∷ ds) list f usable =
    omega (arith, step_film d list f usable.0 usable.1, plan_viewers ds (list_after d list) f usable.2)

-- The plan's own viewers are a sharing of its copies.
pub own_sharing :
    (disks : List Disk) (records : List Item) → Usable disks
    → Sharing disks records (placement disks (list_of records)) (placement disks (list_of records))
own_sharing disks records usable = record {
  same_copies = refl;
  within_loads = plan_loads disks (list_of records) usable;
  within_demands = λ f. omega (arith, plan_viewers disks (list_of records) f usable, list_of_amount_for f records);
}
