-- Demand 3, whole: for every list of disks of one ratio by ascending slots, and from that for every rack that planning accepts.
use mathlib.Core.Path.{◌≡◌, refl, sym, subst, ◌∙◌}
use mathlib.Core.Bool.{true}
use mathlib.Core.List.{List, [], ◌∷◌}
use Prim.Native.Nat.{ℕ, zero, suc, ◌+◌, ◌≤◌}
use native.Mathlib.Omega.{arith}
use lib.ListN.{length, replicate}
use Rattle.placement.specs.Items.{Item, total, wanted, list_of}
use Rattle.placement.specs.Rack.{Disk, disk, rack_of, all_loads, least_slots, rack_accepted}
use Rattle.placement.specs.Method.{placement, served, unserved}
use Rattle.placement.specs.FillingOrder.{filling, placed}
use Rattle.placement.specs.Promise.{Distinct, Fitting, Demand3, UniformFrom, Uniform}
use Rattle.placement.proofs.Sums.{length_sum, one}
use Rattle.placement.proofs.Order.{list_ascending}
use Rattle.placement.proofs.Films.{Usable}
use Rattle.placement.proofs.Listed.{sum_by_list_of, list_of_total}
use Rattle.placement.proofs.Ratio.{load_some}
use Rattle.placement.proofs.BestSharing.{best_sharing, own_sharing, plan_total}
use Rattle.placement.proofs.Served.{Shared, shared, all_served}
use Rattle.placement.proofs.FillingOrder.{filling_length}
use Rattle.placement.proofs.NumberOrder.{placement_length, by_number_served, demand3_by_number}
use Rattle.placement.proofs.UnequalRacks.{smallest, accepted_uniform}

-- The films of the list are the films wanted.
list_of_length : (records : List Item) → length (list_of records) ≡ wanted records
list_of_length records = length_sum (list_of records) ∙ sum_by_list_of one records

-- Disks of one ratio can be used.
uniform_usable :
    (k l least : ℕ) (ds : List Disk) → 1 ≤ k → 1 ≤ l → k ≤ least → UniformFrom k l least ds → Usable ds
uniform_usable k l least [] some_slots some_load more uniform = tt
uniform_usable k l least (d ∷ ds) some_slots some_load more uniform = (
  slots,
  load_some k l some_slots some_load d.slots d.load slots uniform.1,
  uniform_usable k l d.slots ds some_slots some_load (omega (arith, uniform.0)) uniform.2,
)
  where
    slots : 1 ≤ d.slots
    slots = omega (arith, uniform.0)

-- Demand 3 for disks of one ratio, with k the smallest slots.
pub demand3 :
    (k l : ℕ) (disks : List Disk) (records : List Item) → Uniform k l disks → Distinct records
    → Demand3 k disks records (placement disks (list_of records)) (served (placement disks (list_of records)))
    (unserved disks (list_of records))
demand3 k l disks records uniform distinct = record {
  own = own_sharing disks records usable;
  own_serves = refl;
  best = best_sharing disks records usable distinct;
  whole = plan_total disks records usable;
  share = λ fitting. (both fitting).0;
  square = λ fitting. (both fitting).1;
  all_served = λ fitting slots.
      all_served k l disks (list_of records) uniform (list_ascending records) whole (loads fitting)
      (omega (arith, list_of_length records));
}
  where
    usable : Usable disks
    usable = uniform_usable k l k disks uniform.some_slots uniform.some_load (omega arith) uniform.ratio

    whole : served (placement disks (list_of records)) + unserved disks (list_of records) ≡ total (list_of records)
    whole = plan_total disks records usable ∙ sym (list_of_total records)

    loads : Fitting disks records → total (list_of records) ≤ all_loads disks
    loads fitting = omega (arith, fitting.load, list_of_total records)

    both :
        Fitting disks records
        → Shared k (served (placement disks (list_of records))) (unserved disks (list_of records))
    both fitting =
        shared k l disks (list_of records) uniform (list_ascending records) whole (loads fitting)
        (omega (arith, fitting.slots, list_of_length records))

-- A rack of equal disks is of one ratio.
rack_uniform : (n k l : ℕ) → 1 ≤ k → 1 ≤ l → Uniform k l (rack_of n k l)
rack_uniform n k l some_slots some_load = record { some_slots = some_slots; some_load = some_load; ratio = go n }
  where
    go : (n : ℕ) → UniformFrom k l k (replicate n (disk k l))
    go zero = tt
    go (suc n) = (omega arith, refl, go n)

-- Demand 3 for 01's rack.
pub demand3_rack :
    (n k l : ℕ) (records : List Item) → 1 ≤ k → 1 ≤ l → Distinct records
    → Demand3 k (rack_of n k l) records (placement (rack_of n k l) (list_of records))
    (served (placement (rack_of n k l) (list_of records))) (unserved (rack_of n k l) (list_of records))
demand3_rack n k l records some_slots some_load distinct =
    demand3 k l (rack_of n k l) records (rack_uniform n k l some_slots some_load) distinct

-- Demand 3 for every accepted rack, with k its smallest slots: in filling order its disks are of one ratio by ascending slots.
pub demand3_accepted :
    (rack : List Disk) (records : List Item) → rack_accepted rack ≡ true → Distinct records
    → Demand3 (least_slots rack) rack records (placed rack (list_of records)) (served (placed rack (list_of records)))
    (unserved (filling rack) (list_of records))
demand3_accepted rack records e distinct =
    subst
    (λ (s : ℕ). Demand3 (least_slots rack) rack records (placed rack (list_of records)) s (unserved (filling rack) (list_of records)))
    (sym (by_number_served rack ordered same))
    (demand3_by_number rack ordered same (demand3 (least_slots rack) (smallest rack e).load (filling rack) records (accepted_uniform rack e) distinct))
  where
    ordered : List (List Item)
    ordered = placement (filling rack) (list_of records)

    same : length ordered ≡ length rack
    same = placement_length (filling rack) (list_of records) ∙ filling_length rack
