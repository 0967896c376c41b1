-- What the method leaves on disks of one ratio, by ascending slots (steps 9 to 12 of demand 3's argument). The share and U = 0
-- follow.
use mathlib.Core.Path.{◌≡◌, refl}
use mathlib.Core.List.{List, [], ◌∷◌}
use Prim.Native.Nat.{ℕ, suc, ◌+◌, ◌*◌, ◌≤◌}
use native.Mathlib.Nat.{mul-add, add-mul, mul-suc}
use native.Mathlib.Omega.{arith}
use Rattle.placement.specs.Items.{Item, total}
use Rattle.placement.specs.Rack.{Disk}
use Rattle.placement.specs.Window.{within, window_of}
use Rattle.placement.specs.Disk.{list_after}
use Rattle.placement.specs.Promise.{UniformFrom}
use Rattle.placement.proofs.Tests.{by_order}
use Rattle.placement.proofs.Windows.{window_cases, window_size}
use Rattle.placement.proofs.Disks.{copies_full}
use Rattle.placement.proofs.Order.{Ascending}
use Rattle.placement.proofs.Steps.{after_ascending, after_length}
use Rattle.placement.proofs.Ratio.{load_some}
pub use Rattle.placement.proofs.Remains.{Mixed, Result, nothing_left, all_full, mixed}
use Rattle.placement.proofs.BelowLoad.{below_result}
use Rattle.placement.proofs.FreeSlot.{free_result}

module _ (k l : ℕ) (some_slots : 1 ≤ k) (some_load : 1 ≤ l) where
  module _ (d : Disk) (ds : List Disk) (list : List Item) (slots : 1 ≤ d.slots) (load : 1 ≤ d.load)
      (at_least : k ≤ d.slots) (ratio : d.load * k ≡ l * d.slots) (uniform : UniformFrom k l d.slots ds) (asc : Ascending 1 list) where
    -- A full disk whose slots are all taken: the rest decides.
    taken_result :
        d.load ≤ total (within (window_of d list) list) → (window_of d list).size ≡ d.slots → Result k l ds (list_after d list)
        → Result k l (d ∷ ds) list
    taken_result reaches all (nothing_left none) = nothing_left none
    taken_result reaches all (all_full full) = all_full (omega (arith, copies_full d list slots load reaches))
    taken_result reaches all (mixed m) =
        mixed (record {
          full = suc m.full;
          full_slots = d.slots + m.full_slots;
          full_load = d.load + m.full_load;
          other_slots = m.other_slots;
          other_load = m.other_load;
          all_slots = omega (arith, m.all_slots);
          all_loads = omega (arith, m.all_loads);
          full_ratio = omega (arith, add-mul d.load m.full_load k, mul-add l d.slots m.full_slots, ratio, m.full_ratio);
          other_ratio = m.other_ratio;
          enough = omega (arith, mul-suc k m.full, m.enough, at_least);
          some = omega (arith, m.some);
          count = omega (arith, m.count, after_length d list slots load);
          serves = omega (arith, m.serves, copies_full d list slots load reaches);
          low = m.low;
        })

  -- What the method leaves on disks of one ratio, by ascending slots.
  pub share_result :
      (least : ℕ) (ds : List Disk) (list : List Item) → k ≤ least → UniformFrom k l least ds → Ascending 1 list → Result k l ds list
  share_result least [] list at_least uniform asc = all_full refl
  share_result least (d ∷ ds) list at_least uniform asc =
      by_order (total (within (window_of d list) list)) d.load
      (below_result k l some_slots some_load d ds list slots load more uniform.1 uniform.2 asc)
      (λ reaches. by_order (window_of d list).size d.slots
      (free_result k l some_slots some_load d ds list slots load more uniform.1 uniform.2 asc reaches)
      (λ h. taken_result d ds list slots load more uniform.1 uniform.2 asc reaches
      (omega (arith, window_size (window_cases d list load)))
      (share_result d.slots ds (list_after d list) more uniform.2 (after_ascending d list slots load asc))))
    where
      more : k ≤ d.slots
      more = omega (arith, uniform.0)

      slots : 1 ≤ d.slots
      slots = omega arith

      load : 1 ≤ d.load
      load = load_some k l some_slots some_load d.slots d.load slots uniform.1
