-- What is left where a disk stays below its load: those after it do, too, and every slot is taken (steps 6 and 9 of demand 3's
-- argument).
use mathlib.Core.Path.{◌≡◌, sym, ap, ◌∙◌, subst}
use mathlib.Core.Logic.{inl, inr}
use mathlib.Core.List.{List, [], ◌∷◌}
use Prim.Native.Nat.{ℕ, suc, ◌+◌, ◌-◌, ◌*◌, ◌≤◌, ◌<◌}
use native.Mathlib.Nat.{mul-add, add-mul, mul-zero, zero-mul, mul-le-mul_right}
use native.Mathlib.Omega.{arith}
use lib.ListN.{length, take}
use Rattle.placement.specs.Items.{Item, total}
use Rattle.placement.specs.Rack.{Disk, all_slots, all_loads}
use Rattle.placement.specs.Window.{within, window_of}
use Rattle.placement.specs.Disk.{copies_of}
use Rattle.placement.specs.Method.{placement, remaining, served}
use Rattle.placement.specs.Promise.{UniformFrom}
use Rattle.placement.proofs.Tests.{by_order}
use Rattle.placement.proofs.Order.{Ascending, ascending_take, largest, largest_before, amount_at}
use Rattle.placement.proofs.Steps.{after_below, films_least}
use Rattle.placement.proofs.Ratio.{ratio_below}
use Rattle.placement.proofs.SmallLists.{Taken, SmallResult, small_lists, taken_after, whole_list}
use Rattle.placement.proofs.Remains.{Mixed, Result, nothing_left, mixed}

module _ (k l : ℕ) (some_slots : 1 ≤ k) (some_load : 1 ≤ l) where
  -- All loads and all slots of disks of one ratio are in that ratio.
  all_ratio : (least : ℕ) (ds : List Disk) → UniformFrom k l least ds → all_loads ds * k ≡ l * all_slots ds
  all_ratio least [] uniform = omega (arith, zero-mul k, mul-zero l)
  all_ratio least (d ∷ ds) uniform =
      omega (
        arith,
        add-mul d.load (all_loads ds) k,
        mul-add l d.slots (all_slots ds),
        uniform.1,
        all_ratio d.slots ds uniform.2,
      )

  module _ (d : Disk) (ds : List Disk) (list : List Item) (slots : 1 ≤ d.slots) (load : 1 ≤ d.load)
      (at_least : k ≤ d.slots) (ratio : d.load * k ≡ l * d.slots) (uniform : UniformFrom k l d.slots ds) (asc : Ascending 1 list) where
    abbrev rest : List Item
    rest = take (length list - d.slots) list

    -- A disk below its load: those after it are, too, and every slot is taken.
    module _ (low : total (within (window_of d list) list) < d.load) (long : d.slots < length list) where
      rest_small : largest rest * k < l
      rest_small =
          omega
          (arith, first, mul-le-mul_right k (largest_before 1 (length list - d.slots) list asc (omega arith)))
        where
          first : amount_at list (length list - d.slots) * k < l
          first =
              ratio_below k l some_slots some_load (amount_at list (length list - d.slots)) d.slots d.load ratio
              (omega (arith, films_least d list slots load asc long low))

      mixed_below :
          Taken rest (remaining ds rest) (all_slots ds) (served (placement ds rest))
          → Mixed k l (suc (length ds)) (d.slots + all_slots ds) (d.load + all_loads ds) (length list)
          (total (copies_of d list) + served (placement ds rest)) (remaining ds rest)
      mixed_below t = record {
        full = 0;
        full_slots = 0;
        full_load = 0;
        other_slots = d.slots + all_slots ds;
        other_load = d.load + all_loads ds;
        all_slots = omega arith;
        all_loads = omega arith;
        full_ratio = omega (arith, zero-mul k, mul-zero l);
        other_ratio = all_ratio d.slots (d ∷ ds) (omega arith, ratio, uniform);
        enough = omega (arith, mul-zero k);
        some = omega arith;
        count = omega (arith, (taken_after d ds list slots load asc low long t).count);
        serves = omega (arith, (taken_after d ds list slots load asc low long t).serves);
        low = omega (arith, rest_small, mul-le-mul_right k t.smaller);
      }

      below_long : SmallResult ds rest → Result k l (d ∷ ds) list
      below_long (inl none) =
          nothing_left (ap (λ (r : List Item). total (remaining ds r)) (after_below d list slots load low) ∙ none)
      below_long (inr t) =
          mixed
          (subst
          (λ (r : List Item). Mixed k l (suc (length ds)) (d.slots + all_slots ds) (d.load + all_loads ds) (length list)
          (total (copies_of d list) + served (placement ds r)) (remaining ds r))
          (sym (after_below d list slots load low)) (mixed_below t))

    pub below_result : total (within (window_of d list) list) < d.load → Result k l (d ∷ ds) list
    below_result low =
        by_order d.slots (length list)
        (λ long. below_long low long
        (small_lists k l some_slots some_load d.slots ds rest slots uniform (ascending_take 1 (length list - d.slots) list asc)
        (rest_small low long)))
        (λ short. nothing_left (whole_list k l some_slots some_load d ds list slots load uniform low short))
