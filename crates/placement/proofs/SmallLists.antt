-- Lists whose amounts are all below the ratio: no disk is full, and each takes as many films as it has slots from the end of the list
-- (step 6 of demand 3's argument).
use mathlib.Core.Path.{◌≡◌, sym, ap, ◌∙◌, subst}
use mathlib.Core.Logic.{◌⊎◌, inl, inr}
use mathlib.Core.List.{List, [], ◌∷◌}
use Prim.Native.Nat.{ℕ, ◌+◌, ◌-◌, ◌*◌, ◌≤◌, ◌<◌}
use native.Mathlib.Nat.{mul-add, mul-zero, mul-le-mul_right}
use native.Mathlib.Omega.{arith}
use lib.ListN.{length, take}
use lib.Seq.{length-take-le}
use Rattle.placement.specs.Items.{Item, total}
use Rattle.placement.specs.Rack.{Disk, all_slots}
use Rattle.placement.specs.Window.{within, window_of}
use Rattle.placement.specs.Disk.{copies_of, list_after}
use Rattle.placement.specs.Method.{placement, remaining, served}
use Rattle.placement.specs.Promise.{UniformFrom}
use Rattle.placement.proofs.Tests.{by_order}
use Rattle.placement.proofs.Windows.{window_cases, window_size}
use Rattle.placement.proofs.Order.{Ascending, ascending_take, largest, largest_take, largest_before, amount_at}
use Rattle.placement.proofs.Steps.{after_below, copies_below, films_least, films_largest}
use Rattle.placement.proofs.Ratio.{load_some, slots_below, remaining_empty}

-- Of films of which `left` remain and `slots` places serve s: every slot holds a film, and each of these is at least as large as the
-- largest one left.
pub record Taken (list left : List Item) (slots s : ℕ) : Type 0 where
  pub count : length left + slots ≤ length list
  pub serves : largest left * slots ≤ s
  pub smaller : largest left ≤ largest list

-- Nothing is left, or every slot is taken.
abbrev pub SmallResult : List Disk → List Item → Type 0
SmallResult ds list =
    (total (remaining ds list) ≡ 0) ⊎ Taken list (remaining ds list) (all_slots ds) (served (placement ds list))

-- A disk that stays below its load takes the last films; what the other disks make of the rest is the result.
module _ (d : Disk) (ds : List Disk) (list : List Item) (some_slots : 1 ≤ d.slots) (some_load : 1 ≤ d.load)
    (asc : Ascending 1 list) (below : total (within (window_of d list) list) < d.load) (long : d.slots < length list) where
  abbrev rest : List Item
  rest = take (length list - d.slots) list

  after : list_after d list ≡ rest
  after = after_below d list some_slots some_load below

  -- What is left is no larger than the films of this disk.
  left_smaller : (xs : List Item) → largest xs ≤ largest rest → largest xs * d.slots ≤ total (copies_of d list)
  left_smaller xs h =
      omega (
        arith,
        mul-le-mul_right d.slots smaller,
        films_least d list some_slots some_load asc long below,
        ap total (copies_below d list some_slots some_load below),
      )
    where
      smaller : largest xs ≤ amount_at list (length list - d.slots)
      smaller = omega (arith, largest_before 1 (length list - d.slots) list asc (omega arith))

  pub taken_after :
      Taken rest (remaining ds rest) (all_slots ds) (served (placement ds rest))
      → Taken list (remaining ds rest) (d.slots + all_slots ds) (total (copies_of d list) + served (placement ds rest))
  taken_after t = record {
    count = omega (arith, t.count, length-take-le (length list - d.slots) list (omega arith));
    serves =
        omega (
          arith,
          mul-add (largest (remaining ds rest)) d.slots (all_slots ds),
          t.serves,
          left_smaller (remaining ds rest) t.smaller,
        );
    smaller = omega (arith, t.smaller, largest_take (length list - d.slots) list);
  }

  small_after : SmallResult ds rest → SmallResult (d ∷ ds) list
  small_after (inl none) = inl (ap (λ (r : List Item). total (remaining ds r)) after ∙ none)
  small_after (inr t) =
      inr
      (subst
      (λ (r : List Item). Taken list (remaining ds r) (d.slots + all_slots ds) (total (copies_of d list) + served (placement ds r)))
      (sym after) (taken_after t))

module _ (k l : ℕ) (some_slots : 1 ≤ k) (some_load : 1 ≤ l) where
  -- A list no longer than the slots of a disk that stays below its load is stored whole.
  pub whole_list :
      (d : Disk) (ds : List Disk) (list : List Item) → 1 ≤ d.slots → 1 ≤ d.load → UniformFrom k l d.slots ds
      → total (within (window_of d list) list) < d.load → length list ≤ d.slots
      → total (remaining ds (list_after d list)) ≡ 0
  whole_list d ds list slots load uniform below short =
      ap (λ (r : List Item). total (remaining ds r)) (after_below d list slots load below ∙ ap (λ (n : ℕ). take n list) none)
      ∙ remaining_empty k l some_slots some_load d.slots ds slots uniform
    where
      none : length list - d.slots ≡ 0
      none = omega arith

  -- No disk is full where all amounts are below the ratio.
  small_below :
      (d : Disk) (list : List Item) → 1 ≤ d.slots → 1 ≤ d.load → d.load * k ≡ l * d.slots → largest list * k < l
      → total (within (window_of d list) list) < d.load
  small_below d list slots load ratio small =
      omega (
        arith,
        films_largest d list slots load,
        mul-le-mul_right (largest list) (window_size (window_cases d list load)),
        slots_below k l some_slots some_load (largest list) d.slots d.load slots ratio small,
      )

  pub small_lists :
      (least : ℕ) (ds : List Disk) (list : List Item) → 1 ≤ least → UniformFrom k l least ds → Ascending 1 list
      → largest list * k < l → SmallResult ds list
  small_lists least [] list some uniform asc small =
      inr (record { count = omega arith; serves = omega (arith, mul-zero (largest list)); smaller = omega arith })
  small_lists least (d ∷ ds) list some uniform asc small =
      by_order d.slots (length list)
      (λ h. small_after d ds list slots load asc below h
      (small_lists d.slots ds (take (length list - d.slots) list) slots uniform.2
      (ascending_take 1 (length list - d.slots) list asc) smaller))
      (λ h. inl (whole_list d ds list slots load uniform.2 below h))
    where
      slots : 1 ≤ d.slots
      slots = omega (arith, uniform.0)

      load : 1 ≤ d.load
      load = load_some k l some_slots some_load d.slots d.load slots uniform.1

      below : total (within (window_of d list) list) < d.load
      below = small_below d list slots load uniform.1 small

      smaller : largest (take (length list - d.slots) list) * k < l
      smaller = omega (arith, mul-le-mul_right k (largest_take (length list - d.slots) list))
