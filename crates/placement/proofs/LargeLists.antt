-- Where one slot less of a large list makes each disk's load, every disk is full until the list is empty
-- (step 8 of demand 3's argument).
use mathlib.Core.Path.{◌≡◌, refl, sym, ap, subst}
use mathlib.Core.Logic.{◌⊎◌, inl, inr}
use mathlib.Core.List.{List, [], ◌∷◌, ◌++◌}
use Prim.Native.Nat.{ℕ, zero, suc, ◌+◌, ◌-◌, ◌*◌, ◌≤◌, ◌<◌}
use native.Mathlib.Nat.{mul-add, add-mul, mul_comm, mul_assoc, zero-add, mul-le-mul_left, mul-le-mul_right, le_of_mul-le-mul_right, le_of_mul-le-mul_left}
use native.Mathlib.Omega.{arith}
use lib.ListN.{length, take, drop}
use Rattle.placement.specs.Items.{Item, total}
use Rattle.placement.specs.Rack.{Disk, all_loads}
use Rattle.placement.specs.Window.{within, outside, window_of}
use Rattle.placement.specs.Disk.{copies_of, list_after, remainder}
use Rattle.placement.specs.Method.{placement, remaining, served}
use Rattle.placement.specs.Promise.{UniformFrom}
use Rattle.placement.proofs.Tests.{by_order}
use Rattle.placement.proofs.Windows.{window_cases, window_inside, window_some, window_later, window_below}
use Rattle.placement.proofs.Disks.{copies_full}
use Rattle.placement.proofs.Order.{Ascending}
use Rattle.placement.proofs.Steps.{after_ascending}
use Rattle.placement.proofs.Ratio.{load_some}
use Rattle.placement.proofs.SmallLists.{whole_list}
pub use Rattle.placement.proofs.Large.{Large, large_enter}
use Rattle.placement.proofs.Large.{large_drop, large_opening}

module _ (k l : ℕ) (some_slots : 1 ≤ k) (some_load : 1 ≤ l) where
  -- "One slot less makes the load", at the ratio and `slots` slots.
  abbrev pub Makes : ℕ → ℕ → Type 0
  Makes a slots = l * slots + k * a ≤ k * (slots * a)

  -- It holds of a disk where it holds of its slots.
  load_made : (a slots load : ℕ) → load * k ≡ l * slots → Makes a slots → load + a ≤ slots * a
  load_made a slots load ratio makes =
      le_of_mul-le-mul_left
      (omega (arith, mul-add k load a, mul_comm k load, ratio))
      some_slots

  pub makes_of_load : (a slots load : ℕ) → load * k ≡ l * slots → load + a ≤ slots * a → Makes a slots
  makes_of_load a slots load ratio h =
      omega (arith, mul-le-mul_left k h, mul-add k load a, mul_comm k load, ratio)

  -- It holds of more slots where it holds of fewer.
  makes_more : (a slots more : ℕ) → 1 ≤ slots → slots ≤ more → Makes a slots → Makes a more
  makes_more a slots more some h makes =
      omega (
        arith,
        ap (λ (n : ℕ). l * n) sum,
        mul-add l slots (more - slots),
        ap (λ (n : ℕ). k * (n * a)) sum,
        ap (λ (n : ℕ). k * n) (add-mul slots (more - slots) a),
        mul-add k (slots * a) ((more - slots) * a),
        extra,
      )
    where
      sum : more ≡ slots + (more - slots)
      sum = omega arith

      -- l ≤ k * a
      each : l ≤ k * a
      each =
          le_of_mul-le-mul_right {k = slots}
          (omega (arith, mul_assoc k a slots, ap (λ (n : ℕ). k * n) (mul_comm a slots)))
          some

      extra : l * (more - slots) ≤ k * ((more - slots) * a)
      extra =
          omega (
            arith,
            mul-le-mul_right (more - slots) each,
            mul_assoc k a (more - slots),
            ap (λ (n : ℕ). k * n) (mul_comm a (more - slots)),
          )

  module _ (a : ℕ) (d : Disk) (list : List Item) (slots : 1 ≤ d.slots) (load : 1 ≤ d.load)
      (made : d.load + a ≤ d.slots * a) (large : Large a list) where
    -- The opening slots' films of a large list reach the load.
    opening_reaches : d.slots ≤ length list → total (take d.slots list) < d.load → ⊥
    opening_reaches long low = omega (arith, large_opening a d.slots list long large)

    -- So a full disk's window opens the list, and the next list is large again.
    large_after : d.load ≤ total (within (window_of d list) list) → Large a (list_after d list)
    large_after reaches = go (window_of d list).start refl
      where
        go : (s : ℕ) → (window_of d list).start ≡ s → Large a (list_after d list)
        go zero e =
            large_enter a (remainder d.load (within (window_of d list) list)) (outside (window_of d list) list)
            (subst (λ (s : ℕ). Ascending a (take s list ++ drop (s + (window_of d list).size) list)) (sym e)
            (subst (λ (m : ℕ). Ascending a (drop m list)) (sym (zero-add (window_of d list).size))
            (large_drop a (window_of d list).size list (window_some slots (window_cases d list load) reaches) large)))
        go (suc s) e =
            absurd (opening_reaches (omega (arith, inside, later.0)) later.1)
          where
            later : ((window_of d list).size ≡ d.slots) × (total (take d.slots list) < d.load)
            later = window_later (window_cases d list load) reaches (omega arith)

            inside : (window_of d list).start + (window_of d list).size ≤ length list
            inside = window_inside (window_cases d list load)

  -- Nothing is left, or every disk is full.
  pub large_lists :
      (a least : ℕ) (ds : List Disk) (list : List Item) → 1 ≤ least → UniformFrom k l least ds → Makes a least → Ascending 1 list
      → Large a list → (total (remaining ds list) ≡ 0) ⊎ (served (placement ds list) ≡ all_loads ds)
  large_lists a least [] list some uniform makes asc large = inr refl
  large_lists a least (d ∷ ds) list some uniform makes asc large =
      by_order (total (within (window_of d list) list)) d.load
      (λ low. inl (whole_list k l some_slots some_load d ds list slots load uniform.2 low (short low)))
      (λ reaches. full reaches
      (large_lists a d.slots ds (list_after d list) slots uniform.2 more (after_ascending d list slots load asc)
      (large_after a d list slots load made large reaches)))
    where
      slots : 1 ≤ d.slots
      slots = omega (arith, uniform.0)

      load : 1 ≤ d.load
      load = load_some k l some_slots some_load d.slots d.load slots uniform.1

      more : Makes a d.slots
      more = makes_more a least d.slots some uniform.0 makes

      made : d.load + a ≤ d.slots * a
      made = load_made a d.slots d.load uniform.1 more

      short : total (within (window_of d list) list) < d.load → length list ≤ d.slots
      short low =
          by_order d.slots (length list)
          (λ h. absurd (opening_reaches a d list slots load made large (omega arith) (window_below (window_cases d list load) low).2))
          (λ h. h)

      full : d.load ≤ total (within (window_of d list) list)
          → (total (remaining ds (list_after d list)) ≡ 0) ⊎ (served (placement ds (list_after d list)) ≡ all_loads ds)
          → (total (remaining ds (list_after d list)) ≡ 0) ⊎ (total (copies_of d list) + served (placement ds (list_after d list)) ≡ d.load + all_loads ds)
      full reaches (inl none) = inl none
      full reaches (inr all) = inr (omega (arith, copies_full d list slots load reaches))
