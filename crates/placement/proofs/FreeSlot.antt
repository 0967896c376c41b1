-- What is left where a full disk has a free slot: its window opens the list, and the films after it are large (step 8 of
-- demand 3's argument).
use mathlib.Core.Path.{◌≡◌, refl, sym, ap, subst}
use mathlib.Core.Logic.{◌⊎◌, inl, inr}
use mathlib.Core.List.{List, ◌∷◌, ◌++◌}
use Prim.Native.Nat.{ℕ, zero, suc, ◌+◌, ◌-◌, ◌*◌, ◌≤◌, ◌<◌}
use native.Mathlib.Nat.{suc-mul, zero-add, mul-le-mul_left, mul-le-mul_right}
use native.Mathlib.Omega.{arith}
use lib.ListN.{length, take, drop}
use lib.Seq.{length-take-le}
use Rattle.placement.specs.Items.{Item, total}
use Rattle.placement.specs.Rack.{Disk, all_loads}
use Rattle.placement.specs.Window.{within, outside, window_of}
use Rattle.placement.specs.Disk.{list_after, remainder}
use Rattle.placement.specs.Method.{placement, remaining, served}
use Rattle.placement.specs.Promise.{UniformFrom}
use Rattle.placement.proofs.Windows.{window_cases, window_inside, window_some, window_later}
use Rattle.placement.proofs.Disks.{copies_full}
use Rattle.placement.proofs.Order.{Ascending, ascending_behind, largest, largest_upto, total_largest, amount_at}
use Rattle.placement.proofs.Steps.{after_ascending}
use Rattle.placement.proofs.LargeLists.{Large, large_enter, makes_of_load, large_lists}
use Rattle.placement.proofs.Remains.{Result, nothing_left, all_full}

-- m opening films that reach the load, fewer than the slots: the last of them makes it with one slot less.
opening_makes :
    (m slots load : ℕ) (list : List Item) → Ascending 1 list → 1 ≤ m → m ≤ length list → m < slots → load ≤ total (take m list)
    → load + amount_at list (m - 1) ≤ slots * amount_at list (m - 1)
opening_makes zero slots load list asc some inside free reaches = absurd (omega arith)
opening_makes (suc m) slots load list asc some inside free reaches =
    subst (λ (n : ℕ). load + amount_at list n ≤ slots * amount_at list n) (sym less)
    (omega (
      arith,
      total_largest (take (suc m) list),
      ap (λ (n : ℕ). n * largest (take (suc m) list)) (length-take-le (suc m) list inside),
      mul-le-mul_left (suc m) (largest_upto 1 m list asc inside),
      mul-le-mul_right (amount_at list m) free,
      suc-mul (suc m) (amount_at list m),
    ))
  where
    less : suc m - 1 ≡ m
    less = omega arith

behind_last :
    (m : ℕ) (list : List Item) → Ascending 1 list → 1 ≤ m → m ≤ length list → Ascending (amount_at list (m - 1)) (drop m list)
behind_last zero list asc some inside = absurd (omega arith)
behind_last (suc m) list asc some inside =
    subst (λ (n : ℕ). Ascending (amount_at list n) (drop (suc m) list)) (sym less) (ascending_behind 1 m list asc inside)
  where
    less : suc m - 1 ≡ m
    less = omega arith

module _ (k l : ℕ) (some_slots : 1 ≤ k) (some_load : 1 ≤ l) where
  module _ (d : Disk) (ds : List Disk) (list : List Item) (slots : 1 ≤ d.slots) (load : 1 ≤ d.load)
      (at_least : k ≤ d.slots) (ratio : d.load * k ≡ l * d.slots) (uniform : UniformFrom k l d.slots ds) (asc : Ascending 1 list) where
    -- A full disk with a free slot: its window opens the list, and the films after it are large.
    module _ (reaches : d.load ≤ total (within (window_of d list) list)) (free : (window_of d list).size < d.slots) where
      opens : (window_of d list).start ≡ 0
      opens = go (window_of d list).start refl
        where
          go : (s : ℕ) → (window_of d list).start ≡ s → s ≡ 0
          go zero e = refl
          go (suc s) e = absurd (omega (arith, (window_later (window_cases d list load) reaches (omega arith)).0))

      inside : (window_of d list).size ≤ length list
      inside = omega (arith, window_inside (window_cases d list load), opens)

      some : 1 ≤ (window_of d list).size
      some = window_some slots (window_cases d list load) reaches

      -- the amount of the window's last film
      abbrev last : ℕ
      last = amount_at list ((window_of d list).size - 1)

      last_makes : d.load + last ≤ d.slots * last
      last_makes =
          opening_makes (window_of d list).size d.slots d.load list asc some inside free
          (subst (λ (n : ℕ). d.load ≤ total (take (window_of d list).size (drop n list))) opens reaches)

      after_large : Large last (list_after d list)
      after_large =
          large_enter last (remainder d.load (within (window_of d list) list)) (outside (window_of d list) list)
          (subst (λ (n : ℕ). Ascending last (take n list ++ drop (n + (window_of d list).size) list)) (sym opens)
          (subst (λ (n : ℕ). Ascending last (drop n list)) (sym (zero-add (window_of d list).size))
          (behind_last (window_of d list).size list asc some inside)))

      pub free_result : Result k l (d ∷ ds) list
      free_result =
          go
          (large_lists k l some_slots some_load last d.slots ds (list_after d list) slots uniform
          (makes_of_load k l some_slots some_load last d.slots d.load ratio last_makes) (after_ascending d list slots load asc)
          after_large)
        where
          go : (total (remaining ds (list_after d list)) ≡ 0) ⊎ (served (placement ds (list_after d list)) ≡ all_loads ds)
              → Result k l (d ∷ ds) list
          go (inl none) = nothing_left none
          go (inr all) = all_full (omega (arith, copies_full d list slots load reaches))
