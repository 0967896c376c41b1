-- One disk's step on an ascending list: what follows where the window stays below the load, and how long the next list is.
use mathlib.Core.Path.{◌≡◌, sym, ap, ◌∙◌, subst}
use mathlib.Core.Bool.{Bool, true, false, cond}
use mathlib.Core.List.{List, [], ◌++◌, append-nil}
use Prim.Native.Nat.{ℕ, ◌+◌, ◌-◌, ◌*◌, ◌≤◌, ◌<◌}
use native.Mathlib.Nat.{mul-le-mul_left}
use native.Mathlib.Omega.{arith}
use lib.Dec.{leb}
use lib.ListN.{length, take, drop, length-drop}
use lib.Seq.{length-take-le, drop-length, take-nil, drop-nil}
use Rattle.placement.specs.Items.{Item, total, insert_by, before}
use Rattle.placement.specs.Rack.{Disk}
use Rattle.placement.specs.Window.{within, outside, window_of}
use Rattle.placement.specs.Disk.{remainder, copies_of, list_after}
use Rattle.placement.proofs.Tests.{passed}
use Rattle.placement.proofs.Sums.{sum_by_cut, sum_by_window, length_sum, one}
use Rattle.placement.proofs.Windows.{Windowed, window_cases, window_inside, window_below}
use Rattle.placement.proofs.Disks.{stored_below, after_sum, before_sum}
use Rattle.placement.proofs.Order.{Ascending, ascending_outside, ascending_enter, ascending_from, amount_at, total_least, largest, largest_take, largest_drop, total_largest}

module _ (d : Disk) (list : List Item) (some_slots : 1 ≤ d.slots) (some_load : 1 ≤ d.load) where
  abbrev films : List Item
  films = within (window_of d list) list

  windowed : Windowed d list (window_of d list)
  windowed = window_cases d list some_load

  pub films_length : length films ≡ (window_of d list).size
  films_length =
      length-take-le (window_of d list).size (drop (window_of d list).start list)
      (subst (λ (n : ℕ). (window_of d list).size ≤ n) (sym (length-drop (window_of d list).start list))
      (omega (arith, window_inside windowed)))

  -- A window below the load leaves the films in front of the last slots' ones.
  outside_below : total films < d.load → outside (window_of d list) list ≡ take (length list - d.slots) list
  outside_below h =
      ap (λ (r : List Item). take (window_of d list).start list ++ r)
      (ap (λ (n : ℕ). drop n list) (window_below windowed h).0 ∙ drop-length list)
      ∙ append-nil (take (window_of d list).start list)
      ∙ ap (λ (n : ℕ). take n list) starts
    where
      starts : (window_of d list).start ≡ length list - d.slots
      starts = omega (arith, (window_below windowed h).0, (window_below windowed h).1)

  pub after_below : total films < d.load → list_after d list ≡ take (length list - d.slots) list
  after_below h =
      passed (remainder d.load films).amount (insert_by before (remainder d.load films) (outside (window_of d list) list))
      (outside (window_of d list) list) (omega arith)
      ∙ outside_below h

  pub copies_below : total films < d.load → copies_of d list ≡ films
  copies_below h = stored_below d.load films h

  -- Such a window sums to what the list has from there on.
  films_below : total films < d.load → total films ≡ total (drop (length list - d.slots) list)
  films_below h =
      omega (
        arith,
        sum_by_window (λ x. x.amount) (window_of d list) list,
        sum_by_cut (λ x. x.amount) (length list - d.slots) list,
        ap total (outside_below h),
      )

  -- Its films are each at least as large as the first of them.
  pub films_least :
      Ascending 1 list → d.slots < length list → total films < d.load
      → amount_at list (length list - d.slots) * d.slots ≤ total films
  films_least asc long h =
      omega (
        arith,
        films_below h,
        total_least (amount_at list (length list - d.slots)) (drop (length list - d.slots) list)
            (ascending_from 1 (length list - d.slots) list asc (omega arith)),
        ap (λ (n : ℕ). amount_at list (length list - d.slots) * n) whole,
      )
    where
      whole : length (drop (length list - d.slots) list) ≡ d.slots
      whole = length-drop (length list - d.slots) list ∙ omega arith

  -- The largest film of a window is one of the list.
  pub films_largest : total films ≤ (window_of d list).size * largest list
  films_largest =
      subst (λ (n : ℕ). total films ≤ n * largest list) films_length
      (omega (arith, total_largest films, mul-le-mul_left (length films) smaller))
    where
      smaller : largest films ≤ largest list
      smaller =
          omega (
            arith,
            largest_take (window_of d list).size (drop (window_of d list).start list),
            largest_drop (window_of d list).start list,
          )

  -- The next list ascends again.
  pub after_ascending : Ascending 1 list → Ascending 1 (list_after d list)
  after_ascending asc =
      ascending_enter (remainder d.load films) (outside (window_of d list) list)
      (ascending_outside 1 (window_of d list).start (window_of d list).size list asc)

  -- The window's films leave the list and at most one returns.
  pub after_length : length (list_after d list) + (window_of d list).size ≤ length list + 1
  after_length =
      omega (
        arith,
        length_sum (list_after d list),
        length_sum films,
        length_sum list,
        films_length,
        after_sum d list some_slots some_load one,
        before_sum d list some_slots some_load one,
        at_most_one (leb 1 (remainder d.load films).amount),
      )
    where
      at_most_one : (b : Bool) → cond b 1 0 ≤ 1
      at_most_one true = omega arith
      at_most_one false = omega arith

-- An empty list stays empty.
pub after_empty : (d : Disk) → 1 ≤ d.slots → 1 ≤ d.load → list_after d [] ≡ []
after_empty d some_slots some_load =
    after_below d [] some_slots some_load (subst (λ (r : List Item). total r < d.load) (sym empty) some_load)
    ∙ take-nil (0 - d.slots)
  where
    empty : within (window_of d []) [] ≡ []
    empty = ap (λ (r : List Item). take (window_of d []).size r) (drop-nil (window_of d []).start) ∙ take-nil (window_of d []).size
