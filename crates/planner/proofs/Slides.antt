-- The search through the sliding windows, film by film: what is known when the first ones are passed.
use mathlib.Core.Path.{◌≡◌, sym, ap, ap₂, ◌∙◌, subst}
use mathlib.Core.List.{List}
use Prim.Native.Nat.{ℕ, suc, ◌+◌, ◌-◌, ◌≤◌, ◌<◌, min}
use native.Mathlib.Nat.{sub-zero}
use native.Mathlib.Numerals.{add-one}
use native.Mathlib.Omega.{arith}
use lib.ListN.{length, take, drop, get_or}
use Rattle.placement.specs.Items.{total}
use Rattle.placement.specs.Rack.{most_demand}
use Rattle.placement.specs.Window.{window, series, slidings, last_window, first_reaching}
use Rattle.placement.specs.WellFormed.{Each, Entry}
use Rattle.placement.proofs.WindowSums.{sliding_bounded}
use Rattle.planner.specs.Keys.{items_of, item_of}
use Rattle.planner.proofs.Runs.{run_moves, run_first, run_whole}
use Rattle.planner.proofs.Search.{search_passes, search_finds}

-- The window at `start` and all before it stay below the load.
pub record SlidesPassed (keys : List ℕ) (n slots load start sum : ℕ) : Type 0 where
  pub near : start ≤ n - slots
  pub sums : sum ≡ total (take slots (drop start (items_of n keys)))
  pub low : sum < load
  pub search :
      first_reaching load (items_of n keys) (slidings slots n) (last_window slots n)
      ≡ first_reaching load (items_of n keys) (series (λ s. window s slots) (suc start) (n - slots - start)) (last_window slots n)

-- At first the window stands at the list's start.
pub slides_begin : (keys : List ℕ) (n slots load first : ℕ) → first ≡ total (take slots (items_of n keys)) → first < load → SlidesPassed keys n slots load 0 first
slides_begin keys n slots load first e low = record {
  near = omega arith;
  sums = e;
  low = low;
  search =
      ap (λ (m : ℕ). first_reaching load (items_of n keys) (series (λ s. window s slots) 1 m) (last_window slots n))
      (sym (sub-zero (n - slots)));
}

module _ {keys : List ℕ} {n slots load start sum : ℕ} (room : n ≤ length keys) (p : SlidesPassed keys n slots load start sum) where
  -- No window is left: this one is the last.
  pub slides_end : n - start ≤ slots → window start (n - start) ≡ first_reaching load (items_of n keys) (slidings slots n) (last_window slots n)
  slides_end h =
      ap₂ (λ (s m : ℕ). window s m) starts sizes
      ∙ sym (p.search ∙ ap (λ (m : ℕ). first_reaching load (items_of n keys) (series (λ s. window s slots) (suc start) m) (last_window slots n)) none_left)
    where
      starts : start ≡ n - slots
      starts = omega (arith, p.near)

      sizes : n - start ≡ min slots n
      sizes = omega (arith, p.near)

      none_left : n - slots - start ≡ 0
      none_left = omega (arith, p.near)

  pub slides_end_sum : n - start ≤ slots → sum ≡ total (take (n - start) (drop start (items_of n keys)))
  slides_end_sum h =
      p.sums ∙ ap total (run_whole keys n room slots (n - start) start (omega arith) (omega arith))

  -- The first film's amount is part of the sum.
  pub slides_first : 1 ≤ slots → slots < n - start → (item_of (get_or keys start 0)).amount ≤ sum
  slides_first some h = omega (arith, run_first keys n room slots start some (omega arith), p.sums)

  module _ {a b : ℕ} (a_is : a ≡ (item_of (get_or keys start 0)).amount) (b_is : b ≡ (item_of (get_or keys (start + slots) 0)).amount) (some : 1 ≤ slots) (h : slots < n - start) where
    sums_move : sum - a + b ≡ total (take slots (drop (suc start) (items_of n keys)))
    sums_move = omega (arith, run_moves keys n room slots start (omega arith), p.sums, a_is, b_is, slides_first some h)

    one_left : n - slots - start ≡ suc (n - slots - suc start)
    one_left = omega arith

    -- One film further keeps to the bound.
    pub slides_bounded : Each (Entry most_demand) (items_of n keys) → sum - a + b + 1 ≤ load + most_demand
    slides_bounded entries =
        omega (arith, sums_move, sliding_bounded load (items_of n keys) entries slots start (omega (arith, p.sums, p.low)))

    -- The next window stays below the load.
    pub slides_pass : sum - a + b < load → SlidesPassed keys n slots load (start + 1) (sum - a + b)
    slides_pass low =
        rw add-one
        (record {
          near = omega arith;
          sums = sums_move;
          low = low;
          search =
              p.search
              ∙ search_passes load (items_of n keys) (λ s. window s slots) (last_window slots n) (suc start) (n - slots - start) (n - slots - suc start) one_left
              (subst (λ (t : ℕ). t < load) sums_move low);
        })

    -- The next window reaches the load.
    pub slides_find :
        load ≤ sum - a + b
        → window (start + 1) slots ≡ first_reaching load (items_of n keys) (slidings slots n) (last_window slots n)
    slides_find high =
        ap (λ (s : ℕ). window s slots) (add-one start)
        ∙ sym
        (p.search
        ∙ search_finds load (items_of n keys) (λ s. window s slots) (last_window slots n) (suc start) (n - slots - start) (n - slots - suc start) one_left
        (subst (λ (t : ℕ). load ≤ t) sums_move high))

    pub slides_find_sum : sum - a + b ≡ total (take slots (drop (start + 1) (items_of n keys)))
    slides_find_sum = rw add-one sums_move
