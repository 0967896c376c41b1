-- `planner::window::find_window` meets its contract: the search through the openings goes on through the sliding windows.
use mathlib.Core.Path.{◌≡◌, sym, ap, ◌∙◌}
use mathlib.Core.Bool.{Bool, cond}
use mathlib.Core.List.{List}
use Prim.Native.Nat.{ℕ, ◌≤◌, ◌<◌}
use native.Mathlib.Omega.{arith}
use borrow.Author.Tests.{le-leb, lt-leb}
use lib.Dec.{leb}
use lib.ListN.{length, take}
use Rattle.placement.specs.Items.{Item, total}
use Rattle.placement.specs.Rack.{disk}
use Rattle.placement.specs.Window.{Window, window, openings, slidings, last_window, first_reaching, window_of}
use Rattle.placement.proofs.Search.{first_reaching_append}
use Rattle.placement.proofs.WindowCases.{take_min}
use Rattle.planner.specs.Search.{Opened}
use Rattle.placement.proofs.ReadBack.{front_length}
use Rattle.planner.specs.Keys.{items_of}
use Rattle.planner.proofs.window.find_window.Goals as goal

module _ (slots load : ℕ) (list : List Item) (count sum : ℕ) (o : Opened slots load list count sum) where
  -- The disk's window by what the search through the openings has found.
  window_by :
      window_of (disk slots load) list
      ≡ cond (leb load sum) (window 0 count)
      (first_reaching load list (slidings slots (length list)) (last_window slots (length list)))
  window_by =
      first_reaching_append load list (openings slots (length list)) (slidings slots (length list)) (last_window slots (length list))
      ∙ o.search (first_reaching load list (slidings slots (length list)) (last_window slots (length list)))

  opening_found : load ≤ sum → window 0 count ≡ window_of (disk slots load) list
  opening_found h = sym (window_by ∙ ap (λ (b : Bool). cond b (window 0 count) (first_reaching load list (slidings slots (length list)) (last_window slots (length list)))) (le-leb load sum h))

  slide_found :
      (n : ℕ) (w : Window) → length list ≡ n → sum < load → w ≡ first_reaching load list (slidings slots n) (last_window slots n)
      → w ≡ window_of (disk slots load) list
  slide_found n w e h found =
      found
      ∙ ap (λ (m : ℕ). first_reaching load list (slidings slots m) (last_window slots m)) (sym e)
      ∙ sym
      (window_by
      ∙ ap (λ (b : Bool). cond b (window 0 count) (first_reaching load list (slidings slots (length list)) (last_window slots (length list))))
      (lt-leb load sum h))

  -- Openings that stay below the load sum to the first window of the slide.
  first_sum : sum < load → sum ≡ total (take slots list)
  first_sum h = o.sums ∙ ap (λ (m : ℕ). total (take m list)) (o.longest h) ∙ ap total (take_min slots list)

pub returns-then-load-first : goal.returns-then-load-first
returns-then-load-first c =
    let opened = c.opening-first.ensures in
    record {
      size_value = opening_found c.args.slots c.args.load (items_of c.args.n c.args.keys.now) c.opening-first.result.count c.opening-first.result.sum opened (omega arith);
      sum_value = opened.sums;
    }

pub returns : goal.returns
returns c =
    record {
      size_value = slide_found c.args.slots c.args.load (items_of c.args.n c.args.keys.now) c.opening-first.result.count c.opening-first.result.sum c.opening-first.ensures c.args.n (window c.slide.result.start c.slide.result.size) (front_length c.args.n c.args.keys.now c.requires.n_in_bounds.0) (omega arith) c.slide.ensures.size_value;
      sum_value = c.slide.ensures.sum_value;
    }
