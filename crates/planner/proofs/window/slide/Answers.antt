-- `planner::window::slide` meets its contract. The invariant: the window at `start` sums to less than the load, and the search goes on behind it.
use Prim.Native.Nat.{◌≤◌}
use native.Mathlib.Omega.{arith}
use lib.ListN.{get_or}
use Rattle.planner.specs.Keys.{item_of}
use Rattle.planner.proofs.Slides.{slides_first, slides_bounded, slides_pass, slides_find, slides_find_sum}
use Rattle.planner.proofs.window.slide.Goals as goal

pub overflow_sub-sum : goal.overflow_sub-sum
overflow_sub-sum c =
    let first : (item_of (get_or c.args.keys.now c.loop-start.start 0)).amount ≤ c.loop-start.sum =
    slides_first c.requires.n_in_bounds.0 c.loop-start.invariant c.requires.n_in_bounds.1
    (omega arith) in
    omega (arith, c.amount.ensures)

pub overflow_add-sum : goal.overflow_add-sum
overflow_add-sum c =
    omega (
      arith,
      slides_bounded c.requires.n_in_bounds.0 c.loop-start.invariant c.amount.ensures c.amount-in-loop-start.ensures c.requires.n_in_bounds.1 (omega arith)
          c.requires.n_in_bounds.3,
    )

pub loop-start-preserved : goal.loop-start-preserved
loop-start-preserved c = slides_pass c.requires.n_in_bounds.0 c.loop-start.invariant c.amount.ensures c.amount-in-loop-start.ensures c.requires.n_in_bounds.1 (omega arith) (omega arith)

pub returns-then-load-sum : goal.returns-then-load-sum
returns-then-load-sum c =
    record {
      size_value = slides_find c.requires.n_in_bounds.0 c.loop-start.invariant c.amount.ensures c.amount-in-loop-start.ensures c.requires.n_in_bounds.1 (omega arith) (omega arith);
      sum_value = slides_find_sum c.requires.n_in_bounds.0 c.loop-start.invariant c.amount.ensures c.amount-in-loop-start.ensures c.requires.n_in_bounds.1 (omega arith);
    }
