-- `planner::window::opening` meets its contract. The invariant: the films so far sum to less than the load, and the search goes on behind them.
use native.Mathlib.Omega.{arith}
use Rattle.planner.proofs.Openings.{openings_bounded, openings_pass, openings_find}
use Rattle.planner.proofs.window.opening.Goals as goal

pub overflow_add-sum : goal.overflow_add-sum
overflow_add-sum c = omega (arith, openings_bounded c.requires.0 c.loop-count.invariant c.amount-sum.ensures (omega arith) c.requires.3)

pub returns-then-load-sum : goal.returns-then-load-sum
returns-then-load-sum c =
    openings_find c.requires.0 c.loop-count.invariant
    c.amount-sum.ensures (omega arith) (omega arith)

pub loop-count-preserved : goal.loop-count-preserved
loop-count-preserved c =
    openings_pass c.requires.0 c.loop-count.invariant
    c.amount-sum.ensures (omega arith) (omega arith)
