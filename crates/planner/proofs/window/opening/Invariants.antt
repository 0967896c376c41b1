-- `planner::window::opening` meets its contract. The invariant: the films so far sum to less than the load, and the search goes on behind them.
use Prim.Native.Nat.{◌-◌}
use Rattle.planner.proofs.Openings.{OpeningsPassed}
use Rattle.planner.proofs.window.opening.Given as goal

abbrev pub invariant-loop-count : goal.invariant-loop-count
invariant-loop-count l = OpeningsPassed l.keys l.n l.slots l.load l.most l.count l.sum

abbrev pub decreases-loop-count : goal.decreases-loop-count
decreases-loop-count l = l.most - l.count
