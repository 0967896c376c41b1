-- `planner::window::slide` meets its contract. The invariant: the window at `start` sums to less than the load, and the search goes on behind it.
use Prim.Native.Nat.{◌-◌}
use Rattle.planner.proofs.Slides.{SlidesPassed}
use Rattle.planner.proofs.window.slide.Given as goal

abbrev pub invariant-loop-start : goal.invariant-loop-start
invariant-loop-start l = SlidesPassed l.keys l.n l.slots l.load l.start l.sum

abbrev pub decreases-loop-start : goal.decreases-loop-start
decreases-loop-start l = l.n - l.start
