-- `planner::store::store_entries` meets its contract. The invariant: the places so far hold the run's entries, with zeros behind them.
use mathlib.Core.Path.{◌≡◌}
use Prim.Native.Nat.{◌-◌, ◌≤◌}
use Rattle.placement.specs.Tables.{padded}
use Rattle.placement.proofs.Written.{overwritten}
use Rattle.planner.proofs.Copies.{entries_of}
use Rattle.planner.proofs.store.store_entries.Given as goal

abbrev pub invariant-loop-place : goal.invariant-loop-place
invariant-loop-place l = (l.place ≤ l.places) × (l.table ≡ overwritten (padded l.places (entries_of l.keys l.start l.size l.over)) l.initial.table l.place)

abbrev pub decreases-loop-place : goal.decreases-loop-place
decreases-loop-place l = l.places - l.place
