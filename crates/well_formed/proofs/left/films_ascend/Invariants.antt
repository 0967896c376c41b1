-- The films not yet passed, above the last one passed, give the answer for all.
use Rattle.std.proofs.Common.{◌≡◌, map, drop}
use Rattle.placement.specs.Tables.{item_in}
use Rattle.placement.specs.Plan.{ascending_above}
use Rattle.well_formed.proofs.left.films_ascend.Given as goal

abbrev pub invariant-loop-entry : goal.invariant-loop-entry
invariant-loop-entry l = ascending_above 0 (map item_in l.left) ≡ ascending_above l.last (map item_in (drop l.entry-index l.left))
