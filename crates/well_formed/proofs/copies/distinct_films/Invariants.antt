-- The copies not yet passed give the answer for all.
use Rattle.std.proofs.Common.{◌≡◌, map, drop}
use Rattle.placement.specs.Copies.{unmarked}
use Rattle.placement.specs.Tables.{copies_in}
use Rattle.placement.specs.Plan.{distinct_films}
use Rattle.well_formed.proofs.copies.distinct_films.Given as goal

abbrev pub invariant-loop-i : goal.invariant-loop-i
invariant-loop-i l = distinct_films (map unmarked (copies_in l.copies)) ≡ distinct_films (map unmarked (copies_in (drop l.i l.copies)))
