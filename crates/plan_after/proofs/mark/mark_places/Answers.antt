-- `plan_after::mark_places` meets its contract: each place is marked as its entry was at first.
use mathlib.Core.Path.{ap, ◌∙◌}
use Rattle.std.proofs.Common.{rules}
use lib.ListN.{set, get_or}
use Rattle.std.proofs.lemmas.List.Edits.{map_over_more}
use Rattle.plan_after.proofs.mark.mark_places.Invariants.{marks}
use Rattle.plan_after.proofs.mark.mark_places.Goals as goal

pub loop-place-preserved : goal.loop-place-preserved
loop-place-preserved c =
    let a = c.args in
    let i = c.loop-place.place-index in
    ap (set c.loop-place.places i) c.marked_entry.ensures
    ∙ map_over_more (marks a.held.now) a.places.now c.loop-place.places i (get_or c.loop-place.places i 0) c.loop-place-test.true c.loop-place.invariant (search rules)
