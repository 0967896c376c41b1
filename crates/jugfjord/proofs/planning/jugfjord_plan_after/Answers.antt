-- `jugfjord_plan_after` meets its contract: what `plan_after::plan_after` ensures of the packed disks.
use Rattle.refusal.specs.Verdict.{Numbers}
use Rattle.placement.specs.Tables.{Tables}
use Rattle.placement.specs.Planning.{Call, PlanSums}
use Rattle.plan_after.specs.AfterPromise.{PlanAfterPromise}
use Rattle.plan_after.proofs.LongRacks.{cut_after}
use Rattle.jugfjord.proofs.planning.PlanWalk.{packed_meets}
use Rattle.jugfjord.proofs.planning.jugfjord_plan_after.Goals as goal

pub returns : goal.returns
returns c =
    packed_meets (λ (asked : Call) (entry exit : Tables) (answer : Numbers PlanSums). PlanAfterPromise asked c.args.earlier.now entry exit answer)
    (λ rack list entry exit answer. cut_after rack list c.args.earlier.now entry) c.args.rack.now _ c.pack-packed.ensures
    _ c.held-disks.ensures c.from.ensures c.plan_after.ensures.promise
