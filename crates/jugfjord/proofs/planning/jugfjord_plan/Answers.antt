-- `jugfjord_plan` meets its contract: what `planner::plan` ensures of the packed disks.
use Rattle.placement.specs.PlanPromise.{PlanPromise}
use Rattle.placement.proofs.LongRacks.{cut_promise}
use Rattle.jugfjord.proofs.planning.PlanWalk.{packed_meets}
use Rattle.jugfjord.proofs.planning.jugfjord_plan.Goals as goal

pub returns : goal.returns
returns c =
    packed_meets PlanPromise (λ rack list entry exit answer. cut_promise rack list entry) c.args.rack.now _ c.pack-packed.ensures
    _ c.held-disks.ensures c.from.ensures c.plan.ensures.promise
