-- `jugfjord_plan_terminal` meets its contract: what `plan_terminal::plan_terminal` ensures of the packed disks.
use Rattle.plan_terminal.specs.TerminalPromise.{TerminalPromise}
use Rattle.plan_terminal.proofs.LongRacks.{cut_terminal}
use Rattle.jugfjord.proofs.planning.PlanWalk.{packed_meets}
use Rattle.jugfjord.proofs.planning.jugfjord_plan_terminal.Goals as goal

pub returns : goal.returns
returns c =
    packed_meets TerminalPromise (λ rack list entry exit answer. cut_terminal rack list entry) c.args.rack.now _ c.pack-packed.ensures
    _ c.held-disks.ensures c.from.ensures c.plan_terminal.ensures.promise
