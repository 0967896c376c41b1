-- `printing::print_plan` shows what is printed for N equal disks, whether planning refuses or not.
use Rattle.std.proofs.Common.{List, ap, ◌∙◌, take, replicate}
use Rattle.placement.specs.Rack.{Disk}
use Rattle.placement.specs.Packed.{disks_in}
use Rattle.placement.specs.Tables.{Tables, tables}
use Rattle.placement.specs.Planning.{Call, call}
use Rattle.plan_output.specs.Output.{printed_for}
use Rattle.plan_output.proofs.Answers.{refused_printed}
use Rattle.plan_output.proofs.Inputs.{sized_disks}
use Rattle.plan_output.proofs.Outputs.{shown_as}
use Rattle.plan_output.proofs.Texts.{planned_shown}
use Rattle.plan_output.proofs.printing.print_plan.Goals as goal

pub returns-in-Ok : goal.returns-in-Ok
returns-in-Ok c =
    let equal = sized_disks c.args.rack.disks c.args.rack.slots.0 c.args.rack.streams.0 c.disk_of-equal.result c.requires c.disk_of-equal.ensures.result_value in
    let asked : Call = call (disks_in (take c.args.rack.disks (replicate 64 c.disk_of-equal.result))) c.args.list.now in
    let held : Tables = tables c.plan.new.copies c.plan.new.counts c.plan.new.left in
    shown_as
    (planned_shown asked c.plan.result {after = held} c.new-own.ensures c.plan.ensures.promise c.in-Ok.is c.write.ensures.promise c.length_of.ensures)
    (ap (λ (rack : List Disk). printed_for (call rack c.args.list.now)) equal)

pub returns-in-Err : goal.returns-in-Err
returns-in-Err c =
    let equal = sized_disks c.args.rack.disks c.args.rack.slots.0 c.args.rack.streams.0 c.disk_of-equal.result c.requires c.disk_of-equal.ensures.result_value in
    let asked : Call = call (disks_in (take c.args.rack.disks (replicate 64 c.disk_of-equal.result))) c.args.list.now in
    let held : Tables = tables c.plan.new.copies c.plan.new.counts c.plan.new.left in
    shown_as c.refuse.ensures
    (refused_printed asked c.plan.result {after = held} c.new-own.ensures c.plan.ensures.promise c.in-Err.is
    ∙ ap (λ (rack : List Disk). printed_for (call rack c.args.list.now)) equal)
