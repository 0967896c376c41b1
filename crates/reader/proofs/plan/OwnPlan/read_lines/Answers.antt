-- `reader::plan::OwnPlan::read_lines` meets its contract: at each `return` the lines before say what the whole text says.
use Rattle.std.proofs.Common.{ap}
use Rattle.std.proofs.lemmas.Result.{err_from_is_err_and}
use Rattle.placement.specs.Tables.{Tables}
use Rattle.reader.proofs.PlanReading.{rack_accepted_lem, plan_no_rack, plan_no_disk, plan_no_tail, plan_fits}
use Rattle.reader.proofs.plan.OwnPlan.read_lines.Goals as goal

pub returns-in_default : goal.returns-in_default
returns-in_default c = plan_no_rack c.new-cursor.ensures c.in_default.ensures

pub disk_lines-requires : goal.disk_lines-requires
disk_lines-requires c = record {
  accepted = rack_accepted_lem c.new-cursor.ensures c.in-Some.ensures;
  own_copies = ap (λ (t : Tables). t.copies) c.requires;
  own_counts = ap (λ (t : Tables). t.counts) c.requires;
}

pub returns-in_err-served : goal.returns-in_err-served
returns-in_err-served c =
    let p = err_from_is_err_and c.from_residual.result c.from_residual.ensures.1 in
    rw (p.1, p.2) (plan_no_disk c.new-cursor.ensures c.in-Some.ensures c.in_err-served.ensures)

pub returns-in_err-tail : goal.returns-in_err-tail
returns-in_err-tail c =
    let e = c.from_residual-in_err-tail in
    let p = err_from_is_err_and e.result e.ensures.1 in
    rw (p.1, p.2)
    (plan_no_tail c.new-cursor.ensures c.in-Some.ensures c.in_ok-served.ensures c.in_err-tail.ensures)

pub returns : goal.returns
returns c =
    plan_fits c.new-cursor.ensures c.in-Some.ensures c.in_ok-served.ensures c.in_ok-tail.ensures
    c.tail_lines.auto.left
