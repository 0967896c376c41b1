-- `planner::plan` keeps planning's whole promise.
use Rattle.std.proofs.lemmas.Result.{err_from_is_err_and}
use mathlib.Core.Path.{◌≡◌, refl, sym}
use Rattle.refusal.specs.Verdict.{given}
use Rattle.placement.specs.Packed.{disks_in}
use Rattle.placement.specs.Tables.{Tables, tables}
use Rattle.placement.specs.Planning.{Call, call, verdict}
use Rattle.planner.proofs.Answered.{refused_promise, planned_promise}
use Rattle.planner.proofs.Fulfilled.{plannable}
use Rattle.planner.proofs.plan.Goals as goal

pub returns-in_err-judge-clause-promise : goal.returns-in_err-judge-clause-promise
returns-in_err-judge-clause-promise c =
    let called : Call = call (disks_in c.args.rack.now) c.args.list.now in
    let lent : Tables = tables c.args.copies.now c.args.counts.now c.args.left.now in
    let p = err_from_is_err_and c.from_residual.result c.from_residual.ensures.1 in
    rw (p.1, p.2) (refused_promise called lent _ (c.in_err-judge.ensures lent refl refl refl))

pub fill_tables-requires : goal.fill_tables-requires
fill_tables-requires c =
    let called : Call = call (disks_in c.args.rack.now) c.args.list.now in
    let lent : Tables = tables c.args.copies.now c.args.counts.now c.args.left.now in
    plannable called lent (sym (c.in_ok-judge.ensures lent refl refl refl))

pub returns-clause-promise : goal.returns-clause-promise
returns-clause-promise c =
    let called : Call = call (disks_in c.args.rack.now) c.args.list.now in
    let lent : Tables = tables c.args.copies.now c.args.counts.now c.args.left.now in
    planned_promise called lent c.fill_tables.result _ (sym (c.in_ok-judge.ensures lent refl refl refl))
    c.fill_tables.ensures.result_value c.fill_tables.ensures.left_after
