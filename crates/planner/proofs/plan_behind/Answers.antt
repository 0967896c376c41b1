-- `planner::plan_behind` keeps its promise: planning's refusals, then the other one, then the plan.
use Rattle.std.proofs.lemmas.Result.{err_from_is_err_and}
use Rattle.std.specs.Result.{result_and}
use mathlib.Core.Path.{◌≡◌, refl, ap, ◌∙◌}
use Rattle.refusal.specs.Verdict.{Verdict, followed_by}
use Rattle.refusal.specs.Numbers.{verdict_of}
use Rattle.placement.specs.Packed.{disks_in}
use Rattle.placement.specs.Tables.{Tables, tables}
use Rattle.placement.specs.Planning.{Call, call, verdict}
use Rattle.planner.proofs.Answered.{behind_refused, behind_passes, behind_planned, joined, planned_numbers}
use Rattle.planner.proofs.Fulfilled.{plannable}
use Rattle.planner.proofs.plan_behind.Goals as goal

pub returns-in_err-and-clause-promise : goal.returns-in_err-and-clause-promise
returns-in_err-and-clause-promise c =
    let called : Call = call (disks_in c.args.rack.now) c.args.list.now in
    let lent : Tables = tables c.args.copies.now c.args.counts.now c.args.left.now in
    let judgements : verdict_of (result_and c.judge.result c.args.behind) ≡ followed_by (verdict called lent) (verdict_of c.args.behind) = joined c.judge.result c.args.behind ∙ ap (λ (v : Verdict (Unit {0})). followed_by v (verdict_of c.args.behind)) (c.judge.ensures lent refl refl refl) in
    let p = err_from_is_err_and c.from_residual.result c.from_residual.ensures.1 in
    rw (p.1, p.2) (behind_refused called lent (verdict_of c.args.behind) _ (ap verdict_of c.in_err-and.ensures ∙ judgements))

pub fill_tables-requires : goal.fill_tables-requires
fill_tables-requires c =
    let called : Call = call (disks_in c.args.rack.now) c.args.list.now in
    let lent : Tables = tables c.args.copies.now c.args.counts.now c.args.left.now in
    let judgements : verdict_of (result_and c.judge.result c.args.behind) ≡ followed_by (verdict called lent) (verdict_of c.args.behind) = joined c.judge.result c.args.behind ∙ ap (λ (v : Verdict (Unit {0})). followed_by v (verdict_of c.args.behind)) (c.judge.ensures lent refl refl refl) in
    plannable called lent (behind_passes called lent (verdict_of c.args.behind) (ap verdict_of c.in_ok-and.ensures ∙ judgements))

pub returns-clause-promise : goal.returns-clause-promise
returns-clause-promise c =
    let called : Call = call (disks_in c.args.rack.now) c.args.list.now in
    let lent : Tables = tables c.args.copies.now c.args.counts.now c.args.left.now in
    let judgements : verdict_of (result_and c.judge.result c.args.behind) ≡ followed_by (verdict called lent) (verdict_of c.args.behind) = joined c.judge.result c.args.behind ∙ ap (λ (v : Verdict (Unit {0})). followed_by v (verdict_of c.args.behind)) (c.judge.ensures lent refl refl refl) in
    behind_planned called lent (verdict_of c.args.behind) (ap verdict_of c.in_ok-and.ensures ∙ judgements)
    (planned_numbers called lent c.fill_tables.result c.fill_tables.ensures.result_value) c.fill_tables.ensures.left_after
