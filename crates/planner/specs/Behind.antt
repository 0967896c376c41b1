-- What planning promises where another judgement stands behind its refusals.
use Rattle.std.specs.Prelude.{◌≡◌}
use Rattle.refusal.specs.Verdict.{Verdict, followed_by, Numbers}
use Rattle.placement.specs.Tables.{Tables}
use Rattle.placement.specs.Planning.{Call, PlanSums, verdict, answer_for, tables_for}

-- The answer and every place of every lent table are those of the first refusal, planning's before the other's, or of the plan.
pub record BehindPromise (call : Call) (behind : Verdict (Unit {0})) (entry exit : Tables) (answer : Numbers PlanSums) : Type 0 where
  pub numbers : answer ≡ answer_for call (followed_by (verdict call entry) behind)
  pub tables : exit ≡ tables_for call entry (followed_by (verdict call entry) behind)
