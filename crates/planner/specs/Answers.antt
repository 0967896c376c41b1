-- The numbers of planning's answer.
use Rattle.std.specs.Prelude.{Result}
use Rattle.refusal.specs.Verdict.{Numbers, answered}
use Rattle.refusal.specs.Numbers.{verdict_of}
use Rattle.refusal.specs.declared.Refusal.{Refusal}
use Rattle.placement.specs.Planning.{PlanSums, sums}
use Rattle.planner.specs.declared.answer.PlanSums.{PlanSums as Answered}

-- The numbers of a plan.
abbrev pub sums_of : Answered → PlanSums
sums_of a = sums a.served a.unserved a.left

-- The numbers of the answer.
abbrev pub plan_numbers : Result Answered Refusal → Numbers PlanSums
plan_numbers r = answered (sums 0 0 0) sums_of (verdict_of r)
