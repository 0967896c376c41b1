-- What planning's answer says of its refusal.
use mathlib.Core.Path.{◌≡◌, refl}
use Prim.Native.Nat.{◌≤◌}
use Rattle.std.specs.Prelude.{Ok, Err}
use Rattle.refusal.proofs.Refusals.{number_some}
use Rattle.refusal.specs.declared.Refusal.{Refusal}
use Rattle.planner.specs.declared.answer.PlanSums.{PlanSums}
use Rattle.planner.specs.Answers.{plan_numbers}

-- A plan has the number 0,
pub planned_none : (sums : PlanSums) → (plan_numbers (Ok sums)).refusal ≡ 0
planned_none sums = refl

-- and a refusal another one.
pub refused_some : (r : Refusal) → 1 ≤ (plan_numbers (Err r)).refusal
refused_some r = number_some r
