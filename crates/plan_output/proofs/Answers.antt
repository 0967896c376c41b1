-- What planning's answer says of its verdict, and of what is printed.
use mathlib.Core.Path.{◌≡◌, refl, sym, ap, ◌∙◌}
use Prim.Native.Nat.{ℕ}
use native.Mathlib.Omega.{arith}
use lib.ListN.{length}
use Rattle.refusal.specs.Verdict.{Verdict, given, refused, Numbers}
use Rattle.refusal.specs.Numbers.{number_of, second_of}
use Rattle.refusal.specs.declared.Refusal.{Refusal}
use Rattle.placement.specs.Tables.{Tables, own_tables}
use Rattle.placement.specs.Planning.{Call, PlanSums as Sums, verdict, plan_in, answer_for, holding_call, tables_for, planning, tables_after}
use Rattle.placement.specs.PlanPromise.{PlanPromise}
use Rattle.plan_text.specs.RefusalLine.{refusal_text}
use Rattle.std.specs.Prelude.{Result, Ok, Err}
use Rattle.planner.specs.declared.answer.PlanSums.{PlanSums}
use Rattle.planner.specs.Answers.{plan_numbers}
use Rattle.refusal.proofs.Refusals.{number_some}
use Rattle.plan_output.specs.Output.{printed, printed_for}
use Rattle.plan_output.proofs.Small.{Small, small_verdict}

abbrev refusal_in : Numbers Sums → ℕ
refusal_in n = n.refusal

-- A call, tables that are the program's own, and what planning promises of its answer.
module _ (c : Call) (a : Result PlanSums Refusal) {before after : Tables} (own : before ≡ own_tables) (promise : PlanPromise c before after (plan_numbers a)) where
  answered : plan_numbers a ≡ planning c own_tables
  answered = promise.numbers ∙ ap (planning c) own

  -- The line of the refusal that is answered is what is printed for the call.
  pub refused_printed : {r : Refusal} → a ≡ Err r → refusal_text (number_of r) (second_of r) ≡ printed_for c
  unfolding planning
  refused_printed {r} here = go (verdict c own_tables) (sym (ap plan_numbers here) ∙ answered)
    where
      go : (v : Verdict (Unit {0})) → plan_numbers (Err r) ≡ answer_for c v → refusal_text (number_of r) (second_of r) ≡ printed c v
      go (given u) e = absurd (omega (arith, number_some r, ap refusal_in e))
      go (refused number second) e = ap (λ (n : Numbers Sums). refusal_text n.refusal n.second) e

  module _ {s : PlanSums} (here : a ≡ Ok s) where
    -- A plan that is answered is given by the verdict.
    pub planned_verdict : verdict c own_tables ≡ given tt
    unfolding planning
    planned_verdict = go (verdict c own_tables) (small_verdict c own_tables) (sym (ap plan_numbers here) ∙ answered)
      where
        go : (v : Verdict (Unit {0})) → Small v → plan_numbers (Ok s) ≡ answer_for c v → v ≡ given tt
        go (given tt) small e = refl
        go (refused number second) small e = absurd (omega (arith, ap refusal_in e))

    -- The number of left films is that of the plan.
    pub planned_left : s.left ≡ length (plan_in c).left
    unfolding planning
    planned_left =
        ap (λ (m : Numbers Sums). m.values.left) (sym (ap plan_numbers here) ∙ answered ∙ ap (answer_for c) planned_verdict)

    -- The tables hold the plan.
    pub planned_after : after ≡ holding_call c own_tables
    unfolding tables_after
    planned_after = promise.tables ∙ ap (tables_after c) own ∙ ap (tables_for c own_tables) planned_verdict
