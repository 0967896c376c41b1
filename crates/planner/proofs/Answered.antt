-- The answer of planning and the verdict on the call: a refusal and a plan keep planning's promise.
use mathlib.Core.Path.{◌≡◌, refl, sym, ap, subst, ◌∙◌}
use Rattle.std.specs.Prelude.{Result, Ok, Err}
use Rattle.std.specs.Result.{result_and}
use Rattle.refusal.specs.Verdict.{Verdict, given, refused, followed_by, Numbers, answered}
use Rattle.refusal.specs.Numbers.{refusal_of, verdict_of}
use Rattle.refusal.specs.declared.Refusal.{Refusal}
use Rattle.placement.specs.Tables.{Tables}
use Rattle.placement.specs.Planning.{Call, PlanSums as Sums, sums, sums_in, verdict, answer_for, holding_call, tables_for, planning, tables_after}
use Rattle.placement.specs.PlanPromise.{PlanPromise}
use Rattle.placement.proofs.PlanPromise.{plan_promise}
use Rattle.planner.specs.declared.answer.PlanSums.{PlanSums}
use Rattle.planner.specs.Answers.{sums_of, plan_numbers}
use Rattle.planner.specs.Behind.{BehindPromise}

module _ (c : Call) (t : Tables) where
  -- What the verdict gives is what planning answers and leaves.
  numbers_by : (v : Verdict (Unit {0})) (numbers : Numbers Sums) → v ≡ verdict c t → numbers ≡ answer_for c v → numbers ≡ planning c t
  unfolding planning
  numbers_by v numbers e answer = answer ∙ ap (λ (w : Verdict (Unit {0})). answer_for c w) e

  tables_by : (v : Verdict (Unit {0})) (exit : Tables) → v ≡ verdict c t → exit ≡ tables_for c t v → exit ≡ tables_after c t
  unfolding tables_after
  tables_by v exit e tables = tables ∙ ap (λ (w : Verdict (Unit {0})). tables_for c t w) e

  -- A refusal that leaves the tables as they were keeps the promise.
  pub refused_promise : (r : Refusal) → refusal_of r ≡ verdict c t → PlanPromise c t t (plan_numbers (Err r))
  refused_promise r refuses =
      plan_promise c t t (plan_numbers (Err r)) (numbers_by (refusal_of r) (plan_numbers (Err r)) refuses refl)
      (tables_by (refusal_of r) t refuses refl)

  -- The numbers of a plan are the answer for a call that is not refused.
  pub planned_numbers : (a : PlanSums) → sums_of a ≡ sums_in c → plan_numbers (Ok a) ≡ answer_for c (given tt)
  planned_numbers a e = ap (λ (v : Sums). answered (sums 0 0 0) (λ (w : Sums). w) (given v)) e

  -- A plan keeps the promise.
  pub planned_promise :
      (a : PlanSums) (exit : Tables) → verdict c t ≡ given tt → sums_of a ≡ sums_in c → exit ≡ holding_call c t
      → PlanPromise c t exit (plan_numbers (Ok a))
  planned_promise a exit e numbers tables =
      plan_promise c t exit (plan_numbers (Ok a)) (numbers_by (given tt) (plan_numbers (Ok a)) (sym e) (planned_numbers a numbers))
      (tables_by (given tt) exit (sym e) tables)

  -- What is refused behind planning's judgement, or planned, keeps the promise of planning behind it.
  module _ (other : Verdict (Unit {0})) where
    abbrev last : Verdict (Unit {0}) → Verdict (Unit {0})
    last v = followed_by v other

    pub behind_refused : (r : Refusal) → refusal_of r ≡ last (verdict c t) → BehindPromise c other t t (plan_numbers (Err r))
    behind_refused r e = record { numbers = ap (answer_for c) e; tables = ap (tables_for c t) e }

    -- A refusal of planning's own does,
    pub behind_first : (r : Refusal) → refusal_of r ≡ verdict c t → BehindPromise c other t t (plan_numbers (Err r))
    behind_first r e = behind_refused r (ap last e)

    -- and where planning refuses nothing, so does the other judgement's.
    pub behind_second : (r : Refusal) → verdict c t ≡ given tt → other ≡ refusal_of r → BehindPromise c other t t (plan_numbers (Err r))
    behind_second r e is = behind_refused r (sym is ∙ ap last (sym e))

    pub behind_passes : given tt ≡ last (verdict c t) → verdict c t ≡ given tt
    behind_passes e = go (verdict c t) e
      where
        IsGiven : Verdict (Unit {0}) → Type 0
        IsGiven (given u) = Unit {0}
        IsGiven (refused number second) = ⊥

        go : (v : Verdict (Unit {0})) → given tt ≡ last v → v ≡ given tt
        go (given u) p = refl
        go (refused number second) p = absurd (subst IsGiven p tt)

    pub behind_planned :
        {exit : Tables} {answer : Numbers Sums} → given tt ≡ last (verdict c t) → answer ≡ answer_for c (given tt) → exit ≡ holding_call c t
        → BehindPromise c other t exit answer
    behind_planned e numbers tables = record { numbers = numbers ∙ ap (answer_for c) e; tables = tables ∙ ap (tables_for c t) e }

-- One judgement and another behind it, as verdicts.
pub joined : (j b : Result (Unit {0}) Refusal) → verdict_of (result_and j b) ≡ followed_by (verdict_of j) (verdict_of b)
joined (Ok u) b = refl
joined (Err r) b = refl
