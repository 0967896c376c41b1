-- The promise of planning after an earlier plan follows from its definition.
use mathlib.Core.Path.{◌≡◌, refl, sym, ap, ap₂, subst, ◌∙◌}
use mathlib.Core.List.{List}
use Prim.Native.Nat.{ℕ, ◌≤◌, ◌<◌}
use native.Mathlib.Omega.{arith}
use lib.ListN.{length}
use Rattle.refusal.specs.Verdict.{Verdict, given, refused, followed_by, Numbers, afterwards}
use Rattle.refusal.proofs.Verdicts.{Numbered}
use Rattle.placement.specs.Copies.{Copy, layout_of, mark_for, marked}
use Rattle.placement.specs.Tables.{Tables, tables}
use Rattle.placement.specs.Plan.{Plan}
use Rattle.placement.specs.Planning.{Call, PlanSums, layout_in, verdict, planning, tables_after, answer_for, tables_for}
use Rattle.placement.proofs.Calls.{call_well_formed}
use Rattle.placement.proofs.PlanPromise.{verdict_numbered, plan_promise}
use Rattle.plan_text.specs.ReadCall.{text_verdict}
use Rattle.plan_text.proofs.Verdicts.{verdict_text, verdict_line, verdict_eight, given_refused}
use Rattle.plan_after.specs.After.{holding_after, answer_after, tables_given_after, planning_after, tables_after_earlier, without_marks}
use Rattle.plan_after.specs.AfterPromise.{on_disk, copy_at, PlanAfterPromise}
use Rattle.plan_after.proofs.WithoutMarks.{without_marks_lem, copies_held_lem, layout_same}
use Rattle.plan_after.proofs.MarkedAt.{marked_at}

-- A plan of a verdict.
abbrev plan_or : Plan → Verdict Plan → Plan
plan_or d (given p) = p
plan_or d (refused number second) = d

-- Planning without an earlier text, by its verdict.
module _ (c : Call) (t : Tables) where
  pub planning_is : (v : Verdict (Unit {0})) → verdict c t ≡ v → planning c t ≡ answer_for c v
  unfolding planning
  planning_is v e = ap (answer_for c) e

  pub tables_are : (v : Verdict (Unit {0})) → verdict c t ≡ v → tables_after c t ≡ tables_for c t v
  unfolding tables_after
  tables_are v e = ap (tables_for c t) e

-- What holds by the two verdicts: on the call, and on the earlier text.
module _ (c : Call) (text : List ℕ) (t : Tables) where
  -- Planning after an earlier text, by both.
  module _ (v : Verdict (Unit {0})) (w : Verdict Plan) (e : verdict c t ≡ v) (f : text_verdict text ≡ w) where
    numbers_are : answer_after c (followed_by v w) ≡ planning_after c text t
    unfolding planning_after
    numbers_are = ap₂ (λ (a : Verdict (Unit {0})) (b : Verdict Plan). answer_after c (followed_by a b)) (sym e) (sym f)

    places_are : tables_given_after c t (followed_by v w) ≡ tables_after_earlier c text t
    unfolding tables_after_earlier
    places_are = ap₂ (λ (a : Verdict (Unit {0})) (b : Verdict Plan). tables_given_after c t (followed_by a b)) (sym e) (sym f)

  -- A refusal of planning comes first.
  refused_first :
      (n s : ℕ) (w : Verdict Plan) → verdict c t ≡ refused n s → text_verdict text ≡ w
      → PlanAfterPromise c text t t (answer_after c (refused n s))
  refused_first n s w e f =
      let some : 1 ≤ n = subst Numbered e (verdict_numbered c t) in
      let same : planning c t ≡ answer_for c (refused n s) = planning_is c t (refused n s) e in
      let number : (planning c t).refusal ≡ n = ap (λ (a : Numbers PlanSums). a.refusal) same in
      record {
        numbers = numbers_are (refused n s) w e f;
        tables = places_are (refused n s) w e f;
        unchanged = λ h. refl;
        first = λ h. sym same;
        refused_line = λ h. absurd (omega (arith, some, number, h));
        refused_length = λ h. absurd (omega (arith, some, number, h));
        accepted = λ h. sym same;
        planned = λ h. absurd (omega (arith, some, h));
        layout = λ h. absurd (omega (arith, some, h));
        marks = λ h. absurd (omega (arith, some, h));
      }

  -- The earlier text is refused behind them.
  refused_text :
      (n s : ℕ) → verdict c t ≡ given tt → text_verdict text ≡ refused n s
      → PlanAfterPromise c text t t (answer_after c (refused n s))
  refused_text n s e f =
      let same : planning c t ≡ answer_for c (given tt) = planning_is c t (given tt) e in
      let number : (planning c t).refusal ≡ 0 = ap (λ (a : Numbers PlanSums). a.refusal) same in
      let some : n ≡ 0 → ⊥ = λ h. let eight : n ≡ 8 = (verdict_eight text n s f (λ nine. omega arith)).0 in omega arith in
      record {
        numbers = numbers_are (given tt) (refused n s) e f;
        tables = places_are (given tt) (refused n s) e f;
        unchanged = λ h. refl;
        first = λ h. absurd (omega (arith, number, h));
        refused_line = λ h nine. verdict_line text s (f ∙ ap (λ (m : ℕ). refused m s) nine);
        refused_length = λ h refuses other. let eight = verdict_eight text n s f other in (eight.0, eight.2);
        accepted = λ a. given_refused a.plan n s (sym (verdict_text a.plan a.formed) ∙ ap text_verdict a.same ∙ f);
        planned = λ h. absurd (some h);
        layout = λ h. absurd (some h);
        marks = λ h. absurd (some h);
      }

  -- Neither is refused.
  planned_after :
      (p : Plan) → verdict c t ≡ given tt → text_verdict text ≡ given p
      → PlanAfterPromise c text t (holding_after c p t) (answer_after c (given p))
  planned_after p e f =
      let same : planning c t ≡ answer_for c (given tt) = planning_is c t (given tt) e in
      let number : (planning c t).refusal ≡ 0 = ap (λ (a : Numbers PlanSums). a.refusal) same in
      let formed = call_well_formed c t e in
      record {
        numbers = numbers_are (given tt) (given p) e f;
        tables = places_are (given tt) (given p) e f;
        unchanged = λ h. absurd (omega (arith, h));
        first = λ h. absurd (omega (arith, number, h));
        refused_line = λ h nine. absurd (omega (arith, nine));
        refused_length = λ h refuses. absurd (omega (arith, refuses));
        accepted = λ a. sym same;
        planned = λ h.
            plan_promise c t (without_marks c.rack (holding_after c p t)) (answer_after c (given p)) (sym same)
            (without_marks_lem c t formed (layout_of p.copies) ∙ sym (tables_are c t (given tt) e));
        layout = λ h. layout_same c t formed (layout_of p.copies);
        marks = λ h q ok is d i less.
            let held = copies_held_lem c t formed (layout_of p.copies) in
            let there : q ≡ p = ap (plan_or p) (sym (verdict_text q ok) ∙ ap text_verdict is ∙ f) in
            subst (λ (l : List (List Copy)). i < length (on_disk l d) → (copy_at l d i).mark ≡ mark_for (on_disk (layout_of q.copies) d) (copy_at l d i).film) (sym held)
            (λ few. marked_at (layout_of p.copies) (layout_in c) d i few
            ∙ ap (λ (r : Plan). mark_for (on_disk (layout_of r.copies) d) (copy_at (marked (layout_of p.copies) (layout_in c)) d i).film) (sym there)) less;
      }

  -- What comes first where both may refuse.
  by_verdicts : (v : Verdict (Unit {0})) (w : Verdict Plan) → verdict c t ≡ v → text_verdict text ≡ w → PlanAfterPromise c text t (tables_given_after c t (followed_by v w)) (answer_after c (followed_by v w))
  by_verdicts (refused n s) w e f = refused_first n s w e f
  by_verdicts (given u) (refused n s) e f = refused_text n s e f
  by_verdicts (given u) (given p) e f = planned_after p e f

  by_definition : PlanAfterPromise c text t (tables_after_earlier c text t) (planning_after c text t)
  unfolding planning_after tables_after_earlier
  by_definition = by_verdicts (verdict c t) (text_verdict text) refl refl

  -- An answer and tables that are the definition's keep the whole promise.
  pub after_promise :
      {exit : Tables} {answer : Numbers PlanSums} → answer ≡ planning_after c text t → exit ≡ tables_after_earlier c text t
      → PlanAfterPromise c text t exit answer
  after_promise {exit} {answer} numbers tables =
      subst (λ (a : Numbers PlanSums). PlanAfterPromise c text t exit a) (sym numbers)
      (subst (λ (x : Tables). PlanAfterPromise c text t x (planning_after c text t)) (sym tables) by_definition)

  -- Where the text is refused, planning behind which its refusal stands keeps the promise.
  pub refused_behind :
      (n s : ℕ) {exit : Tables} {answer : Numbers PlanSums} → text_verdict text ≡ refused n s → answer ≡ answer_for c (followed_by (verdict c t) (refused n s))
      → exit ≡ tables_for c t (followed_by (verdict c t) (refused n s)) → PlanAfterPromise c text t exit answer
  unfolding planning_after tables_after_earlier
  refused_behind n s f numbers tables =
      after_promise (numbers ∙ same_numbers (verdict c t) ∙ ap (λ (w : Verdict Plan). answer_after c (followed_by (verdict c t) w)) (sym f))
      (tables ∙ same_tables (verdict c t) ∙ ap (λ (w : Verdict Plan). tables_given_after c t (followed_by (verdict c t) w)) (sym f))
    where
      same_numbers : (v : Verdict (Unit {0})) → answer_for c (followed_by v (refused n s)) ≡ answer_after c (followed_by v (refused n s))
      same_numbers (given u) = refl
      same_numbers (refused m r) = refl

      same_tables : (v : Verdict (Unit {0})) → tables_for c t (followed_by v (refused n s)) ≡ tables_given_after c t (followed_by v (refused n s))
      same_tables (given u) = refl
      same_tables (refused m r) = refl

  -- Where it is the text of a plan, planning and the marks keep it.
  pub marked_promise :
      (p : Plan) {exit : Tables} {answer : Numbers PlanSums} → text_verdict text ≡ given p → answer ≡ answer_for c (verdict c t)
      → exit ≡ afterwards t (λ u. holding_after c p t) (verdict c t) → PlanAfterPromise c text t exit answer
  unfolding planning_after tables_after_earlier
  marked_promise p f numbers tables =
      after_promise (numbers ∙ same_numbers (verdict c t) ∙ ap (λ (w : Verdict Plan). answer_after c (followed_by (verdict c t) w)) (sym f))
      (tables ∙ same_tables (verdict c t) ∙ ap (λ (w : Verdict Plan). tables_given_after c t (followed_by (verdict c t) w)) (sym f))
    where
      same_numbers : (v : Verdict (Unit {0})) → answer_for c v ≡ answer_after c (followed_by v (given p))
      same_numbers (given u) = refl
      same_numbers (refused m r) = refl

      same_tables : (v : Verdict (Unit {0})) → afterwards t (λ (u : Unit {0}). holding_after c p t) v ≡ tables_given_after c t (followed_by v (given p))
      same_tables (given u) = refl
      same_tables (refused m r) = refl
