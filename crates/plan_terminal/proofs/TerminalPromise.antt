-- The promise of planning on the purser's terminal follows from its definition.
use mathlib.Core.Path.{◌≡◌, refl, sym, ap, ap₂, subst, ◌∙◌}
use mathlib.Core.Bool.{true, false, cond}
use Rattle.std.specs.Prelude.{Err}
use Prim.Native.Nat.{ℕ, ◌≤◌}
use native.Mathlib.Omega.{arith}
use Rattle.refusal.specs.Verdict.{Verdict, given, refused, Numbers}
use Rattle.refusal.specs.Numbers.{refusal_of}
use Rattle.refusal.specs.declared.Refusal.{Refusal}
use Rattle.refusal.proofs.Verdicts.{Numbered}
use Rattle.refusal.proofs.Refusals.{number_some}
use Rattle.placement.specs.Records.{shape_judged}
use Rattle.placement.specs.Tables.{Tables}
use Rattle.placement.specs.Planning.{Call, PlanSums, rack_judged, verdict, plan_in, planning, tables_after, answer_for, tables_for, holding_call}
use Rattle.placement.specs.PlanPromise.{PlanPromise}
use Rattle.placement.proofs.Conjunctions.{false_true, cond_true, cond_false}
use Rattle.placement.proofs.Tests.{by_test}
use Rattle.placement.proofs.PlanPromise.{plan_promise}
use Rattle.plan_text.specs.Text.{lines_of, text_of}
use Rattle.plan_text.specs.WriteCall.{WriteCall, write_call, plan_of}
use Rattle.planner.specs.Answers.{plan_numbers}
use Rattle.plan_terminal.specs.Terminal.{fits_terminal, terminal_verdict, terminal_planning, terminal_tables_after}
use Rattle.plan_terminal.specs.TerminalPromise.{Writes, TerminalPromise}
use Rattle.plan_terminal.proofs.TerminalChain.{fits_verdict, large_verdict, large_seventeen, given_fits, terminal_numbered, not_seventeen}
use Rattle.plan_terminal.proofs.OtherRefusals.{Other, office_other, terminal_enough}
use Rattle.plan_terminal.proofs.OfficeText.{room_verdict, after_planning, plan_is, planned_writes}

module _ (c : Call) (t : Tables) where
  -- Planning's promise where its verdict is the terminal's.
  same_promise : (v : Verdict (Unit {0})) → verdict c t ≡ v → PlanPromise c t (tables_for c t v) (answer_for c v)
  unfolding planning tables_after
  same_promise v e = plan_promise c t (tables_for c t v) (answer_for c v) (sym (ap (answer_for c) e)) (sym (ap (tables_for c t) e))

  -- A refusal keeps the terminal's,
  refused_keeps : (n s : ℕ) → terminal_verdict c t ≡ refused n s → TerminalPromise c t t (answer_for c (refused n s))
  unfolding terminal_planning terminal_tables_after
  refused_keeps n s e =
      let some : 1 ≤ n = subst Numbered e (terminal_numbered c t) in
      record {
        numbers = sym (ap (answer_for c) e);
        tables = sym (ap (tables_for c t) e);
        unchanged = λ h. refl;
        refuses_size = λ rack whole few large.
            let seventeen : refused n s ≡ refused 17 0 = sym e ∙ large_verdict c t large ∙ large_seventeen c rack whole few in
            (ap (λ (v : Verdict (Unit {0})). (answer_for c v).refusal) seventeen, ap (λ (v : Verdict (Unit {0})). (answer_for c v).second) seventeen);
        too_large = λ seventeen.
            by_test (fits_terminal c) (λ fits. absurd (subst (Other 17) (sym (fits_verdict c t fits) ∙ e) (office_other c t) seventeen)) (λ large. large);
        office = λ other. same_promise (refused n s) (not_seventeen c t n s e other);
        office_answer = λ h. absurd (omega (arith, some, h));
        lines = λ h. absurd (omega (arith, some, h));
        text = λ h. absurd (omega (arith, some, h));
        office_text = λ h. absurd (omega (arith, some, h));
        enough = λ copies counts left. subst (Other 7) e (terminal_enough c t copies counts left);
      }

  -- What the office answers and leaves with tables for which the call is planned.
  module _ (other : Tables) (there : verdict c other ≡ given tt) where
    answer_is : planning c other ≡ answer_for c (given tt)
    unfolding planning
    answer_is = ap (answer_for c) there

    after_is : tables_after c other ≡ holding_call c other
    unfolding tables_after
    after_is = ap (tables_for c other) there

    writing_is : write_call c.rack (tables_after c other) (planning c other).values.left ≡ after_planning c other
    writing_is = ap₂ (λ (x : Tables) (a : Numbers PlanSums). write_call c.rack x a.values.left) after_is answer_is

  -- and so does a plan.
  planned_keeps : terminal_verdict c t ≡ given tt → TerminalPromise c t (holding_call c t) (answer_for c (given tt))
  unfolding terminal_planning terminal_tables_after
  planned_keeps e =
      let fits : fits_terminal c ≡ true = given_fits c t e in
      let here : verdict c t ≡ given tt = sym (fits_verdict c t fits) ∙ e in
      record {
        numbers = sym (ap (answer_for c) e);
        tables = sym (ap (tables_for c t) e);
        unchanged = λ h. absurd (omega (arith, h));
        refuses_size = λ rack whole few large. false_true (sym large ∙ fits);
        too_large = λ seventeen. absurd (omega (arith, seventeen));
        office = λ h. same_promise (given tt) here;
        office_answer = λ h other room. answer_is other (room_verdict c t other here room);
        lines = λ h other room.
            let there : verdict c other ≡ given tt = room_verdict c t other here room in
            ap (λ (w : WriteCall). lines_of (plan_of w)) (writing_is other there) ∙ ap lines_of (plan_is c other there ∙ sym (plan_is c t here));
        text = λ h. planned_writes c t here;
        office_text = λ h other room.
            let there : verdict c other ≡ given tt = room_verdict c t other here room in
            subst (Writes (text_of (plan_in c))) (sym (writing_is other there)) (planned_writes c other there);
        enough = λ copies counts left seven. absurd (omega (arith, seven));
      }

  by_verdict : (v : Verdict (Unit {0})) → terminal_verdict c t ≡ v → TerminalPromise c t (tables_for c t v) (answer_for c v)
  by_verdict (given u) e = planned_keeps e
  by_verdict (refused n s) e = refused_keeps n s e

  by_definition : TerminalPromise c t (terminal_tables_after c t) (terminal_planning c t)
  unfolding terminal_planning terminal_tables_after
  by_definition = by_verdict (terminal_verdict c t) refl

  module _ {exit : Tables} {answer : Numbers PlanSums} where
    -- An answer and tables that are the definition's keep the whole promise.
    pub terminal_promise : answer ≡ terminal_planning c t → exit ≡ terminal_tables_after c t → TerminalPromise c t exit answer
    terminal_promise numbers tables =
        subst (λ (a : Numbers PlanSums). TerminalPromise c t exit a) (sym numbers)
        (subst (λ (x : Tables). TerminalPromise c t x (terminal_planning c t)) (sym tables) by_definition)

    -- So does planning of a call that fits,
    pub fits_promise : fits_terminal c ≡ true → PlanPromise c t exit answer → TerminalPromise c t exit answer
    unfolding planning tables_after terminal_planning terminal_tables_after
    fits_promise fits promise =
        terminal_promise (promise.numbers ∙ sym (ap (answer_for c) (fits_verdict c t fits)))
        (promise.tables ∙ sym (ap (tables_for c t) (fits_verdict c t fits)))

  -- What the tables do not hold is refused: for the rack, the shape of the list, or 17.
  abbrev too_large : Verdict (Unit {0})
  too_large = rack_judged c.rack (shape_judged c.list (refused 17 0))

  -- Where the size is not refused the call fits,
  pub size_passes : given tt ≡ cond (fits_terminal c) (given tt) too_large → fits_terminal c ≡ true
  size_passes e = by_test (fits_terminal c) (λ fits. fits) (λ large. given_fits c t (large_verdict c t large ∙ sym (e ∙ cond_false _ _ _ large)))

  -- and the refusal of the size keeps the terminal's promise.
  pub large_promise : (r : Refusal) → refusal_of r ≡ cond (fits_terminal c) (given tt) too_large → TerminalPromise c t t (plan_numbers (Err r))
  unfolding terminal_planning terminal_tables_after
  large_promise r e =
      by_test (fits_terminal c)
      (λ fits. absurd (omega (arith, number_some r, ap (λ (v : Verdict (Unit {0})). (answer_for c v).refusal) (e ∙ cond_true _ _ _ fits))))
      (λ large.
      let same : refusal_of r ≡ terminal_verdict c t = e ∙ cond_false _ _ _ large ∙ sym (large_verdict c t large) in
      terminal_promise (ap (answer_for c) same) (ap (tables_for c t) same))
