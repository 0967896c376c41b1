-- Writing the tables that planning leaves shows the text of the plan.
use mathlib.Core.Path.{◌≡◌, sym, ap, ap₂, subst, ◌∙◌}
use mathlib.Core.Bool.{true}
use mathlib.Core.List.{List, ◌++◌}
use Prim.Native.Nat.{ℕ}
use native.Mathlib.Omega.{arith}
use borrow.Author.Tests.{le-leb, lt-leb}
use lib.ListN.{length, drop, take-append-drop}
use Rattle.refusal.specs.Verdict.{given, Numbers}
use Rattle.placement.specs.Rack.{rack_accepted}
use Rattle.placement.specs.Tables.{Tables, own_tables}
use Rattle.placement.specs.Records.{record_count}
use Rattle.placement.specs.Planning.{Call, verdict, plan_in, holding_call}
use Rattle.placement.specs.PlanPromise.{PlanPromise}
use Rattle.placement.specs.WellFormed.{CallWellFormed}
use Rattle.placement.proofs.Conjunctions.{cond_true, cond_false}
use Rattle.placement.proofs.Tests.{by_order}
use Rattle.placement.proofs.OwnTables.{own_room}
use Rattle.placement.proofs.Calls.{call_well_formed}
use Rattle.plan_text.specs.Text.{text_of}
use Rattle.plan_text.specs.WriteCall.{WriteCall, write_call, room_stated, well_formed_call}
use Rattle.plan_text.proofs.Planned.{planned_room, planned_held, planned_well_formed}
use Rattle.std.specs.Prelude.{Result, Ok}
use Rattle.refusal.specs.declared.Refusal.{Refusal}
use Rattle.planner.specs.declared.answer.PlanSums.{PlanSums}
use Rattle.planner.specs.Answers.{plan_numbers}
use Rattle.writer.specs.WritePromise.{WritePromise, text_held}
use Rattle.plan_output.specs.Output.{printed, printed_for}
use Rattle.writer.specs.Shown.{Shown}
use Rattle.plan_output.proofs.Answers.{planned_verdict, planned_left, planned_after}

-- What was written to a space shows a text that was held and found well formed, whether the text fits or not.
held_shown :
    {c : WriteCall} {entry exit : List ℕ} {n : Numbers ℕ} → rack_accepted c.rack ≡ true → room_stated c ≡ true → well_formed_call c ≡ true
    → WritePromise c entry exit n → Shown (text_held c) entry exit n.values
held_shown {c} {entry} {exit} {n} rack room formed promise =
    by_order (length entry) (length (text_held c))
    (λ short.
    let eleven : n.refusal ≡ 11 = promise.refuses_space rack room formed short in
    let test = lt-leb (length (text_held c)) (length entry) short in
    record {
      count = promise.no_length (omega arith) ∙ sym (cond_false _ _ _ test);
      bytes = promise.no_byte (omega arith) ∙ sym (cond_false _ _ _ test);
    })
    (λ fits.
    let none : n.refusal ≡ 0 = promise.writes rack room formed fits in
    let test = le-leb (length (text_held c)) (length entry) fits in
    record {
      count = promise.text_length none ∙ sym (cond_true _ _ _ test);
      bytes = sym (take-append-drop n.values exit)
          ∙ ap₂ ◌++◌ (promise.text none) (promise.after none ∙ ap (λ (m : ℕ). drop m entry) (promise.text_length none))
          ∙ sym (cond_true _ _ _ test);
    })

module _ (c : Call) (formed : CallWellFormed c) where
  -- The call of writing with the tables that planning leaves.
  abbrev after_planning : WriteCall
  after_planning = write_call c.rack (holding_call c own_tables) (length (plan_in c).left)

  room_after : room_stated after_planning ≡ true
  room_after =
      planned_room c own_tables (own_room c.rack (record_count c.list) formed.rack formed.records_most) formed.left_most

  -- Writing them shows the text of the plan.
  text_shown :
      {entry exit : List ℕ} {n : Numbers ℕ} → WritePromise after_planning entry exit n
      → Shown (text_of (plan_in c)) entry exit n.values
  text_shown {entry} {exit} {n} promise =
      subst (λ (text : List ℕ). Shown text entry exit n.values) (ap text_of (planned_held c own_tables formed.plan))
      (held_shown formed.rack room_after (planned_well_formed c own_tables formed.plan) promise)

-- Where planning answers a plan, writing its tables shows what is printed for the call.
pub planned_shown :
    (c : Call) (a : Result PlanSums Refusal) {before after : Tables} {s : PlanSums} {entry exit : List ℕ} {n : Numbers ℕ} {answer : ℕ}
    → before ≡ own_tables → PlanPromise c before after (plan_numbers a) → a ≡ Ok s
    → WritePromise (write_call c.rack after s.left) entry exit n → answer ≡ n.values → Shown (printed_for c) entry exit answer
planned_shown c a {entry = entry} {exit = exit} {n = n} {answer = answer} own planned here promise counted =
    subst (λ (text : List ℕ). Shown text entry exit answer) (sym (ap (printed c) e))
    (subst (Shown (text_of (plan_in c)) entry exit) (sym counted)
    (text_shown c (call_well_formed c own_tables e)
    (subst (λ (w : WriteCall). WritePromise w entry exit n)
    (ap₂ (write_call c.rack) (planned_after c a own planned here) (planned_left c a own planned here)) promise)))
  where
    e : verdict c own_tables ≡ given tt
    e = planned_verdict c a own planned here
