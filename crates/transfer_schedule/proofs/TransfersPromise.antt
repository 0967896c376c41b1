-- The promise of transfers follows from their definition.
use mathlib.Core.Path.{◌≡◌, refl, sym, ap, subst, ◌∙◌}
use mathlib.Core.List.{List}
use Prim.Native.Nat.{ℕ, ◌≤◌}
use native.Mathlib.Omega.{arith}
use lib.ListN.{length}
use Rattle.refusal.specs.Verdict.{Verdict, given, refused, Numbers}
use Rattle.placement.specs.Plan.{Plan}
use Rattle.plan_text.specs.ReadCall.{answer_to, text_verdict, judging}
use Rattle.plan_text.proofs.Verdicts.{verdict_same, verdict_text}
use Rattle.transfer_schedule.specs.Stored.{stored_copies}
use Rattle.transfer_schedule.specs.Schedule.{Transfer}
use Rattle.transfer_schedule.specs.Transfers.{Plans, texts_verdict, transfers_of, transfers_verdict, ScheduleSize, transfers_answer, transferring, entries_after}
use Rattle.transfer_schedule.specs.TransfersPromise.{Listed, TransfersPromise}
use Rattle.transfer_schedule.proofs.StoredPlans.{stored_is}
use Rattle.transfer_schedule.proofs.Ordered.{stored_ordered, transfers_ordered}
use Rattle.transfer_schedule.proofs.BothTexts.{text_late, BothRead, texts_late, texts_first, texts_second, texts_given, texts_read_lem}
use Rattle.transfer_schedule.proofs.ReadPlans.{old_formed, new_formed, read_words}
use Rattle.transfer_schedule.proofs.Judged.{judged_refused, judged_given, by_call, answer_by, list_by}

-- The numbers of a text by its verdict.
judged_refusal : (text : List ℕ) (v : Verdict Plan) → text_verdict text ≡ v → (judging text).refusal ≡ (answer_to v).refusal
unfolding judging
judged_refusal text v e = ap (λ (x : Verdict Plan). (answer_to x).refusal) e

judged_second : (text : List ℕ) (v : Verdict Plan) → text_verdict text ≡ v → (judging text).second ≡ (answer_to v).second
unfolding judging
judged_second text v e = ap (λ (x : Verdict Plan). (answer_to x).second) e

module _ (old new : List ℕ) (places rows : ℕ) where
  -- The refusal of a call by its verdict,
  pub refusal_by :
      (v : Verdict (List Transfer)) → transfers_verdict old new places rows ≡ v → (transferring old new places rows).refusal ≡ (transfers_answer v).refusal
  refusal_by v e = sym (ap (λ (a : Numbers ScheduleSize). a.refusal) (answer_by old new places rows v e))

  -- which is that of a text where the texts are refused with its numbers.
  abbrev AsText : List ℕ → Type 0
  AsText text =
      ((transferring old new places rows).refusal ≡ (judging text).refusal) × ((transferring old new places rows).second ≡ (judging text).second)

  as_text : (text : List ℕ) (n s : ℕ) → text_verdict text ≡ refused n s → texts_verdict old new ≡ refused n s → AsText text
  as_text text n s e f =
      let same = answer_by old new places rows (refused n s) (judged_refused old new places rows n s f) in (
        sym (ap (λ (a : Numbers ScheduleSize). a.refusal) same) ∙ sym (judged_refusal text (refused n s) e),
        sym (ap (λ (a : Numbers ScheduleSize). a.second) same) ∙ sym (judged_second text (refused n s) e),
      )

  -- So it is for the old text,
  old_refused : 1 ≤ (judging old).refusal → AsText old
  old_refused some = go (text_verdict old) refl
    where
      go : (v : Verdict Plan) → text_verdict old ≡ v → AsText old
      go (given p) e = absurd (omega (arith, some, judged_refusal old (given p) e))
      go (refused n s) e = as_text old n s e (texts_first old new n s e)

  -- and behind it for the new one.
  new_refused : (judging old).refusal ≡ 0 → 1 ≤ (judging new).refusal → AsText new
  new_refused none some = go (text_verdict old) (text_verdict new) refl refl
    where
      go : (v w : Verdict Plan) → text_verdict old ≡ v → text_verdict new ≡ w → AsText new
      go (refused n s) w e f = absurd (omega (arith, none, judged_refusal old (refused n s) e, text_late old n s e))
      go (given p) (given q) e f = absurd (omega (arith, some, judged_refusal new (given q) f))
      go (given p) (refused n s) e f = as_text new n s f (texts_second old new p n s e f)

module _ (old new entry : List ℕ) (rows : ℕ) where
  -- The call is not refused, so its texts are those of two plans, and their transfers are in the list.
  listed :
      (both : Plans) → texts_verdict old new ≡ given both → transfers_verdict old new (length entry) rows ≡ given (transfers_of both)
      → Listed old new entry (entries_after old new entry rows) (transferring old new (length entry) rows).values
  listed both e f =
      let read = texts_given old new both e in
      record {
        both = both;
        old_formed = old_formed old new both read;
        old_text = verdict_same old both.old read.first;
        new_formed = new_formed old new both read;
        new_text = verdict_same new both.new read.second;
        disks = (read.first_few, read.second_few);
        lines = read.line;
        as_planned = (stored_is both.old, stored_is both.new);
        ordered =
            transfers_ordered (stored_copies both.old) (stored_copies both.new)
            (stored_ordered both.new (new_formed old new both read));
        scheduled = read_words old new both read;
        listed = sym (list_by old new entry rows (given (transfers_of both)) f);
        told = sym (ap (λ (a : Numbers ScheduleSize). a.values) (answer_by old new (length entry) rows (given (transfers_of both)) f));
      }

  by_definition : TransfersPromise old new entry (entries_after old new entry rows) rows (transferring old new (length entry) rows)
  by_definition =
      record {
        numbers = refl;
        list = refl;
        unchanged = λ some.
            by_call old new (length entry) rows (λ n s e f. sym (list_by old new entry rows (refused n s) f))
            (λ both e f. sym (list_by old new entry rows (refused 7 0) f))
            (λ both e f. absurd (omega (arith, some, refusal_by old new (length entry) rows (given (transfers_of both)) f)));
        old_refused = old_refused old new (length entry) rows;
        new_refused = new_refused old new (length entry) rows;
        accepted = λ both ok_old is_old ok_new is_new few_old few_new line places table.
            let read : BothRead old new both = record {
              first = ap text_verdict (sym is_old) ∙ verdict_text both.old ok_old;
              second = ap text_verdict (sym is_new) ∙ verdict_text both.new ok_new;
              first_few = few_old;
              second_few = few_new;
              line = line;
            } in
            refusal_by old new (length entry) rows (given (transfers_of both)) (judged_given old new (length entry) rows both (texts_read_lem old new both read) places table);
        planned = λ none.
            by_call old new (length entry) rows
            (λ n s e f. absurd (omega (arith, none, refusal_by old new (length entry) rows (refused n s) f, texts_late old new n s e)))
            (λ both e f. absurd (omega (arith, none, refusal_by old new (length entry) rows (refused 7 0) f)))
            listed;
      }

  -- An answer and a list that are the definition's keep the whole promise.
  pub transfers_promise :
      {exit : List ℕ} {answer : Numbers ScheduleSize} → answer ≡ transferring old new (length entry) rows → exit ≡ entries_after old new entry rows
      → TransfersPromise old new entry exit rows answer
  transfers_promise {exit} {answer} numbers list =
      subst (λ (a : Numbers ScheduleSize). TransfersPromise old new entry exit rows a) (sym numbers)
      (subst (λ (x : List ℕ). TransfersPromise old new entry x rows (transferring old new (length entry) rows)) (sym list) by_definition)
