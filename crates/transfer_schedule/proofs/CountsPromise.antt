-- The promises of the counts, and of the list and the counts together, follow from their definitions.
use mathlib.Core.Path.{◌≡◌, refl, sym, ap, ◌∙◌}
use mathlib.Core.List.{List, []}
use Prim.Native.Nat.{ℕ}
use native.Mathlib.Omega.{arith}
use lib.ListN.{length, take, drop}
use lib.Seq.{take_at}
use Rattle.refusal.specs.Verdict.{given, refused, Numbers}
use Rattle.plan_text.specs.ReadCall.{text_verdict}
use Rattle.plan_text.proofs.Verdicts.{verdict_text}
use Rattle.transfer_schedule.specs.Counts.{ends, count_table, count_at, table_sum}
use Rattle.transfer_schedule.specs.Transfers.{Plans, texts_verdict, transfers_of, transfers_verdict, ScheduleSize, transferring, entries_after, table_after, counts_of}
use Rattle.transfer_schedule.specs.TransfersPromise.{Listed, CountsPromise, CountedPromise}
use Rattle.transfer_schedule.proofs.TableSum.{count_at_lem}
use Rattle.transfer_schedule.proofs.BothTexts.{BothRead, texts_late, texts_read_lem}
use Rattle.transfer_schedule.proofs.Judged.{by_call, table_by, counts_by}
use Rattle.transfer_schedule.proofs.TransfersPromise.{refusal_by, transfers_promise}

module _ (old new : List ℕ) where
  -- The plans of a list of transfers are those that the two texts are read as,
  read_listed : (entry exit : List ℕ) (values : ScheduleSize) (l : Listed old new entry exit values) → BothRead old new l.both
  read_listed entry exit values l =
      record {
        first = ap text_verdict (sym l.old_text) ∙ verdict_text l.both.old l.old_formed;
        second = ap text_verdict (sym l.new_text) ∙ verdict_text l.both.new l.new_formed;
        first_few = l.disks.0;
        second_few = l.disks.1;
        line = l.lines;
      }

  -- so that the counts are of these transfers.
  listed_counts :
      (entry exit : List ℕ) (values : ScheduleSize) (l : Listed old new entry exit values) → counts_of old new ≡ count_table (transfers_of l.both)
  listed_counts entry exit values l =
      sym (counts_by old new (given l.both) (texts_read_lem old new l.both (read_listed entry exit values l)))

  -- A table that is the definition's keeps the promise of the counts.
  pub counts_promise : {table : List (List ℕ)} → table ≡ counts_of old new → CountsPromise old new table
  counts_promise {table} same =
      record {
        counts = same;
        counted = λ entry exit values l.
            let is = same ∙ listed_counts entry exit values l in
            (is, ap table_sum is ∙ l.scheduled.summed ∙ sym (ap (λ (s : ScheduleSize). s.transfers) l.told));
        counting = λ entry exit values l source destination s d.
            ap (λ (t : List (List ℕ)). count_at t source destination) (same ∙ listed_counts entry exit values l)
            ∙ count_at_lem (transfers_of l.both) source destination s d;
        refused = λ entry exit answer promise some other.
            let number = ap (λ (a : Numbers ScheduleSize). a.refusal) promise.numbers in
            by_call old new (length entry) ends {P = table ≡ count_table []} (λ n s e f. same ∙ sym (counts_by old new (refused n s) e))
            (λ both e f. absurd (other (number ∙ refusal_by old new (length entry) ends (refused 7 0) f)))
            (λ both e f. absurd (omega (arith, some, number, refusal_by old new (length entry) ends (given (transfers_of both)) f)));
      }

  module _ (entry : List ℕ) (table : List (List ℕ)) where
    -- The first nine rows of the table after it are the counts.
    rows_counted :
        (both : Plans) → texts_verdict old new ≡ given both → transfers_verdict old new (length entry) (length table) ≡ given (transfers_of both)
        → take ends (table_after old new (length entry) table) ≡ counts_of old new
    rows_counted both e f =
        ap (take ends) (sym (table_by old new (length entry) table (given (transfers_of both)) f))
        ∙ take_at (count_table (transfers_of both)) (drop ends table) ends refl
        ∙ counts_by old new (given both) e

    -- An answer, a list and a table that are the definition's keep the promise of both.
    pub counted_promise :
        {exit : List ℕ} {table_exit : List (List ℕ)} {answer : Numbers ScheduleSize} → answer ≡ transferring old new (length entry) (length table)
        → exit ≡ entries_after old new entry (length table) → table_exit ≡ table_after old new (length entry) table
        → CountedPromise old new entry exit table table_exit answer
    counted_promise {exit} {table_exit} {answer} numbers list same =
        let number = ap (λ (a : Numbers ScheduleSize). a.refusal) numbers in
        record {
          listed = transfers_promise old new entry (length table) numbers list;
          counts = same;
          unchanged = λ some.
              by_call old new (length entry) (length table)
              (λ n s e f. same ∙ sym (table_by old new (length entry) table (refused n s) f))
              (λ both e f. same ∙ sym (table_by old new (length entry) table (refused 7 0) f))
              (λ both e f. absurd (omega (arith, some, number, refusal_by old new (length entry) (length table) (given (transfers_of both)) f)));
          counted = λ none.
              counts_promise (ap (take ends) same ∙ by_call old new (length entry) (length table)
              (λ n s e f. absurd (omega (
                arith,
                none,
                number,
                refusal_by old new (length entry) (length table) (refused n s) f,
                texts_late old new n s e,
              )))
              (λ both e f. absurd (omega (arith, none, number, refusal_by old new (length entry) (length table) (refused 7 0) f)))
              rows_counted);
        }
