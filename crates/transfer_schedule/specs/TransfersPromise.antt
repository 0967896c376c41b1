-- What transfers promise to their caller: the contracts of the functions that give the list, the counts, or both.
use Rattle.std.specs.Prelude.{ℕ, ◌≤◌, ◌<◌, ◌≡◌, true, List, [], map, length, take}
use Rattle.refusal.specs.Verdict.{Numbers}
use Rattle.placement.specs.Tables.{written}
use Rattle.placement.specs.Plan.{well_formed}
use Rattle.plan_text.specs.Text.{text_of, first_line}
use Rattle.plan_text.specs.ReadCall.{judging}
use Rattle.transfer_schedule.specs.Stored.{stored_copies}
use Rattle.transfer_schedule.specs.Counts.{count_by, goes, ends, count_table, count_at, table_sum}
use Rattle.transfer_schedule.specs.Fits.{most_transfer_disks}
use Rattle.transfer_schedule.specs.Transfers.{Plans, transfers_of, transfer_entry, ScheduleSize, size_of, transferring, entries_after, table_after, counts_of}
use Rattle.transfer_schedule.specs.Words.{StoredAsPlanned, copy_made, InOrder, Scheduled}

-- Two texts of well-formed plans with the same first line and at most 8 disks, and their transfers in the lent list.
pub record Listed (old new entry exit : List ℕ) (values : ScheduleSize) : Type 0 where
  pub both : Plans
  pub old_formed : well_formed both.old ≡ true
  pub old_text : text_of both.old ≡ old
  pub new_formed : well_formed both.new ≡ true
  pub new_text : text_of both.new ≡ new
  pub disks : (length both.old.rack ≤ most_transfer_disks) × (length both.new.rack ≤ most_transfer_disks)
  pub lines : first_line both.old.rack ≡ first_line both.new.rack
  -- "marks in the texts are ignored", and a copy with 0 viewers is a copy
  pub as_planned : StoredAsPlanned both.old × StoredAsPlanned both.new
  -- "by ascending destination, then film"
  pub ordered : InOrder (map copy_made (transfers_of both))
  pub scheduled : Scheduled (stored_copies both.old) (stored_copies both.new) (transfers_of both)
  pub listed : exit ≡ written (map transfer_entry (transfers_of both)) entry
  pub told : values ≡ size_of (transfers_of both)

-- Two texts, the list lent at entry and at exit, the rows of the lent table, and the numbers of the answer. Without a table, nine rows stand for it.
pub record TransfersPromise (old new entry exit : List ℕ) (rows : ℕ) (answer : Numbers ScheduleSize) : Type 0 where
  -- the answer is what the definition gives, and so is every place of the lent list
  pub numbers : answer ≡ transferring old new (length entry) rows
  pub list : exit ≡ entries_after old new entry rows
  -- a refusal changes nothing
  pub unchanged : 1 ≤ answer.refusal → exit ≡ entry
  -- the old text's refusals come first, then the new one's
  pub old_refused : 1 ≤ (judging old).refusal → (answer.refusal ≡ (judging old).refusal) × (answer.second ≡ (judging old).second)
  pub new_refused :
      (judging old).refusal ≡ 0 → 1 ≤ (judging new).refusal → (answer.refusal ≡ (judging new).refusal) × (answer.second ≡ (judging new).second)
  -- no refusal is given otherwise
  pub accepted :
      (both : Plans) → well_formed both.old ≡ true → text_of both.old ≡ old → well_formed both.new ≡ true → text_of both.new ≡ new
      → length both.old.rack ≤ most_transfer_disks → length both.new.rack ≤ most_transfer_disks
      → first_line both.old.rack ≡ first_line both.new.rack → length (transfers_of both) ≤ length entry → ends ≤ rows → answer.refusal ≡ 0
  -- where nothing is refused, the list is a schedule in 02's words
  pub planned : answer.refusal ≡ 0 → Listed old new entry exit answer.values

-- The counts of two texts, tied to the list.
pub record CountsPromise (old new : List ℕ) (table : List (List ℕ)) : Type 0 where
  -- the table is what the definition gives
  pub counts : table ≡ counts_of old new
  -- where transfers are listed, these are counted, and the sum is their number
  pub counted :
      (entry exit : List ℕ) (values : ScheduleSize) → (l : Listed old new entry exit values)
      → (table ≡ count_table (transfers_of l.both)) × (table_sum table ≡ values.transfers)
  -- each count by its row and its column
  pub counting :
      (entry exit : List ℕ) (values : ScheduleSize) → (l : Listed old new entry exit values) → (source destination : ℕ)
      → source < ends → destination < ends → count_at table source destination ≡ count_by (goes source destination) (transfers_of l.both)
  -- where the texts are refused, it is all zero
  pub refused :
      (entry exit : List ℕ) (answer : Numbers ScheduleSize) → TransfersPromise old new entry exit ends answer → 1 ≤ answer.refusal
      → (answer.refusal ≡ 7 → ⊥) → table ≡ count_table []

-- The list and the counts together, lent at entry and at exit.
pub record CountedPromise (old new entry exit : List ℕ) (table table_exit : List (List ℕ)) (answer : Numbers ScheduleSize) : Type 0 where
  pub listed : TransfersPromise old new entry exit (length table) answer
  pub counts : table_exit ≡ table_after old new (length entry) table
  pub unchanged : 1 ≤ answer.refusal → table_exit ≡ table
  pub counted : answer.refusal ≡ 0 → CountsPromise old new (take ends table_exit)
