-- What the steps of transfers come to: a refusal of the texts, 7, or the transfers in the list and their counts in the table.
use mathlib.Core.Path.{◌≡◌, refl, sym, ap, subst, ◌∙◌}
use mathlib.Core.List.{List, ◌++◌, map}
use mathlib.Core.Logic.{◌⊎◌}
use Prim.Native.Nat.{ℕ, ◌≤◌, ◌<◌}
use native.Mathlib.Omega.{arith}
use lib.ListN.{length, take, drop}
use Rattle.refusal.specs.Verdict.{Verdict, given, refused, Numbers}
use Rattle.placement.specs.Tables.{written}
use Rattle.placement.specs.WellFormed.{Each}
use Rattle.transfer_schedule.specs.Schedule.{Transfer}
use Rattle.transfer_schedule.specs.Counts.{ends, count_table}
use Rattle.transfer_schedule.specs.Transfers.{Plans, texts_verdict, transfers_of, transfers_verdict, transfer_entry, transfer_in, ScheduleSize, schedule_size, transfers_answer, list_given, table_given, transferring, entries_after, table_after}
use Rattle.transfer_schedule.specs.Fits.{TransferFits}
use Rattle.transfers.specs.Keys.{TransfersMade, WorkedOut}
use Rattle.transfer_schedule.proofs.Entries.{transfers_entries}
use Rattle.transfer_schedule.proofs.BothTexts.{texts_late}
use Rattle.transfer_schedule.proofs.Judged.{judged_refused, judged_short, judged_given, answer_by, list_by, table_by}

-- The answer, the list and the table are the definition's.
abbrev pub Keeps :
    (old new list : List ℕ) → (table : List (List ℕ)) → Numbers ScheduleSize → (list_exit : List ℕ) → (table_exit : List (List ℕ)) → Type 0
Keeps old new list table answer list_exit table_exit =
    (answer ≡ transferring old new (length list) (length table))
    × (list_exit ≡ entries_after old new list (length table))
    × (table_exit ≡ table_after old new (length list) table)

-- They are by the verdict.
keeps_by :
    (old new list : List ℕ) (table : List (List ℕ)) (v : Verdict (List Transfer)) → transfers_verdict old new (length list) (length table) ≡ v
    → Keeps old new list table (transfers_answer v) (list_given list v) (table_given table v)
keeps_by old new list table v e =
    (answer_by old new (length list) (length table) v e, list_by old new list (length table) v e, table_by old new (length list) table v e)

-- Transfers whose entries stand in front.
module _ (ts : List Transfer) (entries : List ℕ) (answer : Numbers ScheduleSize) (o : TransfersMade ts entries answer) where
  no_refusal : answer.refusal ≡ 0
  no_refusal = ap (λ (a : Numbers ScheduleSize). a.refusal) o.told

  number_told : answer.values.transfers ≡ length ts
  number_told = ap (λ (a : Numbers ScheduleSize). a.values.transfers) o.told

  entries_told : take answer.values.transfers entries ≡ map transfer_entry ts
  entries_told = ap (λ (n : ℕ). take n entries) number_told ∙ o.front

  transfers_told : map transfer_in (take answer.values.transfers entries) ≡ ts
  transfers_told = ap (map transfer_in) entries_told ∙ transfers_entries ts o.fit

module _ (old new entries : List ℕ) (answer : Numbers ScheduleSize) (w : WorkedOut (texts_verdict old new) entries answer) where
  -- Where the texts are refused, the list and the table stay.
  pub worked_refused : (list : List ℕ) (table : List (List ℕ)) → 1 ≤ answer.refusal → Keeps old new list table answer list table
  worked_refused list table some = go (texts_verdict old new) refl w
    where
      go : (v : Verdict Plans) → texts_verdict old new ≡ v → WorkedOut v entries answer → Keeps old new list table answer list table
      go (given both) e o = absurd (omega (arith, some, no_refusal (transfers_of both) entries answer o))
      go (refused n s) e is =
          let kept = keeps_by old new list table (refused n s) (judged_refused old new (length list) (length table) n s e) in
          (is ∙ kept.0, kept.1, kept.2)

  -- Where they are not, there are two plans with transfers.
  by_plans :
      {P : Type 0} → answer.refusal ≡ 0
      → ((both : Plans) → texts_verdict old new ≡ given both → TransfersMade (transfers_of both) entries answer → P) → P
  by_plans {P} none follows = go (texts_verdict old new) refl w
    where
      go : (v : Verdict Plans) → texts_verdict old new ≡ v → WorkedOut v entries answer → P
      go (given both) e o = follows both e o
      go (refused n s) e is =
          let number : answer.refusal ≡ n = ap (λ (a : Numbers ScheduleSize). a.refusal) is in
          absurd (omega (arith, none, number, texts_late old new n s e))

  -- Too few places or rows are refused 7,
  pub worked_short :
      (list : List ℕ) (table : List (List ℕ)) → answer.refusal ≡ 0 → (length list < answer.values.transfers) ⊎ (length table < ends)
      → Keeps old new list table (record { refusal = 7; second = 0; values = schedule_size 0 0 }) list table
  worked_short list table none short =
      by_plans none (λ both e o. keeps_by old new list table (refused 7 0)
      (judged_short old new (length list) (length table) both e
      (subst (λ (n : ℕ). (length list < n) ⊎ (length table < ends)) (number_told (transfers_of both) entries answer o) short)))

  -- and with enough of both the entries are written and counted.
  pub worked_given :
      (list : List ℕ) (table : List (List ℕ)) → answer.refusal ≡ 0 → answer.values.transfers ≤ length list → ends ≤ length table
      → Keeps old new list table answer (written (take answer.values.transfers entries) list)
      (count_table (map transfer_in (take answer.values.transfers entries)) ++ drop ends table)
  worked_given list table none few all =
      by_plans none (λ both e o.
      let ts = transfers_of both in
      let enough : length ts ≤ length list = omega (arith, few, number_told ts entries answer o) in
      let kept = keeps_by old new list table (given ts) (judged_given old new (length list) (length table) both e enough all) in (
        o.told ∙ kept.0,
        ap (λ (es : List ℕ). written es list) (entries_told ts entries answer o) ∙ kept.1,
        ap (λ (us : List Transfer). count_table us ++ drop ends table) (transfers_told ts entries answer o) ∙ kept.2,
      ))

  -- The entries in front are of transfers that have room in them, and there are so many.
  pub worked_fits :
      answer.refusal ≡ 0
      → Each TransferFits (map transfer_in (take answer.values.transfers entries)) × (answer.values.transfers ≤ length entries)
  worked_fits none =
      by_plans none (λ both e o. (
        subst (Each TransferFits) (sym (transfers_told (transfers_of both) entries answer o)) o.fit,
        omega (arith, o.room, number_told (transfers_of both) entries answer o),
      ))
