-- `transfers::transfers_counted` meets its contract: a refusal of the texts, 7, or the transfers and their counts stored.
use mathlib.Core.Path.{◌≡◌, refl, sym, ap, ap₂, ◌∙◌}
use mathlib.Core.List.{List, ◌++◌, map}
use mathlib.Core.Logic.{◌⊎◌, inl, inr}
use Prim.Native.Nat.{ℕ, ◌≤◌, ◌<◌}
use native.Mathlib.Omega.{arith}
use lib.ListN.{length, take, drop, length-replicate}
use lib.Seq.{length-take-le}
use Rattle.std.specs.Prelude.{Err}
use Rattle.std.proofs.lemmas.Result.{err_from_is_err_and}
use Rattle.refusal.specs.Verdict.{Numbers}
use Rattle.transfer_schedule.specs.Counts.{count_table}
use Rattle.transfer_schedule.specs.Transfers.{texts_verdict, transfer_in, ScheduleSize, schedule_size}
use Rattle.transfers.specs.Keys.{WorkedOut}
use Rattle.transfers.specs.Answers.{transfer_numbers}
use Rattle.transfer_schedule.specs.TransfersPromise.{CountedPromise}
use Rattle.refusal.proofs.Refusals.{number_some}
use Rattle.transfers.proofs.WorkedOut.{worked_refused, worked_short, worked_given, worked_fits}
use Rattle.transfer_schedule.proofs.CountsPromise.{counted_promise}
use Rattle.transfers.proofs.transfers_counted.Goals as goal

-- The numbers of a schedule.
abbrev told : (n rounds : ℕ) → Numbers ScheduleSize
told n rounds = record { refusal = 0; second = 0; values = schedule_size n rounds }

module _ (old new list entries : List ℕ) (table : List (List ℕ)) (n rounds : ℕ) (worked : WorkedOut (texts_verdict old new) entries (told n rounds)) where
  -- Too few places are refused 7,
  short :
      (length list < n) ⊎ (length table < 9)
      → CountedPromise old new list list table table (record { refusal = 7; second = 0; values = schedule_size 0 0 })
  short few =
      let k = worked_short old new entries (told n rounds) worked list table refl few in
      counted_promise old new list table k.0 k.1 k.2

  -- and with enough of them the entries stand in front of the list, and their counts in front of the table.
  enough :
      (front : List ℕ) (rows : List (List ℕ)) → n ≤ length list → 9 ≤ length table → front ≡ take n entries
      → rows ≡ count_table (map transfer_in (take n entries))
      → CountedPromise old new list (front ++ drop n list) table (rows ++ drop 9 table) (told n rounds)
  enough front rows few all listed counted =
      let k = worked_given old new entries (told n rounds) worked list table refl few all in
      let room : n ≤ length entries = (worked_fits old new entries (told n rounds) worked refl).1 in
      counted_promise old new list table k.0 (ap₂ (λ (xs : List ℕ) (m : ℕ). xs ++ drop m list) listed (sym (length-take-le n entries room)) ∙ k.1)
      (ap (λ (r : List (List ℕ)). r ++ drop 9 table) counted ∙ k.2)

pub returns-in_err-made-clause-promise : goal.returns-in_err-made-clause-promise
returns-in_err-made-clause-promise c =
    let a = c.args in
    let r = c.in_err-made.field-0.0 in
    let k = worked_refused a.old.now a.new.now c.work_out.new.entries (transfer_numbers (Err r)) c.in_err-made.ensures a.list.now a.counts.now (number_some r) in
    let p = err_from_is_err_and c.from_residual.result c.from_residual.ensures.1 in
    rw (p.1, p.2) (counted_promise a.old.now a.new.now a.list.now a.counts.now k.0 k.1 k.2)

pub returns-then-list-n-clause-promise : goal.returns-then-list-n-clause-promise
returns-then-list-n-clause-promise c = short _ _ _ c.work_out.new.entries _ _ _ c.in_ok-made.ensures (inl c.if-list-n.true)

pub returns-then-counts-lt-ROWS-clause-promise : goal.returns-then-counts-lt-ROWS-clause-promise
returns-then-counts-lt-ROWS-clause-promise c =
    short _ _ _ c.work_out.new.entries _ c.in_ok-made.made.transfers c.in_ok-made.made.rounds c.in_ok-made.ensures (inr (omega (arith, c.if-counts-lt-ROWS.true)))

pub count_transfers-table-requires : goal.count_transfers-table-requires
count_transfers-table-requires c =
    let n = c.in_ok-made.made.transfers in
    let entries = c.work_out.new.entries in
    let fits = worked_fits c.args.old.now c.args.new.now entries (told n c.in_ok-made.made.rounds) c.in_ok-made.ensures refl in
    (refl, fits.0, omega (arith, length-take-le n entries fits.1, fits.1, c.work_out.auto.entries, length-replicate {A = ℕ} 256 0))

pub returns-clause-promise : goal.returns-clause-promise
returns-clause-promise c =
    let a = c.args in
    enough a.old.now a.new.now a.list.now c.work_out.new.entries a.counts.now c.in_ok-made.made.transfers c.in_ok-made.made.rounds c.in_ok-made.ensures
    c.copy_from_slice.new.self c.copy_from_slice-2.new.self c.if-list-n.false (omega (arith, c.if-counts-lt-ROWS.false)) c.copy_from_slice.ensures.after
    (c.copy_from_slice-2.ensures.after ∙ c.count_transfers-table.ensures)
