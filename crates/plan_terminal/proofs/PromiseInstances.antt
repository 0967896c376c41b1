-- What the terminal's promise says of single calls: a law for each of its clauses but the two equations, which have the rows.
use mathlib.Core.Path.{◌≡◌, refl, sym, ap}
use mathlib.Core.List.{[]}
use native.Mathlib.Omega.{arith}
use lib.ListN.{length, replicate}
use Rattle.refusal.specs.Verdict.{Numbers}
use Rattle.placement.specs.Rack.{rack_of}
use Rattle.placement.specs.Tables.{Tables}
use Rattle.placement.specs.Held.{plan_held}
use Rattle.placement.specs.Planning.{Call, call, PlanSums, plan_in, planning, tables_after}
use Rattle.placement.specs.PlanPromise.{PlanPromise}
use Rattle.placement.specs.Cases.{sevens, case_a}
use Rattle.placement.proofs.Conjunctions.{false_true}
use Rattle.plan_text.specs.Decimal.{decimal}
use Rattle.plan_text.specs.Text.{lines_of, text_of}
use Rattle.plan_text.specs.WriteCall.{WriteCall, write_call, writing, space_after}
use Rattle.plan_text.specs.Examples.{case_a_text}
use Rattle.plan_terminal.specs.Terminal.{terminal_planning}
use Rattle.plan_terminal.specs.TerminalPromise.{Writes, TerminalPromise}

module _ {exit : Tables} {answer : Numbers PlanSums} where
  module _ (t : Tables) where
    -- Nine disks are 17.
    pub nine_disks : TerminalPromise (call (rack_of 9 1 1) []) t exit answer → (answer.refusal ≡ 17) × (answer.second ≡ 0)
    nine_disks promise = promise.refuses_size refl refl (omega arith) refl

    -- 97 records are too, and the tables stay as they were.
    pub records_97 : TerminalPromise (call (rack_of 1 1 1) (replicate 776 0)) t exit answer → exit ≡ t
    records_97 promise = promise.unchanged (omega (arith, (promise.refuses_size refl refl (omega arith) refl).0))

    -- 8 disks and 96 records are not.
    pub largest : TerminalPromise (call (rack_of 8 1 1) (replicate 768 0)) t exit answer → answer.refusal ≡ 17 → ⊥
    largest promise seventeen = false_true (sym (promise.too_large seventeen))

    -- Nine disks and 7 bytes are what they are in the office.
    pub bytes_7 : TerminalPromise (call (rack_of 9 1 1) (replicate 7 0)) t exit answer → PlanPromise (call (rack_of 9 1 1) (replicate 7 0)) t exit answer
    unfolding terminal_planning
    bytes_7 promise = promise.office (λ seventeen. omega (arith, seventeen, ap (λ (a : Numbers PlanSums). a.refusal) promise.numbers))

  -- 256 copy places, 8 counts and 96 left places are enough for every call.
  pub never_short : (c : Call) → TerminalPromise c (sevens 256 8 96) exit answer → answer.refusal ≡ 7 → ⊥
  never_short c promise = promise.enough (omega arith) (omega arith) (omega arith)

  -- Case A, and the longest tables of the office.
  module _ (promise : TerminalPromise case_a.asked case_a.lent exit answer) where
    abbrev longest : Tables
    longest = sevens 2048 64 1024

    planned : answer.refusal ≡ 0
    unfolding terminal_planning
    planned = ap (λ (a : Numbers PlanSums). a.refusal) promise.numbers

    pub office_answers : planning case_a.asked longest ≡ answer
    office_answers = promise.office_answer planned longest refl

    pub office_lines :
        lines_of (plan_held (rack_of 3 4 6) (tables_after case_a.asked longest) (planning case_a.asked longest).values.left)
        ≡ lines_of (plan_held (rack_of 3 4 6) exit answer.values.left)
    office_lines = promise.lines planned longest refl

    -- A space of the text's very length has room for it, and holds it after writing.
    abbrev Exactly : WriteCall → Type 0
    Exactly w =
        (writing w (replicate (length case_a_text) 7) ≡ record { refusal = 0; second = 0; values = length case_a_text })
        × (space_after w (replicate (length case_a_text) 7) ≡ case_a_text)

    exactly : (w : WriteCall) → Writes (text_of (plan_in case_a.asked)) w → Exactly w
    unfolding text_of decimal
    exactly w writes = (writes.numbers (replicate (length case_a_text) 7) (omega arith), writes.bytes (replicate (length case_a_text) 7) (omega arith))

    pub text_written : Exactly (write_call (rack_of 3 4 6) exit answer.values.left)
    text_written = exactly _ (promise.text planned)

    pub office_written : Exactly (write_call (rack_of 3 4 6) (tables_after case_a.asked longest) (planning case_a.asked longest).values.left)
    office_written = exactly _ (promise.office_text planned longest refl)
