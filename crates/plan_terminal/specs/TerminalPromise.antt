-- What planning on the purser's terminal promises to its caller, as one record: the contract of every entry that plans so.
use Rattle.std.specs.Prelude.{ℕ, ◌*◌, ◌%◌, ◌≤◌, ◌≡◌, true, false, List, length}
use Rattle.refusal.specs.Verdict.{Numbers}
use Rattle.placement.specs.Rack.{rack_accepted, most_slots, most_records}
use Rattle.placement.specs.Records.{record_count}
use Rattle.placement.specs.Tables.{Tables, room_for, written}
use Rattle.placement.specs.Held.{plan_held}
use Rattle.placement.specs.Planning.{Call, PlanSums, plan_in, planning, tables_after}
use Rattle.placement.specs.PlanPromise.{PlanPromise}
use Rattle.plan_text.specs.Text.{lines_of, text_of}
use Rattle.plan_text.specs.WriteCall.{WriteCall, write_call, writing, space_after}
use Rattle.plan_terminal.specs.Terminal.{terminal_disks, terminal_records, fits_terminal, terminal_planning, terminal_tables_after}

-- Writing gives this text: in every space with room for it the answer is its length, its bytes stand in front and those after it are untouched.
pub record Writes (text : List ℕ) (w : WriteCall) : Type 0 where
  pub numbers : (space : List ℕ) → length text ≤ length space → writing w space ≡ record { refusal = 0; second = 0; values = length text }
  pub bytes : (space : List ℕ) → length text ≤ length space → space_after w space ≡ written text space

-- A call, the lent tables at entry and at exit, and the numbers of the answer.
pub record TerminalPromise (call : Call) (entry exit : Tables) (answer : Numbers PlanSums) : Type 0 where
  -- the answer is what the definition gives, and so is every place of every lent table
  pub numbers : answer ≡ terminal_planning call entry
  pub tables : exit ≡ terminal_tables_after call entry
  -- a refusal changes no lent table
  pub unchanged : 1 ≤ answer.refusal → exit ≡ entry
  -- 17 where neither the rack nor the list's shape is refused, and there are more than 8 disks or more than 96 records
  pub refuses_size :
      rack_accepted call.rack ≡ true → length call.list % 8 ≡ 0 → record_count call.list ≤ most_records → fits_terminal call ≡ false
      → (answer.refusal ≡ 17) × (answer.second ≡ 0)
  -- and only where there are
  pub too_large : answer.refusal ≡ 17 → fits_terminal call ≡ false
  -- with every other answer, refusals too, planning keeps its whole promise: the office gives the same answer and the same tables
  pub office : (answer.refusal ≡ 17 → ⊥) → PlanPromise call entry exit answer
  -- where nothing is refused, the office has the same answer with all tables that have room,
  pub office_answer :
      answer.refusal ≡ 0 → (other : Tables) → room_for call.rack (record_count call.list) other ≡ true → planning call other ≡ answer
  -- its plan has the same text, line by line,
  pub lines :
      answer.refusal ≡ 0 → (other : Tables) → room_for call.rack (record_count call.list) other ≡ true
      → lines_of (plan_held call.rack (tables_after call other) (planning call other).values.left)
      ≡ lines_of (plan_held call.rack exit answer.values.left)
  -- and writing gives that text, of the terminal's tables and of the office's
  pub text : answer.refusal ≡ 0 → Writes (text_of (plan_in call)) (write_call call.rack exit answer.values.left)
  pub office_text :
      answer.refusal ≡ 0 → (other : Tables) → room_for call.rack (record_count call.list) other ≡ true
      → Writes (text_of (plan_in call)) (write_call call.rack (tables_after call other) (planning call other).values.left)
  -- tables with places for 8 disks and 96 records are never too short
  pub enough :
      terminal_disks * most_slots ≤ length entry.copies → terminal_disks ≤ length entry.counts → terminal_records ≤ length entry.left
      → answer.refusal ≡ 7 → ⊥
