-- What writing answers and what the lent space holds afterwards, for every call.
use Rattle.std.specs.Prelude.{ℕ, Bool, List, leb, length}
use Rattle.refusal.specs.Verdict.{Verdict, given, unless, Numbers, answered, afterwards}
use Rattle.placement.specs.Rack.{Disk}
use Rattle.placement.specs.Tables.{Tables, room_for, written}
use Rattle.placement.specs.Plan.{Plan}
use Rattle.placement.specs.Held.{plan_held}
use Rattle.placement.specs.Planning.{rack_judged, room_judged}
use Rattle.plan_text.specs.Text.{text_of}
use Rattle.plan_text.specs.Held.{held_well_formed}

-- What the caller asks: the rack, the tables' contents, and the stated number of left films.
pub record WriteCall : Type 0 where
  pub rack : List Disk
  pub tables : Tables
  pub left : ℕ

abbrev pub write_call : List Disk → Tables → ℕ → WriteCall
write_call rack t left = record { rack = rack; tables = t; left = left }

-- The tables have a place for each slot, each disk and each of the stated left films.
abbrev pub room_stated : WriteCall → Bool
room_stated c = room_for c.rack c.left c.tables

-- The plan that the call's tables hold.
abbrev pub plan_of : WriteCall → Plan
plan_of c = plan_held c.rack c.tables c.left

-- They hold a well-formed plan.
abbrev pub well_formed_call : WriteCall → Bool
well_formed_call c = held_well_formed c.rack c.tables c.left

-- The refusals of writing, in their order: 12, 13, 7, 10, 11. The length of the text is given where none applies.
abbrev pub write_verdict : WriteCall → List ℕ → Verdict ℕ
write_verdict c room =
    rack_judged c.rack
    (room_judged c.rack c.left c.tables
    (unless (well_formed_call c) 10 0
    (unless (leb (length (text_of (plan_of c))) (length room)) 11 0
    (given (length (text_of (plan_of c)))))))

-- The numbers that a verdict gives: the text's length, or a refusal and zero for the rest.
abbrev pub write_answer : Verdict ℕ → Numbers ℕ
write_answer v = answered 0 (λ n. n) v

-- A refusal changes no byte; "bytes after the text are untouched".
abbrev pub space_given : WriteCall → List ℕ → Verdict ℕ → List ℕ
space_given c room v = afterwards room (λ n. written (text_of (plan_of c)) room) v

-- The answer of a call with this space for text at entry.
unfoldable pub writing : WriteCall → List ℕ → Numbers ℕ
writing c room = write_answer (write_verdict c room)

-- The bytes of the space after it.
unfoldable pub space_after : WriteCall → List ℕ → List ℕ
space_after c room = space_given c room (write_verdict c room)
