-- The examples, proved by computation on the definitions.
use mathlib.Core.Path.{◌≡◌, refl}
use mathlib.Core.Bool.{true}
use Prim.Native.Nat.{ℕ}
use mathlib.Core.List.{List, map}
use Rattle.refusal.specs.Verdict.{Numbers}
use Rattle.placement.specs.Rack.{Disk}
use Rattle.placement.specs.Tables.{Tables}
use Rattle.placement.specs.Plan.{well_formed}
use Rattle.plan_text.specs.Decimal.{decimal}
use Rattle.plan_text.specs.Text.{text_of}
use Rattle.plan_text.specs.Reading.{plan_read}
use Rattle.plan_text.specs.ReadCall.{Told, judging, reading, rack_after_reading, tables_after_reading}
use Rattle.plan_text.specs.WriteCall.{writing, space_after}
use Rattle.plan_text.specs.CallExamples.{Writing, writings, Taking, takings}
use Rattle.plan_text.specs.Examples.{Example, accepted, refused_at_line1, refused_mixed, refused_at_line2, refused_marks, refused_by_length, refused_later, case_a_text, case_a_plan, mixed_text, mixed_plan, marked_text, marked_plan}

-- What the definitions give for an example, and what it expects.
abbrev judgement : Example → Numbers Told
judgement e = judging e.text

abbrev expected : Example → Numbers Told
expected e = e.numbers

-- The text of case A is that of its plan, which is well formed.
pub case_a_text_lem : (text_of case_a_plan ≡ case_a_text) × (well_formed case_a_plan ≡ true)
unfolding text_of decimal
case_a_text_lem = (refl, refl)

-- So is the text of unequal disks.
pub mixed_text_lem : (text_of mixed_plan ≡ mixed_text) × (well_formed mixed_plan ≡ true)
unfolding text_of decimal
mixed_text_lem = (refl, refl)

-- So is the text with marks.
pub marked_text_lem : (text_of marked_plan ≡ marked_text) × (well_formed marked_plan ≡ true)
unfolding text_of decimal
marked_text_lem = (refl, refl)

-- Every example's judgement is the one expected.
pub accepted_hold : map judgement accepted ≡ map expected accepted
unfolding judging plan_read decimal
accepted_hold = refl

-- Those that are refused at line 1.
pub refused_at_line1_hold : map judgement refused_at_line1 ≡ map expected refused_at_line1
unfolding judging plan_read decimal
refused_at_line1_hold = refl

-- Those with a mixed line that are.
pub refused_mixed_hold : map judgement refused_mixed ≡ map expected refused_mixed
unfolding judging plan_read decimal
refused_mixed_hold = refl

-- Those that are refused at line 2.
pub refused_at_line2_hold : map judgement refused_at_line2 ≡ map expected refused_at_line2
unfolding judging plan_read decimal
refused_at_line2_hold = refl

-- Those that are by a mark.
pub refused_marks_hold : map judgement refused_marks ≡ map expected refused_marks
unfolding judging plan_read decimal
refused_marks_hold = refl

-- Those that are refused by their length, or not.
pub refused_by_length_hold : map judgement refused_by_length ≡ map expected refused_by_length
unfolding judging plan_read decimal
refused_by_length_hold = refl

-- Those that are refused later.
pub refused_later_hold : map judgement refused_later ≡ map expected refused_later
unfolding judging plan_read decimal
refused_later_hold = refl

-- What the definitions give for a call of writing: the answer and the space afterwards.
abbrev written : Writing → Numbers ℕ × List ℕ
written w = (writing w.asked w.room, space_after w.asked w.room)

-- Every call of writing gives what is expected.
pub writings_hold : map written writings ≡ map (λ (w : Writing). (w.numbers, w.after)) writings
unfolding writing space_after text_of decimal
writings_hold = refl

-- What they give for a call of reading: the answer, and the entries and tables afterwards.
abbrev taken : Taking → Numbers Told × List Disk × Tables
taken r =
    (reading r.text r.entries r.lent, rack_after_reading r.text r.entries r.lent, tables_after_reading r.text r.entries r.lent)

-- Every call of reading gives what is expected.
pub takings_hold : map taken takings ≡ map (λ (r : Taking). (r.numbers, r.rack, r.after)) takings
unfolding reading rack_after_reading tables_after_reading plan_read decimal
takings_hold = refl
