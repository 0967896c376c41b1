-- What planning on the purser's terminal answers and what the lent tables hold afterwards, for every call: document 02's P7.
use Rattle.std.specs.Prelude.{ℕ, Bool, ◌&&◌, leb, length}
use Rattle.refusal.specs.Verdict.{Verdict, given, unless, Numbers}
use Rattle.placement.specs.Records.{record_count, shape_judged, records_judged}
use Rattle.placement.specs.Tables.{Tables}
use Rattle.placement.specs.Planning.{Call, PlanSums, rack_judged, room_judged, answer_for, tables_for}

-- "A terminal whose tables hold 96 records and 8 disks."
abbrev pub terminal_disks : ℕ
terminal_disks = 8

abbrev pub terminal_records : ℕ
terminal_records = 96

-- The terminal's tables hold the rack and the list of a call.
abbrev pub fits_terminal : Call → Bool
fits_terminal c = leb (length c.rack) terminal_disks && leb (record_count c.list) terminal_records

-- 17, more than 8 disks or more than 96 records; then what comes next.
abbrev pub size_judged : {A : Type 0} → Call → Verdict A → Verdict A
size_judged c following = unless (fits_terminal c) 17 0 following

-- The refusals of planning on the terminal: the office's, and 17 "after 3 and before 7".
abbrev pub terminal_verdict : Call → Tables → Verdict (Unit {0})
terminal_verdict c t =
    rack_judged c.rack
    (shape_judged c.list
    (size_judged c
    (room_judged c.rack (record_count c.list) t
    (records_judged c.list (given tt)))))

-- The answer of a call with these tables at entry. "It calls the same planner."
unfoldable pub terminal_planning : Call → Tables → Numbers PlanSums
terminal_planning c t = answer_for c (terminal_verdict c t)

-- The tables' contents after it.
unfoldable pub terminal_tables_after : Call → Tables → Tables
terminal_tables_after c t = tables_for c t (terminal_verdict c t)
