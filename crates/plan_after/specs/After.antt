-- What planning after an earlier plan answers and what the lent tables hold afterwards, for every call: document 02's P4.
use Rattle.std.specs.Prelude.{ℕ, List, map, ◌++◌, take, drop}
use Rattle.refusal.specs.Verdict.{Verdict, followed_by, Numbers, answered, afterwards}
use Rattle.placement.specs.Copies.{unmarked, marked_with, layout_of}
use Rattle.placement.specs.Rack.{Disk, all_slots}
use Rattle.placement.specs.Tables.{Tables, tables, copy_entry, copy_in}
use Rattle.placement.specs.Plan.{Plan}
use Rattle.placement.specs.Planning.{Call, PlanSums, sums, sums_in, plan_after, holding_for, verdict}
use Rattle.plan_text.specs.ReadCall.{text_verdict}

-- "The earlier text's 8 and 9 come after planning's refusals"; the earlier plan where none applies.
abbrev pub verdict_after : Call → (earlier : List ℕ) → Tables → Verdict Plan
verdict_after c earlier t = followed_by (verdict c t) (text_verdict earlier)

-- The tables with the plan of a call, marked by what the disks of the earlier plan held: its viewers, marks and left films do not matter.
abbrev pub holding_after : Call → (earlier : Plan) → Tables → Tables
holding_after c earlier t = holding_for c (plan_after (layout_of earlier.copies) c) t

-- The numbers of a verdict on a call: those of planning, whatever the earlier plan.
abbrev pub answer_after : Call → Verdict Plan → Numbers PlanSums
answer_after c v = answered (sums 0 0 0) (λ p. sums_in c) v

-- What a verdict leaves of the tables.
abbrev pub tables_given_after : Call → Tables → Verdict Plan → Tables
tables_given_after c t v = afterwards t (λ p. holding_after c p t) v

-- The answer of a call with an earlier text and these tables at entry.
unfoldable pub planning_after : Call → (earlier : List ℕ) → Tables → Numbers PlanSums
planning_after c earlier t = answer_after c (verdict_after c earlier t)

-- The tables' contents after it.
unfoldable pub tables_after_earlier : Call → (earlier : List ℕ) → Tables → Tables
tables_after_earlier c earlier t = tables_given_after c t (verdict_after c earlier t)

-- An entry of the copy table without its mark.
abbrev pub unmarked_entry : ℕ → ℕ
unmarked_entry entry = copy_entry (marked_with 0 (unmarked (copy_in entry)))

-- The tables with no mark at any place of the rack.
abbrev pub without_marks : List Disk → Tables → Tables
without_marks rack t =
    tables (map unmarked_entry (take (all_slots rack) t.copies) ++ drop (all_slots rack) t.copies) t.counts t.left
