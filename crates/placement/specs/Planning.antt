-- What planning answers and what the lent tables hold afterwards, for every call.
use Rattle.std.specs.Prelude.{ℕ, suc, List, [], ◌∷◌, map, ◌++◌, length}
use Rattle.refusal.specs.Verdict.{Verdict, given, unless, Numbers, answered, afterwards}
use Rattle.placement.specs.Items.{Item, list_of, by_film}
use Rattle.placement.specs.Copies.{halves_of, marked}
use Rattle.placement.specs.Rack.{Disk, first_slots, first_load, disks_in_range, same_ratio}
use Rattle.placement.specs.Records.{record_count, records_of, shape_judged, records_judged}
use Rattle.placement.specs.Method.{remaining, served, unserved}
use Rattle.placement.specs.FillingOrder.{filling, placed}
use Rattle.placement.specs.Shelf.{shelf_films, shelved, unshelved}
use Rattle.placement.specs.Tables.{Tables, entry_of, padded, room_for, holding}
use Rattle.placement.specs.Plan.{Plan}

-- What the caller asks: the rack and the bytes of the list.
pub record Call : Type 0 where
  pub rack : List Disk
  pub list : List ℕ

abbrev pub call : List Disk → List ℕ → Call
call rack list = record { rack = rack; list = list }

abbrev pub records_in : Call → List Item
records_in c = records_of c.list

-- 13, with the entry: the first, from a position on, whose load times the given slots differs from the given load times its slots; then
-- what comes next.
abbrev pub ratio_judged_from : {A : Type 0} → (slots load position : ℕ) → List Disk → Verdict A → Verdict A
ratio_judged_from slots load position [] following = following
ratio_judged_from slots load position (d ∷ ds) following =
    let rest = ratio_judged_from slots load (suc position) ds following in
    unless (same_ratio slots load d) 13 position rest

-- 12, no entries, more than 64, or one outside its ranges; 13, one of another ratio than entry 1; then what comes next.
abbrev pub rack_judged : {A : Type 0} → List Disk → Verdict A → Verdict A
rack_judged rack following =
    unless (disks_in_range rack) 12 0 (ratio_judged_from (first_slots rack) (first_load rack) 1 rack following)

-- 7, a lent table too short: copy table below all slots, count table below the disks, left table below n; then what comes next.
abbrev pub room_judged : {A : Type 0} → List Disk → ℕ → Tables → Verdict A → Verdict A
room_judged rack n t following = unless (room_for rack n t) 7 0 following

-- The refusals of planning, in the order of 01 with 02's 12 and 13 where 1 stood; given where none applies.
abbrev pub verdict : Call → Tables → Verdict (Unit {0})
verdict c t =
    rack_judged c.rack
    (shape_judged c.list
    (room_judged c.rack (record_count c.list) t
    (records_judged c.list (given tt))))

-- The method's copies for a call.
abbrev pub placed_in : Call → List (List Item)
placed_in c = placed c.rack (list_of (records_in c))

-- What is left of a call: the films of demand 0 that find no free slot, and what the method leaves.
abbrev pub left_in : Call → List Item
left_in c = unshelved c.rack (shelf_films (records_in c)) (placed_in c) ++ remaining (filling c.rack) (list_of (records_in c))

-- The copies of each disk: the method's, and the shelf copies behind them.
abbrev pub layout_in : Call → List (List Item)
layout_in c = shelved c.rack (shelf_films (records_in c)) (placed_in c)

-- The plan of a call after an earlier one: the copies of each disk, marked by what the disks held then, and what is left by ascending film.
abbrev pub plan_after : (earlier : List (List Item)) → Call → Plan
plan_after earlier c = record {
  rack = c.rack;
  copies = marked earlier (layout_in c);
  left = by_film (left_in c);
}

-- The plan of a call: "without an earlier plan nothing is marked".
abbrev pub plan_in : Call → Plan
plan_in c = plan_after [] c

-- "The answer also gives S, U and the number of left films."
pub record PlanSums : Type 0 where
  pub served : ℕ
  pub unserved : ℕ
  pub left : ℕ

abbrev pub sums : (served unserved left : ℕ) → PlanSums
sums s u left = record { served = s; unserved = u; left = left }

abbrev pub sums_in : Call → PlanSums
sums_in c = sums (served (layout_in c)) (unserved (filling c.rack) (list_of (records_in c))) (length (plan_in c).left)

-- The numbers of a verdict on a call.
abbrev pub answer_for : Call → Verdict (Unit {0}) → Numbers PlanSums
answer_for c v = answered (sums 0 0 0) (λ u. sums_in c) v

-- The tables with a plan for the list of a call: unused copy places below all slots are zero, and left places below the number of records.
abbrev pub holding_for : Call → Plan → Tables → Tables
holding_for c p t = holding p.rack (map (map halves_of) p.copies) (padded (record_count c.list) (map entry_of p.left)) t

-- The tables with the plan of a call.
abbrev pub holding_call : Call → Tables → Tables
holding_call c t = holding_for c (plan_in c) t

abbrev pub tables_for : Call → Tables → Verdict (Unit {0}) → Tables
tables_for c t v = afterwards t (λ u. holding_call c t) v

-- The answer of a call with these tables at entry.
unfoldable pub planning : Call → Tables → Numbers PlanSums
planning c t = answer_for c (verdict c t)

-- The tables' contents after it.
unfoldable pub tables_after : Call → Tables → Tables
tables_after c t = tables_for c t (verdict c t)
