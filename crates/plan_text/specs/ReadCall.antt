-- What reading answers and what the lent list of entries and the lent tables hold afterwards, for every call.
use Rattle.std.specs.Prelude.{ℕ, suc, List, map, ◌++◌, leb, length, drop}
use Rattle.refusal.specs.Verdict.{Verdict, given, refused, unless, Numbers, answered, afterwards}
use Rattle.placement.specs.Copies.{halves_of}
use Rattle.placement.specs.Rack.{Disk}
use Rattle.placement.specs.Tables.{Tables, entry_of, holding}
use Rattle.placement.specs.Plan.{Plan, served_of, unserved_of}
use Rattle.placement.specs.Planning.{room_judged}
use Rattle.plan_text.specs.Reading.{Reading, whole, refused_after, plan_read}

-- "8, more than 65,536 bytes."
abbrev pub most_bytes : ℕ
most_bytes = 65536

-- "9, with a line number from 1."
abbrev pub lines_judged : {A : Type 0} → Reading A → Verdict A
lines_judged (whole p) = given p
lines_judged (refused_after n) = refused 9 (suc n)

-- A text judged with no tables lent: 8, then 9.
abbrev pub text_verdict : List ℕ → Verdict Plan
text_verdict text =
    let lines = lines_judged (plan_read text) in
    unless (leb (length text) most_bytes) 8 0 lines

-- "The reader fills a lent list of entries too, and one too short is 7"; "7, tables too short for the plan read": a place for each slot,
-- each disk and each left film.
abbrev pub with_tables : List Disk → Tables → Verdict Plan → Verdict Plan
with_tables lent t (given p) =
    unless (leb (length p.rack) (length lent)) 7 0 (room_judged p.rack (length p.left) t (given p))
with_tables lent t (refused number second) = refused number second

-- "The answer is the rack, S, U and the number of left films": of the rack the number of disks. Reading puts their entries into the lent list;
-- judging lends none and tells the number alone.
pub record Told : Type 0 where
  pub disks : ℕ
  pub served : ℕ
  pub unserved : ℕ
  pub left : ℕ

abbrev pub told : (disks served unserved left : ℕ) → Told
told disks served unserved left = record { disks = disks; served = served; unserved = unserved; left = left }

-- Zero for all of it.
abbrev pub told_nothing : Told
told_nothing = told 0 0 0 0

-- The numbers of a plan.
abbrev pub told_of : Plan → Told
told_of p = told (length p.rack) (served_of p) (unserved_of p) (length p.left)

-- The numbers that a verdict gives.
abbrev pub answer_to : Verdict Plan → Numbers Told
answer_to v = answered told_nothing told_of v

-- "Unused copy places below N × k", which is the sum of all slots, "become zero; the left table beyond the films read is untouched."
abbrev pub holding_plan : Plan → Tables → Tables
holding_plan p t = holding p.rack (map (map halves_of) p.copies) (map entry_of p.left) t

-- The lent list has the rack's entries in front, and is untouched beyond them.
abbrev pub holding_rack : Plan → List Disk → List Disk
holding_rack p lent = p.rack ++ drop (length p.rack) lent

-- What a verdict leaves of the lent list of entries.
abbrev pub rack_given : List Disk → Verdict Plan → List Disk
rack_given lent v = afterwards lent (λ p. holding_rack p lent) v

-- What a verdict leaves of the tables.
abbrev pub tables_given : Tables → Verdict Plan → Tables
tables_given t v = afterwards t (λ p. holding_plan p t) v

-- The answer for a text with no tables lent: 8 or 9, else the plan's numbers.
unfoldable pub judging : List ℕ → Numbers Told
judging text = answer_to (text_verdict text)

-- The answer for a text and this list of entries and these tables at entry: 8, 9, 7 in this order, else the plan's numbers.
unfoldable pub reading : List ℕ → List Disk → Tables → Numbers Told
reading text lent t = answer_to (with_tables lent t (text_verdict text))

-- The list of entries after it.
unfoldable pub rack_after_reading : List ℕ → List Disk → Tables → List Disk
rack_after_reading text lent t = rack_given lent (with_tables lent t (text_verdict text))

-- The tables' contents after it.
unfoldable pub tables_after_reading : List ℕ → List Disk → Tables → Tables
tables_after_reading text lent t = tables_given t (with_tables lent t (text_verdict text))
