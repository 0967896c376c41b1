-- Texts and their judgement: accepted ones, case A of document 01, one of unequal disks and one with marks among them, and texts that are refused
-- at line 1, line 2 and later, the empty text among them.
use Rattle.std.specs.Prelude.{ℕ, zero, suc, List, [], ◌∷◌, ◌++◌, map, replicate}
use Prim.Native.String.{String}
use Rattle.refusal.specs.Verdict.{Numbers}
use Rattle.placement.specs.Items.{Item, item}
use Rattle.placement.specs.Copies.{Copy, copy, marked_with}
use Rattle.placement.specs.Rack.{disk, rack_of}
use Rattle.placement.specs.Plan.{Plan}
use Rattle.plan_text.specs.Ascii.{ascii}
use Rattle.plan_text.specs.Text.{lines}
use Rattle.plan_text.specs.ReadCall.{Told, told, told_nothing}

-- Lines, each ended by a line feed.
abbrev pub text_lines : List String → List ℕ
text_lines ls = lines (map ascii ls)

-- Bytes n times, and what follows them.
abbrev repeated : ℕ → List ℕ → List ℕ → List ℕ
repeated zero bytes after = after
repeated (suc n) bytes after = bytes ++ repeated n bytes after

pub record Example : Type 0 where
  pub text : List ℕ
  pub numbers : Numbers Told

-- A text that is read, with its numbers.
abbrev plan : List ℕ → (disks served unserved left : ℕ) → Example
plan text n s u left = record {
  text = text;
  numbers = record { refusal = 0; second = 0; values = told n s u left };
}

-- Refused 9 at a line.
abbrev refused_at : ℕ → List ℕ → Example
refused_at n text = record {
  text = text;
  numbers = record { refusal = 9; second = n; values = told_nothing };
}

-- Case A's text, whole.
abbrev pub case_a_text : List ℕ
case_a_text =
    text_lines
    ("(rack 3 4 6)"
    ∷ "(disk 1 (8 1) (9 1) (10 1) (11 3))"
    ∷ "(disk 2 (6 1) (7 1) (11 1) (12 3))"
    ∷ "(disk 3 (3 1) (4 1) (5 1) (12 1))"
    ∷ "(left (1 1) (2 1))"
    ∷ "(served 16 2)"
    ∷ [])

-- Copies without marks.
abbrev bare : List Item → List Copy
bare items = map (marked_with 0) items

-- Case A's plan.
abbrev pub case_a_plan : Plan
case_a_plan = record {
  rack = rack_of 3 4 6;
  copies =
      bare (item 8 1 ∷ item 9 1 ∷ item 10 1 ∷ item 11 3 ∷ [])
      ∷ bare (item 6 1 ∷ item 7 1 ∷ item 11 1 ∷ item 12 3 ∷ [])
      ∷ bare (item 3 1 ∷ item 4 1 ∷ item 5 1 ∷ item 12 1 ∷ [])
      ∷ [];
  left = item 1 1 ∷ item 2 1 ∷ [];
}

-- A rack of one disk with two slots and load 5, with these lines behind.
abbrev small : List String → List ℕ
small ls = text_lines ("(rack 1 2 5)" ∷ ls)

-- A text of unequal disks, whole. Disk 2 has a slot that is free.
abbrev pub mixed_text : List ℕ
mixed_text =
    text_lines
    ("(mixed (2 4) (4 8))"
    ∷ "(disk 1 (8 3) (2 1))"
    ∷ "(disk 2 (8 5) (1 0) (3 0))"
    ∷ "(left (9 3))"
    ∷ "(served 9 3)"
    ∷ [])

-- Its plan.
abbrev pub mixed_plan : Plan
mixed_plan = record {
  rack = disk 2 4 ∷ disk 4 8 ∷ [];
  copies = bare (item 8 3 ∷ item 2 1 ∷ []) ∷ bare (item 8 5 ∷ item 1 0 ∷ item 3 0 ∷ []) ∷ [];
  left = item 9 3 ∷ [];
}

-- A text with marks, at a copy with viewers and at one without, whole.
abbrev pub marked_text : List ℕ
marked_text =
    text_lines
    ("(rack 2 2 5)"
    ∷ "(disk 1 (8 1 held) (65535 4))"
    ∷ "(disk 2 (8 0) (3 0 held))"
    ∷ "(left (8 2))"
    ∷ "(served 5 2)"
    ∷ [])

-- Its plan.
abbrev pub marked_plan : Plan
marked_plan = record {
  rack = rack_of 2 2 5;
  copies = (copy 8 1 1 ∷ copy 65535 0 4 ∷ []) ∷ (copy 8 0 0 ∷ copy 3 1 0 ∷ []) ∷ [];
  left = item 8 2 ∷ [];
}

-- Texts that are read.
abbrev pub accepted : List Example
accepted =
    plan case_a_text 3 16 2 2
    ∷ plan (text_lines ("(rack 2 1 1)" ∷ "(disk 1 (7 1))" ∷ "(disk 2)" ∷ "(left)" ∷ "(served 1 0)" ∷ [])) 2 1 0 0
    ∷ plan (small ("(disk 1 (2 3) (1 2))" ∷ "(left (1 1) (65535 1000000))" ∷ "(served 5 1000001)" ∷ [])) 1 5 1000001 2
    ∷ plan (small ("(disk 1 (7 0) (8 5))" ∷ "(left (2 0) (3 1))" ∷ "(served 5 1)" ∷ [])) 1 5 1 2
    ∷ plan (small ("(disk 1 (8 0))" ∷ "(left (2 0))" ∷ "(served 0 0)" ∷ [])) 1 0 0 1
    ∷ plan mixed_text 2 9 3 1
    ∷ plan (text_lines ("(mixed (32 65504) (1 2047) (31 63457))" ∷ "(disk 1)" ∷ "(disk 2 (7 2047))" ∷ "(disk 3)" ∷ "(left)" ∷ "(served 2047 0)" ∷ [])) 3 2047 0 0
    ∷ plan marked_text 2 5 2 1
    ∷ plan (small ("(disk 1 (50000 3) (49999 2))" ∷ "(left (50000 1) (65535 0))" ∷ "(served 5 1)" ∷ [])) 1 5 1 2
    ∷ plan (text_lines ("(mixed (2 4) (4 8))" ∷ "(disk 1 (65535 4 held))" ∷ "(disk 2 (65535 8 held) (1 0 held))" ∷ "(left)" ∷ "(served 12 0)" ∷ [])) 2 12 0 0
    ∷ []

-- Texts whose first line is refused.
abbrev pub refused_at_line1 : List Example
refused_at_line1 =
    map (refused_at 1)
    ([]
    ∷ text_lines ("" ∷ [])
    ∷ ascii "(rack 1 2 5)"
    ∷ text_lines ("(refused 1)" ∷ [])
    ∷ text_lines ("(rack 01 2 5)" ∷ [])
    ∷ text_lines ("(rack 65 2 5)" ∷ [])
    ∷ text_lines ("(rack 4294967297 2 5)" ∷ [])
    ∷ text_lines ("(rack  1 2 5)" ∷ [])
    ∷ text_lines ("(rack 1 2 5) " ∷ [])
    ∷ text_lines ("(Rack 1 2 5)" ∷ [])
    ∷ [])

-- So are these mixed lines: no pair, one pair, equal pairs, another ratio in the last pair, slots or load out of range, 65 pairs, a leading
-- zero, a missing space, a space too many, and N, k and L.
abbrev pub refused_mixed : List Example
refused_mixed =
    map (refused_at 1)
    (text_lines ("(mixed)" ∷ [])
    ∷ text_lines ("(mixed (2 4))" ∷ [])
    ∷ text_lines ("(mixed (2 4) (2 4))" ∷ [])
    ∷ text_lines ("(mixed (2 4) (4 8) (3 5))" ∷ [])
    ∷ text_lines ("(mixed (2 4) (4 9))" ∷ [])
    ∷ text_lines ("(mixed (0 0) (4 8))" ∷ [])
    ∷ text_lines ("(mixed (11 4) (33 12))" ∷ [])
    ∷ text_lines ("(mixed (1 32768) (2 65536))" ∷ [])
    ∷ text_lines ("(mixed (1 0) (2 0))" ∷ [])
    ∷ text_lines ("(mixed (2 4) (4 4294967304))" ∷ [])
    ∷ lines ((ascii "(mixed (2 4)" ++ repeated 64 (ascii " (4 8)") (ascii ")")) ∷ [])
    ∷ text_lines ("(mixed (2 4) (04 8))" ∷ [])
    ∷ text_lines ("(mixed (2 4)(4 8))" ∷ [])
    ∷ text_lines ("(mixed  (2 4) (4 8))" ∷ [])
    ∷ text_lines ("(mixed (2 4) (4 8)) " ∷ [])
    ∷ text_lines ("(mixed 2 4 8)" ∷ [])
    ∷ text_lines ("(mixed (2 4) (4 8 held))" ∷ [])
    ∷ ascii "(mixed (2 4) (4 8))"
    ∷ [])

-- Texts whose second line is refused.
abbrev pub refused_at_line2 : List Example
refused_at_line2 =
    map (refused_at 2)
    (small []
    ∷ small ("" ∷ [])
    ∷ small ("(disk 2)" ∷ [])
    ∷ small ("(disk 10)" ∷ [])
    ∷ small ("(disk 1 (07 1))" ∷ [])
    ∷ small ("(disk 1 (7 00))" ∷ [])
    ∷ small ("(disk 1 (0 0))" ∷ [])
    ∷ small ("(disk 1 (7 0) (7 1))" ∷ [])
    ∷ small ("(disk 1 (0 1))" ∷ [])
    ∷ small ("(disk 1 (65536 1))" ∷ [])
    ∷ small ("(disk 1 (4294967297 1))" ∷ [])
    ∷ small ("(disk 1 (7 1) (7 1))" ∷ [])
    ∷ small ("(disk 1 (7 3) (8 3))" ∷ [])
    ∷ small ("(disk 1 (7 1) (8 1) (9 1))" ∷ [])
    ∷ small ("(disk 1 (7 1) )" ∷ [])
    ∷ text_lines ("(mixed (2 4) (4 8))" ∷ [])
    ∷ text_lines ("(mixed (2 4) (4 8))" ∷ "(disk 1 (1 1) (2 1) (3 1))" ∷ [])
    ∷ text_lines ("(mixed (2 4) (4 8))" ∷ "(disk 1 (1 5))" ∷ [])
    ∷ [])

-- So are these, by a mark: no space before it, two, one behind it, none of its letters, too few, too many, a capital, the mark before the viewers,
-- alone, twice, outside the brackets, and no bracket behind it; a film with marks of its own, a film twice, too many viewers.
abbrev pub refused_marks : List Example
refused_marks =
    map (refused_at 2)
    (small ("(disk 1 (7 1held))" ∷ [])
    ∷ small ("(disk 1 (7 1  held))" ∷ [])
    ∷ small ("(disk 1 (7 1 held ))" ∷ [])
    ∷ small ("(disk 1 (7 1 ))" ∷ [])
    ∷ small ("(disk 1 (7 1 hel))" ∷ [])
    ∷ small ("(disk 1 (7 1 heldd))" ∷ [])
    ∷ small ("(disk 1 (7 1 Held))" ∷ [])
    ∷ small ("(disk 1 (7 held 1))" ∷ [])
    ∷ small ("(disk 1 (7 held))" ∷ [])
    ∷ small ("(disk 1 (7 1 held held))" ∷ [])
    ∷ small ("(disk 1 (7 1) held)" ∷ [])
    ∷ small ("(disk 1 (7 1 held)" ∷ [])
    ∷ small ("(disk 1 (65543 1))" ∷ [])
    ∷ small ("(disk 1 (65543 1 held))" ∷ [])
    ∷ small ("(disk 1 (7 1 held) (7 1))" ∷ [])
    ∷ small ("(disk 1 (7 3 held) (8 3 held))" ∷ [])
    ∷ [])

-- 65,537 bytes are refused 8, whatever they are; 65,536 are judged by lines.
abbrev pub refused_by_length : List Example
refused_by_length =
    record { text = replicate 65537 0; numbers = record { refusal = 8; second = 0; values = told_nothing } }
    ∷ refused_at 1 (replicate 65536 0)
    ∷ []

-- Texts that are refused later.
abbrev pub refused_later : List Example
refused_later =
    refused_at 3 (small ("(disk 1)" ∷ "(left (2 1) (1 1))" ∷ []))
    ∷ refused_at 3 (small ("(disk 1)" ∷ "(left (2 1) (2 1))" ∷ []))
    ∷ refused_at 3 (small ("(disk 1)" ∷ "(left (2 00))" ∷ []))
    ∷ refused_at 3 (small ("(disk 1)" ∷ "(left (0 0))" ∷ []))
    ∷ refused_at 3 (small ("(disk 1)" ∷ "(left (2 1000001))" ∷ []))
    ∷ refused_at 3 (small ("(disk 1)" ∷ "(left (2 1 held))" ∷ []))
    ∷ refused_at 4 (small ("(disk 1 (7 5))" ∷ "(left)" ∷ "(served 4 0)" ∷ []))
    ∷ refused_at 4 (small ("(disk 1 (7 5))" ∷ "(left)" ∷ "(served 05 0)" ∷ []))
    ∷ refused_at 4 (small ("(disk 1 (7 5))" ∷ "(left)" ∷ []))
    ∷ refused_at 5 (small ("(disk 1 (7 5))" ∷ "(left)" ∷ "(served 5 0)" ∷ "" ∷ []))
    ∷ refused_at 3 (text_lines ("(mixed (4 8) (2 4))" ∷ "(disk 1 (1 1) (2 1) (3 1))" ∷ "(disk 2 (1 1) (2 1) (3 1))" ∷ []))
    ∷ refused_at 4 (text_lines ("(mixed (2 4) (4 8))" ∷ "(disk 1)" ∷ "(disk 2)" ∷ "(disk 3)" ∷ []))
    ∷ []
