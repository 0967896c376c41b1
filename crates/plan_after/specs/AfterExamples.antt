-- Calls of planning after an earlier plan, as one table: what is asked, and what the answer and the lent tables then are.
use Rattle.std.specs.Prelude.{ℕ, ◌+◌, List, [], ◌∷◌, ◌++◌, map, length, replicate}
use Prim.Native.String.{String}
use Rattle.refusal.specs.Verdict.{Numbers}
use Rattle.placement.specs.Items.{Item, ◌∶◌}
use Rattle.placement.specs.Copies.{Copy, copy}
use Rattle.placement.specs.Rack.{Disk, disk, rack_of, all_slots}
use Rattle.placement.specs.Tables.{Tables, tables, entry_of, copy_entry}
use Rattle.placement.specs.Planning.{Call, call, PlanSums, sums}
use Rattle.placement.specs.Cases.{bytes_of, sevens, none}
use Rattle.plan_text.specs.Examples.{text_lines}
use Rattle.plan_after.specs.After.{planning_after, tables_after_earlier}

-- A call with an earlier text and the lent tables, and what is expected: the numbers and the tables.
pub record AfterRow : Type 0 where
  pub asked : Call
  pub earlier : List ℕ
  pub lent : Tables
  pub numbers : Numbers PlanSums
  pub after : Tables

-- A row that is planned, with one place more in each table than planning needs: S, U, the number of left films and each table's places.
abbrev planned :
    List Disk → List Item → List String → (s u n : ℕ) (copies : List Copy) (counts : List ℕ) (left : List Item) → AfterRow
planned rack list earlier s u n copies counts left = record {
  asked = call rack (bytes_of list);
  earlier = text_lines earlier;
  lent = sevens (all_slots rack + 1) (length rack + 1) (length list + 1);
  numbers = record { refusal = 0; second = 0; values = sums s u n };
  after = tables (map copy_entry copies ++ (77 ∷ [])) (counts ++ (77 ∷ [])) (map entry_of left ++ (77 ∷ []));
}

-- A row that is refused, with places for two disks of two slots and two left films: the tables stay.
abbrev refuses_after : List Disk → List ℕ → List ℕ → (number second : ℕ) → AfterRow
refuses_after rack bytes earlier number second = record {
  asked = call rack bytes;
  earlier = earlier;
  lent = sevens 4 2 2;
  numbers = record { refusal = number; second = second; values = sums 0 0 0 };
  after = sevens 4 2 2;
}

-- An unused copy place.
abbrev unused : Copy
unused = copy 0 0 0

-- Two disks of two slots and load 5, and a list of four films of which one is not wanted.
abbrev two : List Disk
two = rack_of 2 2 5

abbrev films : List Item
films = 1 ∶ 2 ∷ 2 ∶ 3 ∷ 3 ∶ 4 ∷ 4 ∶ 0 ∷ []

-- Their plan: disk 1 (1 2) (2 3), disk 2 (3 4) (4 0). Only the marks differ by the earlier text.
abbrev marks_are : List String → (a b c d : ℕ) → AfterRow
marks_are earlier a b c d =
    planned two films earlier 9 0 0 (copy 1 a 2 ∷ copy 2 b 3 ∷ copy 3 c 4 ∷ copy 4 d 0 ∷ []) (2 ∷ 2 ∷ []) (replicate 4 none)

-- A list of one wrong film, one of a service clip, and one of one film.
abbrev wrong_film : List ℕ
wrong_film = bytes_of (65536 ∶ 1 ∷ [])

abbrev clip : List ℕ
clip = bytes_of (50000 ∶ 1 ∷ [])

abbrev one_film : List ℕ
one_film = bytes_of (9 ∶ 4 ∷ [])

-- A text that is refused at line 2, and one that is accepted.
abbrev damaged : List ℕ
damaged = text_lines ("(rack 1 1 1)" ∷ "(disk 2)" ∷ "(left)" ∷ "(served 0 0)" ∷ [])

abbrev accepted : List ℕ
accepted = text_lines ("(rack 1 1 1)" ∷ "(disk 1 (9 1))" ∷ "(left)" ∷ "(served 1 0)" ∷ [])

-- In this order: the same plan, with marks of its own; films on the other disk; films that are left there; copies without viewers, and viewers that differ;
-- fewer disks; more disks of other slots; an empty plan; service clips in the earlier plan; an empty list; unequal disks; case F, whose film is held
-- on one of its disks. Then the refusals: planning's before those of the text, and the text's own.
abbrev pub after_rows : List AfterRow
after_rows =
    marks_are ("(rack 2 2 5)" ∷ "(disk 1 (1 2 held) (2 3))" ∷ "(disk 2 (3 4 held) (4 0))" ∷ "(left)" ∷ "(served 9 0)" ∷ []) 1 1 1 1
    ∷ marks_are ("(rack 2 2 5)" ∷ "(disk 1 (3 4) (4 0))" ∷ "(disk 2 (1 2 held) (2 3))" ∷ "(left)" ∷ "(served 9 0)" ∷ []) 0 0 0 0
    ∷ marks_are ("(rack 2 2 5)" ∷ "(disk 1 (2 1))" ∷ "(disk 2)" ∷ "(left (1 1) (3 4) (4 0))" ∷ "(served 1 5)" ∷ []) 0 1 0 0
    ∷ marks_are ("(rack 2 2 5)" ∷ "(disk 1 (7 5) (1 0))" ∷ "(disk 2 (4 5) (3 0 held))" ∷ "(left)" ∷ "(served 10 0)" ∷ []) 1 0 1 1
    ∷ marks_are ("(rack 1 4 9)" ∷ "(disk 1 (1 1) (2 1) (3 1) (4 1))" ∷ "(left)" ∷ "(served 4 0)" ∷ []) 1 1 0 0
    ∷ marks_are ("(mixed (1 2) (4 8) (1 2))" ∷ "(disk 1 (2 2))" ∷ "(disk 2 (4 1) (1 1))" ∷ "(disk 3 (3 1))" ∷ "(left)" ∷ "(served 5 0)" ∷ []) 0 1 0 1
    ∷ marks_are ("(rack 1 1 1)" ∷ "(disk 1)" ∷ "(left)" ∷ "(served 0 0)" ∷ []) 0 0 0 0
    ∷ marks_are ("(rack 2 2 5)" ∷ "(disk 1 (50000 2) (2 3))" ∷ "(disk 2 (65535 4 held) (4 0))" ∷ "(left (60000 1))" ∷ "(served 9 1)" ∷ []) 0 1 0 1
    ∷ planned (rack_of 1 2 5) [] ("(rack 1 1 1)" ∷ "(disk 1 (9 1))" ∷ "(left)" ∷ "(served 1 0)" ∷ []) 0 0 0 (unused ∷ unused ∷ []) (0 ∷ []) []
    ∷ planned (disk 1 3 ∷ disk 2 6 ∷ []) (5 ∶ 8 ∷ 6 ∶ 9 ∷ []) ("(rack 2 1 9)" ∷ "(disk 1 (6 1))" ∷ "(disk 2 (5 1))" ∷ "(left)" ∷ "(served 2 0)" ∷ []) 9 8 1
    (copy 5 0 3 ∷ copy 5 1 5 ∷ copy 6 0 1 ∷ []) (1 ∷ 2 ∷ []) (6 ∶ 8 ∷ none ∷ [])
    ∷ planned two (9 ∶ 1000000 ∷ []) ("(rack 1 1 1)" ∷ "(disk 1 (9 1))" ∷ "(left)" ∷ "(served 1 0)" ∷ []) 10 999990 1
    (copy 9 1 5 ∷ unused ∷ copy 9 0 5 ∷ unused ∷ []) (1 ∷ 1 ∷ []) (9 ∶ 999990 ∷ [])
    ∷ refuses_after two wrong_film damaged 4 1
    ∷ refuses_after two clip damaged 16 1
    ∷ refuses_after two (0 ∷ []) [] 2 0
    ∷ refuses_after [] one_film damaged 12 0
    ∷ refuses_after (disk 2 4 ∷ disk 2 5 ∷ []) one_film [] 13 2
    ∷ refuses_after (rack_of 3 2 5) one_film damaged 7 0
    ∷ refuses_after two one_film damaged 9 2
    ∷ refuses_after two one_film [] 9 1
    ∷ refuses_after two one_film (accepted ++ (10 ∷ [])) 9 5
    ∷ refuses_after two one_film (replicate 65537 0) 8 0
    ∷ []

-- What the definitions give for a row, and what it expects.
pub record AfterOutcome : Type 0 where
  pub numbers : Numbers PlanSums
  pub tables : Tables

abbrev pub outcome_after : AfterRow → AfterOutcome
outcome_after r = record {
  numbers = planning_after r.asked r.earlier r.lent;
  tables = tables_after_earlier r.asked r.earlier r.lent;
}

abbrev pub expected_after : AfterRow → AfterOutcome
expected_after r = record { numbers = r.numbers; tables = r.after }
