-- Cases A to I of document 01, planning's edges, shelf copies, unequal disks and the refusals, as one table: what is asked, and what the answer and the lent tables then are.
use Rattle.std.specs.Prelude.{ℕ, ◌+◌, ◌/◌, ◌%◌, List, [], ◌∷◌, ◌++◌, map, length, replicate}
use Rattle.refusal.specs.Verdict.{Numbers}
use Rattle.placement.specs.Items.{Item, ◌∶◌}
use Rattle.placement.specs.Rack.{Disk, disk, rack_of, all_slots}
use Rattle.placement.specs.Tables.{Tables, tables, entry_of}
use Rattle.placement.specs.Planning.{Call, call, PlanSums, sums, planning, tables_after}

-- What a row expects: a plan with S, U, the number of left films and each table's places, or a refusal with its second number.
pub data Expected : Type 0 where
  plans : (s u n : ℕ) (copies : List Item) (counts : List ℕ) (left : List Item) → Expected
  refuses : (number second : ℕ) → Expected

-- A call with the lent tables, and what is expected of it.
pub record Row : Type 0 where
  pub asked : Call
  pub lent : Tables
  pub expected : Expected

-- A number as 32 bits, least significant byte first.
abbrev pub bytes32 : ℕ → List ℕ
bytes32 n = n % 256 ∷ n / 256 % 256 ∷ n / 65536 % 256 ∷ n / 16777216 % 256 ∷ []

-- Records as bytes.
abbrev pub bytes_of : List Item → List ℕ
bytes_of [] = []
bytes_of (x ∷ xs) = (bytes32 x.film ++ bytes32 x.amount) ++ bytes_of xs

-- Tables that hold 77 everywhere.
abbrev pub sevens : (copies counts left : ℕ) → Tables
sevens copies counts left = tables (replicate copies 77) (replicate counts 77) (replicate left 77)

-- A row with one place more in each table than planning needs.
abbrev row : List Disk → List Item → Expected → Row
row rack list e = record {
  asked = call rack (bytes_of list);
  lent = sevens (all_slots rack + 1) (length rack + 1) (length list + 1);
  expected = e;
}

-- A row with bytes and tables of its own that is refused.
abbrev refusal : List Disk → List ℕ → Tables → ℕ → ℕ → Row
refusal rack bytes lent number second = record { asked = call rack bytes; lent = lent; expected = refuses number second }

pub record Outcome : Type 0 where
  pub numbers : Numbers PlanSums
  pub tables : Tables

-- What the definitions give for a row.
abbrev pub outcome : Row → Outcome
outcome r = record { numbers = planning r.asked r.lent; tables = tables_after r.asked r.lent }

-- The outcome that a row expects of these tables at entry: after a plan each table has the row's places and then its last 77;
-- after a refusal all is as it was.
abbrev expectation : Tables → Expected → Outcome
expectation t (plans s u n copies counts left) = record {
  numbers = record { refusal = 0; second = 0; values = sums s u n };
  tables = tables (map entry_of copies ++ (77 ∷ [])) (counts ++ (77 ∷ [])) (map entry_of left ++ (77 ∷ []));
}
expectation t (refuses number second) = record {
  numbers = record { refusal = number; second = second; values = sums 0 0 0 };
  tables = t;
}

abbrev pub expected_of : Row → Outcome
expected_of r = expectation r.lent r.expected

-- An unused place.
abbrev pub none : Item
none = 0 ∶ 0

abbrev pub case_a : Row
case_a =
    row (rack_of 3 4 6)
    (1 ∶ 1 ∷ 2 ∶ 1 ∷ 3 ∶ 1 ∷ 4 ∶ 1 ∷ 5 ∶ 1 ∷ 6 ∶ 1 ∷ 7 ∶ 1 ∷ 8 ∶ 1 ∷ 9 ∶ 1 ∷ 10 ∶ 1 ∷ 11 ∶ 4 ∷ 12 ∶ 4 ∷ [])
    (plans 16 2 2
    (8 ∶ 1 ∷ 9 ∶ 1 ∷ 10 ∶ 1 ∷ 11 ∶ 3 ∷ 6 ∶ 1 ∷ 7 ∶ 1 ∷ 11 ∶ 1 ∷ 12 ∶ 3 ∷ 3 ∶ 1 ∷ 4 ∶ 1 ∷ 5 ∶ 1 ∷ 12 ∶ 1 ∷ [])
    (4 ∷ 4 ∷ 4 ∷ [])
    (1 ∶ 1 ∷ 2 ∶ 1 ∷ replicate 10 none))

abbrev pub case_b : Row
case_b = row (rack_of 1 2 5) [] (plans 0 0 0 (none ∷ none ∷ []) (0 ∷ []) [])

abbrev pub case_c : Row
case_c =
    row (rack_of 2 1 2) (1 ∶ 1 ∷ 2 ∶ 3 ∷ [])
    (plans 3 1 1 (2 ∶ 2 ∷ 2 ∶ 1 ∷ []) (1 ∷ 1 ∷ []) (1 ∶ 1 ∷ none ∷ []))

abbrev pub case_d : Row
case_d =
    row (rack_of 1 3 10) (1 ∶ 4 ∷ 2 ∶ 6 ∷ 3 ∶ 10 ∷ [])
    (plans 10 10 1 (1 ∶ 4 ∷ 2 ∶ 6 ∷ none ∷ []) (2 ∷ []) (3 ∶ 10 ∷ none ∷ none ∷ []))

abbrev pub case_e : Row
case_e =
    row (rack_of 2 2 10) (1 ∶ 3 ∷ 3 ∶ 4 ∷ 2 ∶ 13 ∷ [])
    (plans 20 0 0 (3 ∶ 4 ∷ 2 ∶ 6 ∷ 1 ∶ 3 ∷ 2 ∶ 7 ∷ []) (2 ∷ 2 ∷ []) (none ∷ none ∷ none ∷ []))

abbrev pub case_f : Row
case_f =
    row (rack_of 2 2 5) (9 ∶ 1000000 ∷ [])
    (plans 10 999990 1 (9 ∶ 5 ∷ none ∷ 9 ∶ 5 ∷ none ∷ []) (1 ∷ 1 ∷ []) (9 ∶ 999990 ∷ []))

abbrev pub case_g : Row
case_g =
    row (rack_of 1 4 9) (4 ∶ 0 ∷ 1 ∶ 2 ∷ 2 ∶ 3 ∷ [])
    (plans 5 0 0 (1 ∶ 2 ∷ 2 ∶ 3 ∷ 4 ∶ 0 ∷ none ∷ []) (3 ∷ []) (none ∷ none ∷ none ∷ []))

abbrev pub case_h : Row
case_h = row (rack_of 1 1 5) (7 ∶ 5 ∷ 2 ∶ 5 ∷ []) (plans 5 5 1 (2 ∶ 5 ∷ []) (1 ∷ []) (7 ∶ 5 ∷ none ∷ []))

abbrev pub case_i : Row
case_i = row (rack_of 1 1 5) (5 ∶ 3 ∷ 5 ∶ 3 ∷ []) (refuses 6 2)

-- Cases A to I.
abbrev pub cases : List Row
cases = case_a ∷ case_b ∷ case_c ∷ case_d ∷ case_e ∷ case_f ∷ case_g ∷ case_h ∷ case_i ∷ []

-- One film that fills one disk.
abbrev filled : List Disk → ℕ → ℕ → Row
filled rack film viewers = row rack (film ∶ viewers ∷ []) (plans viewers 0 0 (film ∶ viewers ∷ []) (1 ∷ []) (none ∷ []))

-- N = 64 passes, film 49,999 passes, load 65,535 passes, a demand of 1,000,000 passes (F), and so do 32 slots. The left table goes by film, not by
-- amount. A record in bytes: film 258, demand 66,051.
abbrev pub edges : List Row
edges =
    row (rack_of 64 1 1) [] (plans 0 0 0 (replicate 64 none) (replicate 64 0) [])
    ∷ filled (rack_of 1 1 5) 49999 5
    ∷ filled (rack_of 1 1 65535) 7 65535
    ∷ row (rack_of 1 32 9) [] (plans 0 0 0 (replicate 32 none) (0 ∷ []) [])
    ∷ row (rack_of 1 1 1) (9 ∶ 2 ∷ 3 ∶ 5 ∷ 7 ∶ 1 ∷ []) (plans 1 7 2 (7 ∶ 1 ∷ []) (1 ∷ []) (3 ∶ 5 ∷ 9 ∶ 2 ∷ none ∷ []))
    ∷ record {
      asked = call (rack_of 1 1 65535) (2 ∷ 1 ∷ 0 ∷ 0 ∷ 3 ∷ 2 ∷ 1 ∷ 0 ∷ []);
      lent = sevens 2 2 2;
      expected = plans 65535 516 1 (258 ∶ 65535 ∷ []) (1 ∷ []) (258 ∶ 516 ∷ []);
    }
    ∷ []

-- Shelf copies: the only slot is taken, and the film is left. Films in ascending number, to disk 1 first and then to disk 2. Disk 1 is
-- full, and on disk 2 the film stands behind the other copy. Disk 1 takes two films before disk 2 takes one, though a split film is on
-- both. A list of demand 0 alone. Several films without a slot. A film without a slot between two films that the method leaves. Slots
-- that stay free: no film has a second copy for them.
abbrev pub shelves : List Row
shelves =
    row (rack_of 1 1 5) (7 ∶ 5 ∷ 2 ∶ 0 ∷ []) (plans 5 0 1 (7 ∶ 5 ∷ []) (1 ∷ []) (2 ∶ 0 ∷ none ∷ []))
    ∷ row (rack_of 2 2 5) (3 ∶ 0 ∷ 9 ∶ 5 ∷ 1 ∶ 0 ∷ 2 ∶ 0 ∷ [])
    (plans 5 0 0 (9 ∶ 5 ∷ 1 ∶ 0 ∷ 2 ∶ 0 ∷ 3 ∶ 0 ∷ []) (2 ∷ 2 ∷ []) (replicate 4 none))
    ∷ row (rack_of 2 2 5) (4 ∶ 2 ∷ 5 ∶ 3 ∷ 6 ∶ 4 ∷ 1 ∶ 0 ∷ [])
    (plans 9 0 0 (4 ∶ 2 ∷ 5 ∶ 3 ∷ 6 ∶ 4 ∷ 1 ∶ 0 ∷ []) (2 ∷ 2 ∷ []) (replicate 4 none))
    ∷ row (rack_of 2 3 5) (4 ∶ 8 ∷ 6 ∶ 8 ∷ 3 ∶ 0 ∷ 1 ∶ 0 ∷ 2 ∶ 0 ∷ [])
    (plans 10 6 1 (4 ∶ 5 ∷ 1 ∶ 0 ∷ 2 ∶ 0 ∷ 4 ∶ 3 ∷ 6 ∶ 2 ∷ 3 ∶ 0 ∷ []) (3 ∷ 3 ∷ []) (6 ∶ 6 ∷ replicate 4 none))
    ∷ row (rack_of 2 1 5) (3 ∶ 0 ∷ 1 ∶ 0 ∷ 2 ∶ 0 ∷ []) (plans 0 0 1 (1 ∶ 0 ∷ 2 ∶ 0 ∷ []) (1 ∷ 1 ∷ []) (3 ∶ 0 ∷ none ∷ none ∷ []))
    ∷ row (rack_of 1 1 5) (8 ∶ 0 ∷ 6 ∶ 0 ∷ 4 ∶ 0 ∷ []) (plans 0 0 2 (4 ∶ 0 ∷ []) (1 ∷ []) (6 ∶ 0 ∷ 8 ∶ 0 ∷ none ∷ []))
    ∷ row (rack_of 1 1 1) (9 ∶ 2 ∷ 5 ∶ 0 ∷ 3 ∶ 5 ∷ 7 ∶ 1 ∷ []) (plans 1 7 3 (7 ∶ 1 ∷ []) (1 ∷ []) (3 ∶ 5 ∷ 5 ∶ 0 ∷ 9 ∶ 2 ∷ none ∷ []))
    ∷ row (rack_of 2 2 9) (4 ∶ 0 ∷ 1 ∶ 2 ∷ []) (plans 2 0 0 (1 ∶ 2 ∷ 4 ∶ 0 ∷ none ∷ none ∷ []) (2 ∷ 0 ∷ []) (none ∷ none ∷ []))
    ∷ []

-- Unequal disks. Disk 2 has fewer slots and is filled first. Of disks with equal slots the lower number is filled first, and the largest last.
-- Shelf copies go by disk number, and disk 1 takes them though disk 2 was filled first and has a free slot. Two viewers are left of a rack that
-- just fits. Three sizes of disks. Shelf films of which the last finds no slot.
abbrev pub unequal : List Row
unequal =
    row (disk 4 8 ∷ disk 2 4 ∷ []) (1 ∶ 3 ∷ 2 ∶ 4 ∷ 3 ∶ 5 ∷ [])
    (plans 12 0 0 (2 ∶ 3 ∷ 3 ∶ 5 ∷ none ∷ none ∷ 1 ∶ 3 ∷ 2 ∶ 1 ∷ []) (2 ∷ 2 ∷ []) (replicate 3 none))
    ∷ row (disk 1 2 ∷ disk 2 4 ∷ disk 1 2 ∷ []) (1 ∶ 1 ∷ 2 ∶ 2 ∷ 3 ∶ 3 ∷ [])
    (plans 6 0 0 (2 ∶ 2 ∷ 1 ∶ 1 ∷ 3 ∶ 1 ∷ 3 ∶ 2 ∷ []) (1 ∷ 2 ∷ 1 ∷ []) (replicate 3 none))
    ∷ row (disk 4 8 ∷ disk 2 4 ∷ []) (9 ∶ 4 ∷ 2 ∶ 0 ∷ 1 ∶ 0 ∷ [])
    (plans 4 0 0 (1 ∶ 0 ∷ 2 ∶ 0 ∷ none ∷ none ∷ 9 ∶ 4 ∷ none ∷ []) (2 ∷ 1 ∷ []) (replicate 3 none))
    ∷ row (disk 2 6 ∷ disk 1 3 ∷ []) (1 ∶ 2 ∷ 2 ∶ 2 ∷ 3 ∶ 5 ∷ [])
    (plans 7 2 1 (2 ∶ 2 ∷ 3 ∶ 2 ∷ 3 ∶ 3 ∷ []) (2 ∷ 1 ∷ []) (1 ∶ 2 ∷ none ∷ none ∷ []))
    ∷ row (disk 3 3 ∷ disk 2 2 ∷ disk 1 1 ∷ disk 2 2 ∷ []) (1 ∶ 1 ∷ 2 ∶ 1 ∷ 3 ∶ 2 ∷ 4 ∶ 4 ∷ [])
    (plans 8 0 0 (4 ∶ 3 ∷ none ∷ none ∷ 2 ∶ 1 ∷ 3 ∶ 1 ∷ 1 ∶ 1 ∷ 3 ∶ 1 ∷ 4 ∶ 1 ∷ []) (1 ∷ 2 ∷ 1 ∷ 2 ∷ []) (replicate 4 none))
    ∷ row (disk 2 2 ∷ disk 1 1 ∷ []) (4 ∶ 0 ∷ 3 ∶ 0 ∷ 2 ∶ 0 ∷ 1 ∶ 0 ∷ [])
    (plans 0 0 1 (1 ∶ 0 ∷ 2 ∶ 0 ∷ 3 ∶ 0 ∷ []) (2 ∷ 1 ∷ []) (4 ∶ 0 ∷ replicate 3 none))
    ∷ []

-- 12: no entries, more than 64, or one outside its ranges, wherever it stands, also where a ratio or the list is at fault too.
-- 13, with the entry: the first of another ratio than entry 1, also where the list is at fault too.
abbrev pub rack_refusals : List Row
rack_refusals =
    row [] [] (refuses 12 0)
    ∷ row (rack_of 65 1 1) [] (refuses 12 0)
    ∷ row (rack_of 1 0 1) [] (refuses 12 0)
    ∷ row (rack_of 1 33 1) [] (refuses 12 0)
    ∷ row (rack_of 1 1 0) [] (refuses 12 0)
    ∷ row (rack_of 1 1 65536) (7 ∶ 5 ∷ []) (refuses 12 0)
    ∷ row (disk 2 4 ∷ disk 33 66 ∷ []) [] (refuses 12 0)
    ∷ row (disk 2 4 ∷ disk 3 7 ∷ disk 2 0 ∷ []) [] (refuses 12 0)
    ∷ row (rack_of 65 1 1) (0 ∶ 1 ∷ []) (refuses 12 0)
    ∷ refusal (rack_of 1 33 1) (0 ∷ []) (sevens 0 0 0) 12 0
    ∷ row (disk 2 4 ∷ disk 4 8 ∷ disk 3 7 ∷ []) [] (refuses 13 3)
    ∷ row (disk 1 5 ∷ disk 2 5 ∷ disk 1 6 ∷ []) [] (refuses 13 2)
    ∷ refusal (disk 1 5 ∷ disk 1 6 ∷ []) (0 ∷ []) (sevens 0 0 0) 13 2
    ∷ []

-- 2 comes before 3, and 3 before 7. 1,024 records are not 3: here the first of them is at fault.
abbrev pub shape_refusals : List Row
shape_refusals =
    refusal (rack_of 1 1 5) (replicate 7 0) (sevens 1 1 0) 2 0
    ∷ refusal (rack_of 1 1 5) (replicate 9 0) (sevens 1 1 0) 2 0
    ∷ refusal (rack_of 1 1 5) (replicate 8201 0) (sevens 1 1 1025) 2 0
    ∷ refusal (rack_of 1 1 5) (replicate 8200 0) (sevens 1 1 0) 3 0
    ∷ refusal (rack_of 1 1 5) (replicate 8192 0) (sevens 1 1 1024) 4 1
    ∷ []

-- 7: each table one place too short, also where a record is at fault. The copy table has a place for each slot of each disk.
abbrev pub room_refusals : List Row
room_refusals =
    refusal (rack_of 2 2 5) (bytes_of (7 ∶ 5 ∷ [])) (sevens 3 2 1) 7 0
    ∷ refusal (rack_of 2 2 5) (bytes_of (7 ∶ 5 ∷ [])) (sevens 4 1 1) 7 0
    ∷ refusal (rack_of 2 2 5) (bytes_of (7 ∶ 5 ∷ 8 ∶ 0 ∷ [])) (sevens 4 2 1) 7 0
    ∷ refusal (rack_of 2 2 5) (bytes_of (0 ∶ 5 ∷ [])) (sevens 4 2 0) 7 0
    ∷ refusal (rack_of 2 2 5) (bytes_of (50000 ∶ 5 ∷ [])) (sevens 4 2 0) 7 0
    ∷ refusal (disk 4 8 ∷ disk 2 4 ∷ []) [] (sevens 5 2 0) 7 0
    ∷ []

-- 16, with the record: films 50,000 to 65,535, whatever the demand; film 65,536 is 4, below. The first record with a fault decides.
abbrev pub clip_refusals : List Row
clip_refusals =
    row (rack_of 1 1 5) (50000 ∶ 5 ∷ []) (refuses 16 1)
    ∷ row (rack_of 1 1 5) (65535 ∶ 5 ∷ []) (refuses 16 1)
    ∷ row (rack_of 1 1 5) (60000 ∶ 0 ∷ []) (refuses 16 1)
    ∷ row (rack_of 1 1 5) (50000 ∶ 1000001 ∷ []) (refuses 16 1)
    ∷ row (rack_of 1 1 5) (5 ∶ 1 ∷ 49999 ∶ 1 ∷ 50000 ∶ 1 ∷ 0 ∶ 1 ∷ []) (refuses 16 3)
    ∷ row (rack_of 1 1 5) (5 ∶ 1000001 ∷ 50000 ∶ 1 ∷ []) (refuses 5 1)
    ∷ []

-- Record by record: 4, 5, 6 in this order within a record, 16 apart, and the first record with a fault decides.
abbrev pub record_refusals : List Row
record_refusals =
    row (rack_of 1 1 5) (0 ∶ 5 ∷ []) (refuses 4 1)
    ∷ row (rack_of 1 1 5) (65536 ∶ 5 ∷ []) (refuses 4 1)
    ∷ row (rack_of 1 1 5) (65541 ∶ 5 ∷ []) (refuses 4 1)
    ∷ row (rack_of 1 1 5) (16777221 ∶ 5 ∷ []) (refuses 4 1)
    ∷ row (rack_of 1 1 5) (5 ∶ 16777216 ∷ []) (refuses 5 1)
    ∷ row (rack_of 1 1 5) (5 ∶ 1000001 ∷ []) (refuses 5 1)
    ∷ row (rack_of 1 1 5) (0 ∶ 1000001 ∷ []) (refuses 4 1)
    ∷ row (rack_of 1 1 5) (5 ∶ 1 ∷ 5 ∶ 1000001 ∷ []) (refuses 5 2)
    ∷ row (rack_of 1 1 5) (5 ∶ 1000001 ∷ 0 ∶ 1 ∷ []) (refuses 5 1)
    ∷ row (rack_of 1 1 5) (5 ∶ 0 ∷ 6 ∶ 1 ∷ 5 ∶ 0 ∷ 0 ∶ 1 ∷ []) (refuses 6 3)
    ∷ []

-- The whole table.
abbrev pub rows : List Row
rows = cases ++ (edges ++ (shelves ++ (unequal ++ (rack_refusals ++ (shape_refusals ++ (room_refusals ++ (clip_refusals ++ record_refusals)))))))
