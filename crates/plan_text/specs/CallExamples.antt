-- Calls of writing and reading with tables, as two tables of cases: what is asked, and what the answer, entries, tables and space then are.
use Rattle.std.specs.Prelude.{ℕ, List, [], ◌∷◌, replicate}
use Rattle.refusal.specs.Verdict.{Numbers}
use Rattle.placement.specs.Items.{item}
use Rattle.placement.specs.Rack.{Disk, disk, rack_of}
use Rattle.placement.specs.Copies.{copy}
use Rattle.placement.specs.Tables.{Tables, tables, entry_of, copy_entry}
use Rattle.plan_text.specs.ReadCall.{Told, told, told_nothing}
use Rattle.plan_text.specs.WriteCall.{WriteCall, write_call}
use Rattle.plan_text.specs.Examples.{text_lines, mixed_text, marked_text}

-- The entry of a film with its viewers or amount.
abbrev entry : ℕ → ℕ → ℕ
entry film amount = entry_of (item film amount)

-- The entry of a film with mark and viewers.
abbrev marking : ℕ → ℕ → ℕ → ℕ
marking film mark viewers = copy_entry (copy film mark viewers)

-- A disk of two slots and load 5, and what it holds; 77 stands beyond.
abbrev asking : (copies counts : List ℕ) → ℕ → WriteCall
asking copies counts left = write_call (rack_of 1 2 5) (tables copies counts (entry 3 9 ∷ 77 ∷ [])) left

pub record Writing : Type 0 where
  pub asked : WriteCall
  pub room : List ℕ
  pub numbers : Numbers ℕ
  pub after : List ℕ

-- The text of what it holds.
abbrev small_text : List ℕ
small_text = text_lines ("(rack 1 2 5)" ∷ "(disk 1 (7 4))" ∷ "(left (3 9))" ∷ "(served 4 9)" ∷ [])

-- The text of a disk with a shelf copy, and of a film that is left with amount 0.
abbrev shelf_text : List ℕ
shelf_text = text_lines ("(rack 1 2 5)" ∷ "(disk 1 (7 4) (8 0))" ∷ "(left (3 0))" ∷ "(served 4 0)" ∷ [])

-- Writes a text of n bytes into as many.
abbrev writes : ℕ → WriteCall → List ℕ → Writing
writes n c text = record {
  asked = c;
  room = replicate n 1;
  numbers = record { refusal = 0; second = 0; values = n };
  after = text;
}

-- Refuses, and leaves the n bytes lent.
abbrev refuses : ℕ → ℕ → ℕ → WriteCall → Writing
refuses number second n c = record {
  asked = c;
  room = replicate n 1;
  numbers = record { refusal = number; second = second; values = 0 };
  after = replicate n 1;
}

abbrev declines : ℕ → ℕ → WriteCall → Writing
declines number n c = refuses number 0 n c

-- One copy, and one film left.
abbrev good : WriteCall
good = asking (entry 7 4 ∷ 0 ∷ 77 ∷ []) (1 ∷ 77 ∷ []) 1

-- Two unequal disks, with the copies of `mixed_text`.
abbrev mixed_tables : Tables
mixed_tables =
    tables (entry 8 3 ∷ entry 2 1 ∷ entry 8 5 ∷ entry 1 0 ∷ entry 3 0 ∷ 0 ∷ 77 ∷ []) (2 ∷ 3 ∷ 77 ∷ []) (entry 9 3 ∷ 77 ∷ [])

abbrev mixed_rack : List Disk
mixed_rack = disk 2 4 ∷ disk 4 8 ∷ []

-- Two disks of two slots and load 5, with the copies of `marked_text`.
abbrev marked_tables : Tables
marked_tables =
    tables (marking 8 1 1 ∷ entry 65535 4 ∷ entry 8 0 ∷ marking 3 1 0 ∷ 77 ∷ []) (2 ∷ 2 ∷ 77 ∷ []) (entry 8 2 ∷ 77 ∷ [])

-- Calls of writing.
abbrev pub writings : List Writing
writings =
    writes 54 good small_text
    ∷ writes 60 (write_call (rack_of 1 2 5) (tables (entry 7 4 ∷ entry 8 0 ∷ 77 ∷ []) (2 ∷ 77 ∷ []) (entry 3 0 ∷ 77 ∷ [])) 1) shelf_text
    ∷ declines 11 53 good
    ∷ declines 10 9 (asking (entry 7 4 ∷ entry 8 0 ∷ 77 ∷ []) (1 ∷ 77 ∷ []) 1)
    ∷ declines 10 9 (asking (entry 7 4 ∷ entry 0 1 ∷ 77 ∷ []) (1 ∷ 77 ∷ []) 1)
    ∷ declines 10 9 (asking (entry 7 6 ∷ 0 ∷ 77 ∷ []) (1 ∷ 77 ∷ []) 1)
    ∷ declines 10 9 (asking (entry 65536 4 ∷ 0 ∷ 77 ∷ []) (1 ∷ 77 ∷ []) 1)
    ∷ declines 10 9 (asking (entry 7 4 ∷ 0 ∷ 77 ∷ []) (4294967295 ∷ 77 ∷ []) 1)
    ∷ declines 10 9 (asking (entry 7 4 ∷ 0 ∷ 77 ∷ []) (3 ∷ 77 ∷ []) 1)
    ∷ declines 10 9 (asking (entry 7 1 ∷ entry 8 1 ∷ []) (3 ∷ []) 1)
    ∷ declines 7 9 (asking (entry 7 4 ∷ 0 ∷ 77 ∷ []) (1 ∷ 77 ∷ []) 3)
    ∷ declines 7 9 (asking (entry 7 4 ∷ []) (1 ∷ 77 ∷ []) 1)
    ∷ declines 7 9 (asking (entry 7 4 ∷ 0 ∷ 77 ∷ []) [] 1)
    ∷ writes 94 (write_call mixed_rack mixed_tables 1) mixed_text
    ∷ declines 10 9 (write_call (disk 4 8 ∷ disk 2 4 ∷ []) mixed_tables 1)
    ∷ declines 10 9 (write_call mixed_rack (tables (entry 8 3 ∷ entry 2 1 ∷ entry 8 5 ∷ entry 1 0 ∷ entry 3 0 ∷ entry 4 0 ∷ []) (2 ∷ 3 ∷ []) []) 0)
    ∷ declines 10 9 (write_call mixed_rack (tables (entry 8 3 ∷ entry 2 1 ∷ entry 8 5 ∷ entry 1 0 ∷ entry 3 0 ∷ 0 ∷ 0 ∷ []) (2 ∷ 5 ∷ []) []) 0)
    ∷ writes 95 (write_call (rack_of 2 2 5) marked_tables 1) marked_text
    ∷ declines 10 9 (asking (marking 7 2 4 ∷ 0 ∷ 77 ∷ []) (1 ∷ 77 ∷ []) 1)
    ∷ declines 10 9 (asking (marking 7 65535 4 ∷ 0 ∷ 77 ∷ []) (1 ∷ 77 ∷ []) 1)
    ∷ declines 10 9 (asking (marking 7 1 4 ∷ marking 0 1 0 ∷ 77 ∷ []) (1 ∷ 77 ∷ []) 1)
    ∷ declines 10 9 (asking (marking 0 1 4 ∷ 0 ∷ 77 ∷ []) (1 ∷ 77 ∷ []) 1)
    ∷ declines 10 9 (asking (marking 7 1 2 ∷ marking 7 0 2 ∷ 77 ∷ []) (2 ∷ 77 ∷ []) 1)
    ∷ declines 10 9 (write_call (rack_of 1 2 5) (tables (marking 7 1 4 ∷ 0 ∷ []) (1 ∷ []) (marking 3 1 9 ∷ [])) 1)
    ∷ declines 12 9 (write_call (rack_of 1 33 5) (tables [] [] []) 0)
    ∷ declines 12 9 (write_call [] (tables [] [] []) 0)
    ∷ declines 12 9 (write_call (disk 2 4 ∷ disk 4 9 ∷ disk 33 66 ∷ []) (tables [] [] []) 0)
    ∷ refuses 13 2 9 (write_call (disk 2 4 ∷ disk 4 9 ∷ disk 3 7 ∷ []) (tables [] [] []) 0)
    ∷ []

pub record Taking : Type 0 where
  pub text : List ℕ
  -- A list of entries and tables that hold 77 everywhere.
  pub entries : List Disk
  pub lent : Tables
  pub numbers : Numbers Told
  pub rack : List Disk
  pub after : Tables

-- So many entries of 77 slots and load 77.
abbrev others : ℕ → List Disk
others n = replicate n (disk 77 77)

-- Reads a text of one disk of two slots and load 5, which serves 4 and leaves one film, into three entries and tables.
abbrev takes : List ℕ → ℕ → Tables → Tables → Taking
takes text unserved lent after = record {
  text = text;
  entries = others 3;
  lent = lent;
  numbers = record { refusal = 0; second = 0; values = told 1 4 unserved 1 };
  rack = disk 2 5 ∷ others 2;
  after = after;
}

-- Reads `mixed_text` into n entries and tables.
abbrev takes_mixed : ℕ → List Disk → Tables → Tables → Taking
takes_mixed n rack lent after = record {
  text = mixed_text;
  entries = others n;
  lent = lent;
  numbers = record { refusal = 0; second = 0; values = told 2 9 3 1 };
  rack = rack;
  after = after;
}

-- Reads `marked_text` into two entries and tables.
abbrev takes_marked : Tables → Tables → Taking
takes_marked lent after = record {
  text = marked_text;
  entries = others 2;
  lent = lent;
  numbers = record { refusal = 0; second = 0; values = told 2 5 2 1 };
  rack = rack_of 2 2 5;
  after = after;
}

-- Refuses, and leaves the n entries and the tables.
abbrev leaves : ℕ → ℕ → List ℕ → ℕ → Tables → Taking
leaves number second text n lent = record {
  text = text;
  entries = others n;
  lent = lent;
  numbers = record { refusal = number; second = second; values = told_nothing };
  rack = others n;
  after = lent;
}

-- Tables of these lengths.
abbrev sevens : (copies counts left : ℕ) → Tables
sevens copies counts left = tables (replicate copies 77) (replicate counts 77) (replicate left 77)

-- Calls of reading.
abbrev pub takings : List Taking
takings =
    takes small_text 9 (sevens 3 2 3) (tables (entry 7 4 ∷ 0 ∷ 77 ∷ []) (1 ∷ 77 ∷ []) (entry 3 9 ∷ 77 ∷ 77 ∷ []))
    ∷ takes shelf_text 0 (sevens 3 2 3) (tables (entry 7 4 ∷ entry 8 0 ∷ 77 ∷ []) (2 ∷ 77 ∷ []) (entry 3 0 ∷ 77 ∷ 77 ∷ []))
    ∷ takes_mixed 2 mixed_rack (sevens 7 3 2) mixed_tables
    ∷ takes_mixed 4 (disk 2 4 ∷ disk 4 8 ∷ others 2) (sevens 7 3 2) mixed_tables
    ∷ takes_marked (sevens 5 3 2) marked_tables
    ∷ leaves 7 0 small_text 1 (sevens 1 2 3)
    ∷ leaves 7 0 small_text 1 (sevens 3 0 3)
    ∷ leaves 7 0 small_text 1 (sevens 3 2 0)
    ∷ leaves 7 0 small_text 0 (sevens 3 2 3)
    ∷ leaves 7 0 mixed_text 1 (sevens 7 3 2)
    ∷ leaves 7 0 mixed_text 2 (sevens 5 3 2)
    ∷ leaves 9 4 (text_lines ("(rack 1 2 5)" ∷ "(disk 1 (7 4))" ∷ "(left (3 9))" ∷ "(served 5 9)" ∷ [])) 0 (sevens 0 0 0)
    ∷ []
