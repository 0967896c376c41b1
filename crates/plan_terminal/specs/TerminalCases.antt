-- Calls of planning on the purser's terminal, as one table: what is asked, and what the answer and the lent tables then are.
use Rattle.std.specs.Prelude.{ℕ, zero, suc, ◌*◌, List, [], ◌∷◌, ◌++◌, replicate}
use Rattle.placement.specs.Items.{Item, ◌∶◌}
use Rattle.placement.specs.Rack.{Disk, disk, rack_of}
use Rattle.placement.specs.Tables.{Tables}
use Rattle.placement.specs.Planning.{call}
use Rattle.placement.specs.Cases.{Expected, plans, refuses, Row, Outcome, bytes_of, sevens, none, cases, unequal}
use Rattle.plan_terminal.specs.Terminal.{terminal_planning, terminal_tables_after}

-- What the definitions give on the terminal for a row of the case table.
abbrev pub terminal_outcome : Row → Outcome
terminal_outcome r = record { numbers = terminal_planning r.asked r.lent; tables = terminal_tables_after r.asked r.lent }

-- A row with bytes and tables of its own.
abbrev asks : List Disk → List ℕ → Tables → Expected → Row
asks rack bytes lent expected = record { asked = call rack bytes; lent = lent; expected = expected }

-- So many films from one on, each wanted by one viewer.
abbrev films : (first count : ℕ) → List Item
films first zero = []
films first (suc n) = first ∶ 1 ∷ films (suc first) n

-- So many records of zeros: each would be 4.
abbrev zeros : ℕ → List ℕ
zeros n = replicate (8 * n) 0

-- Nine disks, the ninth of another ratio.
abbrev last_other : List Disk
last_other = rack_of 8 1 1 ++ (disk 1 2 ∷ [])

-- 8 disks and 96 records pass. Of 32 slots each they need 256 copy places, 8 counts and 96 left places, and not one fewer.
abbrev pub limits : List Row
limits =
    asks (rack_of 8 1 1) (bytes_of (films 1 96)) (sevens 9 9 97)
    (plans 8 88 88 (films 1 8) (replicate 8 1) (films 9 88 ++ replicate 8 none))
    ∷ asks (rack_of 8 32 1) (zeros 96) (sevens 256 8 96) (refuses 4 1)
    ∷ asks (rack_of 8 32 1) (zeros 96) (sevens 255 8 96) (refuses 7 0)
    ∷ asks (rack_of 8 32 1) (zeros 96) (sevens 256 7 96) (refuses 7 0)
    ∷ asks (rack_of 8 32 1) (zeros 96) (sevens 256 8 95) (refuses 7 0)
    ∷ []

-- 17: nine disks, 97 records, both, and as many of both as the office takes.
abbrev pub size_refusals : List Row
size_refusals =
    asks (rack_of 9 1 1) [] (sevens 9 9 0) (refuses 17 0)
    ∷ asks (rack_of 1 1 1) (bytes_of (films 1 97)) (sevens 1 1 97) (refuses 17 0)
    ∷ asks (rack_of 9 1 1) (zeros 97) (sevens 9 9 97) (refuses 17 0)
    ∷ asks (rack_of 64 32 1) (zeros 1024) (sevens 2048 64 1024) (refuses 17 0)
    ∷ []

-- It comes after 12, 13, 2 and 3, which keep their order, and before 7 and what is found record by record. 777 bytes are 97 records and one byte.
abbrev pub size_order : List Row
size_order =
    asks (rack_of 65 1 1) (replicate 777 0) (sevens 1 1 1) (refuses 12 0)
    ∷ asks [] (zeros 97) (sevens 1 1 1) (refuses 12 0)
    ∷ asks last_other (zeros 1025) (sevens 1 1 1) (refuses 13 9)
    ∷ asks last_other (replicate 7 0) (sevens 1 1 1) (refuses 13 9)
    ∷ asks (rack_of 9 1 1) (replicate 7 0) (sevens 1 1 1) (refuses 2 0)
    ∷ asks (rack_of 9 1 1) (replicate 8201 0) (sevens 1 1 1) (refuses 2 0)
    ∷ asks (rack_of 1 1 1) (replicate 777 0) (sevens 1 1 97) (refuses 2 0)
    ∷ asks (rack_of 9 1 1) (zeros 1025) (sevens 1 1 1) (refuses 3 0)
    ∷ asks (rack_of 1 1 1) (zeros 1025) (sevens 1 1 1) (refuses 3 0)
    ∷ asks (rack_of 9 1 1) [] (sevens 1 1 1) (refuses 17 0)
    ∷ asks (rack_of 1 1 1) (zeros 97) (sevens 1 1 96) (refuses 17 0)
    ∷ asks (rack_of 1 1 1) (zeros 97) (sevens 1 1 97) (refuses 17 0)
    ∷ []

-- The whole table: cases A to I, and racks of unequal disks, are what they are in the office.
abbrev pub terminal_rows : List Row
terminal_rows = cases ++ (unequal ++ (limits ++ (size_refusals ++ size_order)))

-- "The office limits of 1,024 and 64 remain for the office": there such calls are planned, or lead on to what comes next.
abbrev pub office_rows : List Row
office_rows =
    asks (rack_of 9 1 1) [] (sevens 10 10 1) (plans 0 0 0 (replicate 9 none) (replicate 9 0) [])
    ∷ asks (rack_of 1 1 1) (bytes_of (films 1 97)) (sevens 2 2 98) (plans 1 96 96 (films 1 1) (1 ∷ []) (films 2 96 ++ (none ∷ [])))
    ∷ asks (rack_of 9 1 1) (zeros 97) (sevens 9 9 97) (refuses 4 1)
    ∷ asks (rack_of 64 32 1) (zeros 1024) (sevens 2048 64 1024) (refuses 4 1)
    ∷ asks (rack_of 9 1 1) [] (sevens 1 1 1) (refuses 7 0)
    ∷ []
