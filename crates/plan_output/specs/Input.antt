-- The input of the program `plan`: three numbers and the records, and how much of a long input stands for the whole.
use Rattle.std.specs.Prelude.{ℕ, ◌+◌, ◌-◌, ◌%◌, Bool, cond, List, leb, drop}
use Rattle.placement.specs.Rack.{rack_of, sizes_in_range}
use Rattle.placement.specs.Records.{number32}
use Rattle.placement.specs.Planning.{Call, call}

-- N, k and L take 12 bytes.
abbrev pub head_bytes : ℕ
head_bytes = 12

-- N, k and L are in range.
abbrev pub sizes_in : List ℕ → Bool
sizes_in input = sizes_in_range (number32 input 0) (number32 input 4) (number32 input 8)

-- "Standard input: N, k, L as three 32-bit numbers, least significant byte first, then the records."
abbrev pub call_in : List ℕ → Call
call_in input = call (rack_of (number32 input 0) (number32 input 4) (number32 input 8)) (drop head_bytes input)

-- The head, one record more than planning accepts, and less than a record more.
abbrev pub most_kept : ℕ
most_kept = 8219

-- How many bytes of an input of n bytes stand for the whole: all of them, or the head, 1,025 records and as many odd
-- bytes.
abbrev pub kept : ℕ → ℕ
kept n = cond (leb n most_kept) n (8212 + (n - head_bytes) % 8)
