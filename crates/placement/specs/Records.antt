-- Demand records: eight bytes each, and the list's refusals.
use Rattle.std.specs.Prelude.{ℕ, zero, suc, ◌+◌, ◌*◌, ◌/◌, ◌%◌, List, [], ◌∷◌, leb, eqb, length, get_or}
use Rattle.refusal.specs.Verdict.{Verdict, unless}
use Rattle.placement.specs.Items.{Item, item, occurrences}
use Rattle.placement.specs.Rack.{in_range, most_film, most_plan_film, most_demand, most_records}

-- 32 bits at a place of the list, least significant byte first.
abbrev pub number32 : List ℕ → ℕ → ℕ
number32 bytes at =
    get_or bytes at 0 + 256 * get_or bytes (at + 1) 0 + 65536 * get_or bytes (at + 2) 0 + 16777216 * get_or bytes (at + 3) 0

-- Record i, from 0: film number, then demand.
abbrev pub record_at : List ℕ → ℕ → Item
record_at bytes i = item (number32 bytes (8 * i)) (number32 bytes (8 * i + 4))

-- Records i, i + 1, and so on: n of them.
abbrev pub records_from : List ℕ → ℕ → ℕ → List Item
records_from bytes i zero = []
records_from bytes i (suc n) = record_at bytes i ∷ records_from bytes (suc i) n

-- The number of records in the bytes of a list.
abbrev pub record_count : List ℕ → ℕ
record_count bytes = length bytes / 8

-- The records of a list.
abbrev pub records_of : List ℕ → List Item
records_of bytes = records_from bytes 0 (record_count bytes)

-- The list's shape: 2, length no multiple of 8; 3, more than 1,024 records; then what comes next.
abbrev pub shape_judged : {A : Type 0} → List ℕ → Verdict A → Verdict A
shape_judged bytes following =
    unless (eqb (length bytes % 8) 0) 2 0 (unless (leb (record_count bytes) most_records) 3 0 following)

-- The tests of one record, at a position from 1: 4, film number; 16, film number of a service clip (02); 5, demand; 6, film seen in an earlier
-- record.
abbrev pub record_judged : {A : Type 0} → List Item → ℕ → Item → Verdict A → Verdict A
record_judged earlier position x following =
    unless (in_range most_plan_film x.film) 4 position
    (unless (leb x.film most_film) 16 position
    (unless (leb x.amount most_demand) 5 position
    (unless (eqb (occurrences x.film earlier) 0) 6 position
    following)))

-- Record by record, from a position on: the first one with a fault is refused. `earlier` are the records before them, last one first.
abbrev pub records_judged_from : {A : Type 0} → List Item → ℕ → List Item → Verdict A → Verdict A
records_judged_from earlier position [] following = following
records_judged_from earlier position (x ∷ xs) following =
    let rest = records_judged_from (x ∷ earlier) (suc position) xs following in
    record_judged earlier position x rest

abbrev pub records_judged : {A : Type 0} → List ℕ → Verdict A → Verdict A
records_judged bytes following = records_judged_from [] 1 (records_of bytes) following

-- "The list's refusals are 2, 3 and those found record by record."
abbrev pub list_judged : {A : Type 0} → List ℕ → Verdict A → Verdict A
list_judged bytes following = shape_judged bytes (records_judged bytes following)
