-- A schedule in document 02's words: what every list of transfers keeps.
use Rattle.std.specs.Prelude.{ℕ, suc, ◌+◌, ◌*◌, ◌≤◌, ◌<◌, max, ◌≡◌, Bool, true, false, not, ◌&&◌, List, [], ◌∷◌, map, ◌⊎◌, leb, eqb, length, take, get_or}
use Rattle.placement.specs.Items.{occurrences}
use Rattle.placement.specs.Copies.{layout_of}
use Rattle.placement.specs.Plan.{Plan}
use Rattle.placement.specs.WellFormed.{Each}
use Rattle.transfer_schedule.specs.Stored.{StoredCopy, stored_copy, is_stored, stored_copies}
use Rattle.transfer_schedule.specs.Schedule.{Transfer, transfer, takes_part, both_free, lacking, rounds_of}
use Rattle.transfer_schedule.specs.Counts.{count_by, values_from, ends, count_table, table_sum}

-- A plan has the film on disk d + 1, whatever its viewers and its mark.
abbrev pub has_film : Plan → (d film : ℕ) → Bool
has_film p d film = leb 1 (occurrences film (get_or (layout_of p.copies) d []))

-- The stored copies of a plan are its films by disk.
abbrev pub StoredAsPlanned : Plan → Type 0
StoredAsPlanned p = (d film : ℕ) → is_stored (stored_copy (suc d) film) (stored_copies p) ≡ has_film p d film

-- The copy that a transfer makes.
abbrev pub copy_made : Transfer → StoredCopy
copy_made t = stored_copy t.destination t.film

-- x stands before y: on a lower disk, or on the same disk with a lower film.
abbrev pub StandsBefore : StoredCopy → StoredCopy → Type 0
StandsBefore x y = (x.disk < y.disk) ⊎ ((x.disk ≡ y.disk) × (x.film < y.film))

-- A copy stands before the first of a list, and each of the list before the next one.
abbrev pub InOrderBehind : StoredCopy → List StoredCopy → Type 0
InOrderBehind x [] = Unit {0}
InOrderBehind x (y ∷ ys) = StandsBefore x y × InOrderBehind y ys

-- Each copy of a list stands before the next one.
abbrev pub InOrder : List StoredCopy → Type 0
InOrder [] = Unit {0}
InOrder (x ∷ xs) = InOrderBehind x xs

-- The film is on the disk of a number.
abbrev pub Holds : List StoredCopy → (disk film : ℕ) → Type 0
Holds old disk film = is_stored (stored_copy disk film) old ≡ true

-- The source is the loader, and no disk holds the film; or it is the lowest disk that does.
pub record FromLoader (old : List StoredCopy) (t : Transfer) : Type 0 where
  pub loader : t.source ≡ 0
  pub nowhere : (disk : ℕ) → Holds old disk t.film → ⊥

pub record FromLowest (old : List StoredCopy) (t : Transfer) : Type 0 where
  pub a_disk : 1 ≤ t.source
  pub holds : Holds old t.source t.film
  pub lowest : (disk : ℕ) → Holds old disk t.film → t.source ≤ disk

-- The round of a transfer is the earliest from 1 where both ends are free, given those before it.
pub record InEarliest (placed : List Transfer) (t : Transfer) : Type 0 where
  pub from : 1 ≤ t.round
  pub free : both_free placed t.source t.destination t.round ≡ true
  pub earliest : (round : ℕ) → 1 ≤ round → round < t.round → both_free placed t.source t.destination round ≡ false

-- In how many transfers of a round a disk or the loader takes part, and in how many at all.
abbrev pub parts_in : (end round : ℕ) → List Transfer → ℕ
parts_in end round ts = count_by (λ t. eqb round t.round && takes_part end t) ts

abbrev pub parts_of : (end : ℕ) → List Transfer → ℕ
parts_of end ts = count_by (takes_part end) ts

-- The largest number of a list.
abbrev pub largest : List ℕ → ℕ
largest [] = 0
largest (n ∷ ns) = max n (largest ns)

-- "d the most transfers touching one disk or the loader": the largest degree in the graph of transfers, whose rounds are a greedy edge colouring.
abbrev pub most_parts : List Transfer → ℕ
most_parts ts = largest (values_from (λ end. parts_of end ts) 0 ends)

-- The transfer at a place of a list.
abbrev pub transfer_at : List Transfer → ℕ → Transfer
transfer_at ts i = get_or ts i (transfer 0 0 0 0)

-- A list of transfers from the stored copies of an old plan to those of a new one.
pub record Scheduled (old new : List StoredCopy) (ts : List Transfer) : Type 0 where
  -- one for each new copy that its disk lacks in the old plan, in their order
  pub copies : map copy_made ts ≡ lacking old new
  pub number : length ts ≡ count_by (λ c. not (is_stored c old)) new
  pub sources : Each (λ t. FromLoader old t ⊎ FromLowest old t) ts
  -- each in the earliest round, given those before it
  pub rounds : (i : ℕ) → i < length ts → InEarliest (take i ts) (transfer_at ts i)
  -- none after the number of rounds
  pub within : Each (λ t. t.round ≤ rounds_of ts) ts
  -- "in one round every disk and the loader take part in at most one transfer"
  pub alone : (end round : ℕ) → parts_in end round ts ≤ 1
  -- "the schedule built here takes at most 2d − 1 rounds when d is at least 1"
  pub few : 1 ≤ most_parts ts → rounds_of ts + 1 ≤ 2 * most_parts ts
  -- "the table's sum is the number of copies to load"
  pub summed : table_sum (count_table ts) ≡ length ts
