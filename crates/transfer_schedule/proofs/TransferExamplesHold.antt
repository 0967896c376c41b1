-- The rows of transfers, proved by computation on the definitions, and the words of a schedule on small lists.
use mathlib.Core.Path.{◌≡◌, refl}
use mathlib.Core.Bool.{true, false}
use mathlib.Core.List.{List, [], ◌∷◌, map}
use mathlib.Core.Logic.{inl, inr}
use native.Mathlib.Omega.{arith}
use Rattle.plan_text.specs.Decimal.{decimal}
use Rattle.plan_text.specs.Reading.{plan_read}
use Rattle.transfer_schedule.specs.Stored.{StoredCopy, stored_copy, ascending, is_stored, source_of}
use Rattle.transfer_schedule.specs.Schedule.{Transfer, transfer, both_free, earliest, lacking, schedule, rounds_of}
use Rattle.transfer_schedule.specs.Counts.{count_table, count_at, table_sum}
use Rattle.transfer_schedule.specs.Transfers.{same_numbers, transfer_entry, transfer_in, transferring, entries_after, table_after, counts_of}
use Rattle.transfer_schedule.specs.Words.{StandsBefore, InOrder, parts_in, parts_of, most_parts}
use Rattle.transfer_schedule.specs.TransferExamples.{at, no_counts, triangle_transfers, path_transfers}
use Rattle.transfer_schedule.specs.TransferExamples.{transfer_rows, transfer_outcome, transfer_expected}

-- Every row's outcome, the answer, the list, the table and the counts, is the one expected.
pub transfers_hold : map transfer_outcome transfer_rows ≡ map transfer_expected transfer_rows
unfolding transferring entries_after table_after counts_of plan_read decimal
transfers_hold = refl

-- The same bytes are the same line; other bytes, and a line with more behind it, are not.
pub line_hold :
    (same_numbers (40 ∷ 41 ∷ []) (40 ∷ 41 ∷ []) ≡ true) × (same_numbers (40 ∷ 41 ∷ []) (40 ∷ 42 ∷ []) ≡ false)
    × (same_numbers (40 ∷ []) (40 ∷ 41 ∷ []) ≡ false) × (same_numbers (40 ∷ 41 ∷ []) (40 ∷ []) ≡ false)
line_hold = (refl, refl, refl, refl)

-- A transfer as a number, 256 × 2³² + 8 × 2²⁴ + 3 × 2¹⁶ + 65,535, and taken apart.
pub entry_hold : transfer_entry (transfer 3 8 65535 256) ≡ 1099646107647
entry_hold = refl

pub entry_in_hold : transfer_in 1099646107647 ≡ transfer 3 8 65535 256
entry_in_hold = refl

-- Another, 1 × 2³² + 1 × 2²⁴ + 0 × 2¹⁶ + 5: the loader is source.
pub loader_entry_hold : (transfer_entry (transfer 0 1 5 1) ≡ 4311744517) × (transfer_in 4311744517 ≡ transfer 0 1 5 1)
loader_entry_hold = (refl, refl)

-- The counts of two transfers from disk 8 to disk 1 and one from the loader to disk 8 in full, and by cells; their sum.
abbrev counted : List Transfer
counted = transfer 8 1 7 1 ∷ transfer 8 1 9 2 ∷ transfer 0 8 3 3 ∷ []

pub counts_hold :
    count_table counted
    ≡ (0 ∷ 0 ∷ 0 ∷ 0 ∷ 0 ∷ 0 ∷ 0 ∷ 0 ∷ 1 ∷ [])
    ∷ (0 ∷ 0 ∷ 0 ∷ 0 ∷ 0 ∷ 0 ∷ 0 ∷ 0 ∷ 0 ∷ [])
    ∷ (0 ∷ 0 ∷ 0 ∷ 0 ∷ 0 ∷ 0 ∷ 0 ∷ 0 ∷ 0 ∷ [])
    ∷ (0 ∷ 0 ∷ 0 ∷ 0 ∷ 0 ∷ 0 ∷ 0 ∷ 0 ∷ 0 ∷ [])
    ∷ (0 ∷ 0 ∷ 0 ∷ 0 ∷ 0 ∷ 0 ∷ 0 ∷ 0 ∷ 0 ∷ [])
    ∷ (0 ∷ 0 ∷ 0 ∷ 0 ∷ 0 ∷ 0 ∷ 0 ∷ 0 ∷ 0 ∷ [])
    ∷ (0 ∷ 0 ∷ 0 ∷ 0 ∷ 0 ∷ 0 ∷ 0 ∷ 0 ∷ 0 ∷ [])
    ∷ (0 ∷ 0 ∷ 0 ∷ 0 ∷ 0 ∷ 0 ∷ 0 ∷ 0 ∷ 0 ∷ [])
    ∷ (0 ∷ 2 ∷ 0 ∷ 0 ∷ 0 ∷ 0 ∷ 0 ∷ 0 ∷ 0 ∷ [])
    ∷ []
counts_hold = refl

pub cells_hold : count_table counted ≡ at 8 1 2 (at 0 8 1 no_counts)
cells_hold = refl

pub count_at_hold : (count_at (count_table counted) 8 1 ≡ 2) × (count_at (count_table counted) 1 8 ≡ 0) × (count_at (count_table counted) 0 8 ≡ 1)
count_at_hold = (refl, refl, refl)

pub sum_hold : (table_sum (count_table counted) ≡ 3) × (table_sum no_counts ≡ 0)
sum_hold = (refl, refl)

-- Films in ascending order, also where two are the same.
pub ascending_hold : ascending (300 ∷ 5 ∷ 41 ∷ 5 ∷ []) ≡ 5 ∷ 5 ∷ 41 ∷ 300 ∷ []
ascending_hold = refl

-- Film 8 on disks 1 and 2, film 7 on disks 2 and 3.
abbrev held : List StoredCopy
held = stored_copy 1 8 ∷ stored_copy 2 7 ∷ stored_copy 2 8 ∷ stored_copy 3 7 ∷ []

pub stored_hold : (is_stored (stored_copy 2 7) held ≡ true) × (is_stored (stored_copy 1 7) held ≡ false) × (is_stored (stored_copy 2 9) held ≡ false)
stored_hold = (refl, refl, refl)

-- The lowest disk that has the film, or the loader.
pub source_hold : (source_of held 7 ≡ 2) × (source_of held 8 ≡ 1) × (source_of held 9 ≡ 0)
source_hold = (refl, refl, refl)

-- The copies that their disk lacks: film 7 on disk 2 is there, and on disk 1 it is not.
pub lacking_hold :
    lacking held (stored_copy 1 7 ∷ stored_copy 1 8 ∷ stored_copy 2 7 ∷ stored_copy 2 9 ∷ stored_copy 3 8 ∷ []) ≡ stored_copy 1 7 ∷ stored_copy 2 9 ∷ stored_copy 3 8 ∷ []
lacking_hold = refl

-- Transfers in rounds 1, 2 and 4.
abbrev gap : List Transfer
gap = transfer 0 1 6 1 ∷ transfer 0 2 6 2 ∷ transfer 1 2 9 4 ∷ []

-- The loader and disk 1 are free in round 3, the gap; disk 1 and disk 3 in round 2; disks 3 and 4 in round 1; the loader and disk 3 in round 3.
pub earliest_hold : (earliest gap 0 1 ≡ 3) × (earliest gap 1 3 ≡ 2) × (earliest gap 3 4 ≡ 1) × (earliest gap 0 3 ≡ 3) × (earliest [] 0 1 ≡ 1)
earliest_hold = (refl, refl, refl, refl, refl)

-- Without a gap it is the round behind all.
pub behind_hold : earliest (transfer 0 1 6 1 ∷ transfer 0 2 6 2 ∷ []) 1 0 ≡ 3
behind_hold = refl

-- Free at one end only is not free, whichever end it is.
pub free_hold : (both_free gap 0 3 1 ≡ false) × (both_free gap 3 0 1 ≡ false) × (both_free gap 2 3 1 ≡ true) × (both_free gap 1 2 5 ≡ true)
free_hold = (refl, refl, refl, refl)

-- The path's transfers by stored copies. They touch disks 1, 2 and 4 twice, disk 3 and the loader once, and take 3 rounds.
pub path_hold :
    schedule (stored_copy 1 2 ∷ stored_copy 2 3 ∷ stored_copy 4 4 ∷ []) (stored_copy 1 1 ∷ stored_copy 2 2 ∷ stored_copy 3 4 ∷ stored_copy 4 3 ∷ []) ≡ path_transfers
path_hold = refl

pub path_parts_hold : map (λ end. parts_of end path_transfers) (0 ∷ 1 ∷ 2 ∷ 3 ∷ 4 ∷ 5 ∷ []) ≡ 1 ∷ 2 ∷ 2 ∷ 1 ∷ 2 ∷ 0 ∷ []
path_parts_hold = refl

pub most_hold : (most_parts path_transfers ≡ 2) × (most_parts triangle_transfers ≡ 2) × (most_parts counted ≡ 3) × (most_parts [] ≡ 0)
most_hold = (refl, refl, refl, refl)

pub rounds_hold : (rounds_of path_transfers ≡ 3) × (rounds_of triangle_transfers ≡ 3) × (rounds_of [] ≡ 0)
rounds_hold = (refl, refl, refl)

-- In one round: disk 4 in round 1 of the path and not in round 2, and as a destination in round 3. Two transfers of one round that share a disk count 2.
pub parts_in_hold :
    (parts_in 4 1 path_transfers ≡ 1) × (parts_in 4 2 path_transfers ≡ 0) × (parts_in 4 3 path_transfers ≡ 1)
    × (parts_in 1 5 (transfer 0 1 6 5 ∷ transfer 1 2 9 5 ∷ transfer 0 1 7 4 ∷ []) ≡ 2)
parts_in_hold = (refl, refl, refl, refl)

-- Copies in order: by disk, then film; neither a lower film nor a lower disk comes later.
pub ordered_hold : InOrder (stored_copy 1 4 ∷ stored_copy 1 5 ∷ stored_copy 2 1 ∷ [])
ordered_hold = (inr (refl, omega arith), (inl (omega arith), tt))

pub film_later_hold : InOrder (stored_copy 1 5 ∷ stored_copy 1 4 ∷ []) → ⊥
film_later_hold o = refute o.0
  where
    refute : StandsBefore (stored_copy 1 5) (stored_copy 1 4) → ⊥
    refute (inl less) = omega arith
    refute (inr both) = omega (arith, both.1)

pub disk_later_hold : InOrder (stored_copy 2 1 ∷ stored_copy 1 9 ∷ []) → ⊥
disk_later_hold o = refute o.0
  where
    refute : StandsBefore (stored_copy 2 1) (stored_copy 1 9) → ⊥
    refute (inl less) = omega arith
    refute (inr both) = omega (arith, both.0)
