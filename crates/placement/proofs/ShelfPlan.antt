-- The plan of accepted records with its shelf copies: its copies are accepted, and what is left are distinct entries.
use mathlib.Core.Path.{◌≡◌, refl, ◌∙◌}
use mathlib.Core.Bool.{true}
use mathlib.Core.List.{List, [], ◌∷◌, ◌++◌}
use Prim.Native.Nat.{ℕ, ◌+◌, ◌≤◌}
use native.Mathlib.Omega.{arith}
use lib.ListN.{length}
use Rattle.placement.specs.Items.{Item, sum_by, total, amount_of, one_if, occurrences, list_of}
use Rattle.placement.specs.Rack.{Disk, most_demand}
use Rattle.placement.specs.Disk.{list_after}
use Rattle.placement.specs.Method.{placement, remaining, unserved}
use Rattle.placement.specs.FillingOrder.{filling, placed}
use Rattle.placement.specs.Plan.{disks_accepted}
use Rattle.placement.specs.Promise.{Distinct}
use Rattle.placement.specs.Shelf.{shelf_films, shelved, unshelved}
use Rattle.placement.specs.WellFormed.{Each, Demanded, RecordsAccepted, Entry}
use Rattle.placement.proofs.Sums.{sum_by_append, length_sum, one}
use Rattle.placement.proofs.Films.{Usable, after_occurrences}
use Rattle.placement.proofs.Layouts.{together, same_copies_on_windows, on_windows_absent}
use Rattle.placement.proofs.Listed.{list_of_distinct}
use Rattle.placement.proofs.Each.{each_map, each_both, each_append}
use Rattle.placement.proofs.FillingOrder.{filling_length, by_number_sum}
use Rattle.placement.proofs.NumberOrder.{placement_length, accepted_by_number}
use Rattle.placement.proofs.Shelving.{Unwanted, unshelved_sum, each_unshelved}
use Rattle.placement.proofs.ShelfFilms.{unwanted_total, shelf_sum, shelf_unwanted, shelf_each}
use Rattle.placement.proofs.ShelfFormed.{shelved_accepted}
use Rattle.placement.proofs.WellFormed.{list_of_entries, placement_accepted, remaining_entries, remaining_count}

-- The method leaves no film more often than the list has it.
pub remaining_occurrences : (rack : List Disk) (list : List Item) → Usable rack → (f : ℕ) → occurrences f (remaining rack list) ≤ occurrences f list
remaining_occurrences [] list usable f = omega arith
remaining_occurrences (d ∷ ds) list usable f =
    omega (arith, remaining_occurrences ds (list_after d list) usable.2 f, after_occurrences d list usable.0 usable.1 f)

module _ (rack : List Disk) (records : List Item) (usable : Usable (filling rack)) (accepted : RecordsAccepted records) where
  abbrev list : List Item
  list = list_of records

  abbrev films : List Item
  films = shelf_films records

  -- The method's copies, in filling order and by number.
  abbrev ordered : List (List Item)
  ordered = placement (filling rack) list

  abbrev laid : List (List Item)
  laid = placed rack list

  -- They are the same copies.
  pub placed_sum : (w : Item → ℕ) → sum_by w (together laid) ≡ sum_by w (together ordered)
  placed_sum w = by_number_sum w rack ordered (placement_length (filling rack) list ∙ filling_length rack)

  -- The films that find no free slot.
  abbrev pub without : List Item
  without = unshelved rack films laid

  -- A film that is not in the method's list is on no disk of the method.
  pub placed_absent : (f : ℕ) → occurrences f list ≡ 0 → occurrences f (together laid) ≡ 0
  placed_absent f none =
      placed_sum (one_if f) ∙ on_windows_absent (filling rack) list ordered usable (same_copies_on_windows (filling rack) list ordered usable refl) f none

  films_entries : Each (Entry 0) films
  films_entries =
      each_map (λ x. Demanded x × Unwanted x) (Entry 0) films entry
      (each_both Demanded Unwanted films (shelf_each records Demanded accepted.demanded) (shelf_unwanted records))
    where
      entry : (x : Item) → Demanded x × Unwanted x → Entry 0 x
      entry x both = record { film_least = both.0.film_least; film_most = omega (arith, both.0.film_most); amount_most = omega (arith, both.1) }

  -- The copies of each disk are accepted.
  pub copies_accepted_lem : disks_accepted rack (shelved rack films laid) ≡ true
  copies_accepted_lem =
      shelved_accepted rack films laid films_entries (λ f. omega (arith, shelf_sum records (one_if f), accepted.distinct f))
      (λ f here. placed_absent f (omega (arith, shelf_sum records (one_if f), accepted.distinct f)))
      (accepted_by_number rack ordered
      (placement_accepted (filling rack) list usable (list_of_entries records accepted) (list_of_distinct records accepted.distinct)))

  -- What is left: the films without a free slot, and what the method leaves.
  abbrev pub left : List Item
  left = without ++ remaining (filling rack) list

  pub left_sum : (w : Item → ℕ) → sum_by w left ≡ sum_by w without + sum_by w (remaining (filling rack) list)
  left_sum w = sum_by_append w without (remaining (filling rack) list)

  -- Its films are distinct,
  pub left_distinct : Distinct left
  left_distinct f =
      omega (
        arith,
        left_sum (one_if f),
        unshelved_sum (one_if f) rack films laid,
        remaining_occurrences (filling rack) list usable f,
        shelf_sum records (one_if f),
        accepted.distinct f,
      )

  -- no more than the records,
  pub left_few : length left ≤ length records
  left_few =
      omega (
        arith,
        left_sum one,
        unshelved_sum one rack films laid,
        remaining_count (filling rack) list usable,
        shelf_sum records one,
        length_sum left,
        length_sum (remaining (filling rack) list),
        length_sum list,
        length_sum records,
      )

  -- entries,
  pub left_entries : Each (Entry most_demand) left
  left_entries =
      each_append (Entry most_demand) without (remaining (filling rack) list)
      (each_map (Entry 0) (Entry most_demand) without wider (each_unshelved (Entry 0) rack films laid films_entries))
      (remaining_entries (filling rack) list usable (list_of_entries records accepted))
    where
      wider : (x : Item) → Entry 0 x → Entry most_demand x
      wider x entry = record { film_least = entry.film_least; film_most = entry.film_most; amount_most = omega (arith, entry.amount_most) }

  -- and in sum what the method leaves.
  pub left_total : total left ≡ unserved (filling rack) list
  left_total =
      omega (
        arith,
        left_sum amount_of,
        unwanted_total without (each_unshelved Unwanted rack films laid (shelf_unwanted records)),
      )
