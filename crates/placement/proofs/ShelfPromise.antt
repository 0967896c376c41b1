-- The promise of shelf copies: every film of the list has a copy or is left, and all but the shelf copies is the method's.
use mathlib.Core.Path.{◌≡◌, refl}
use mathlib.Core.List.{List, [], ◌∷◌}
use Prim.Native.Nat.{ℕ, ◌+◌, ◌≤◌}
use native.Mathlib.Omega.{arith}
use Rattle.placement.specs.Items.{Item, one_if, occurrences, list_of, amount_for, by_film}
use Rattle.placement.specs.Rack.{Disk}
use Rattle.placement.specs.Window.{within, window_of}
use Rattle.placement.specs.Disk.{copies_of, list_after}
use Rattle.placement.specs.Method.{placement, remaining}
use Rattle.placement.specs.FillingOrder.{filling, placed}
use Rattle.placement.specs.Shelf.{shelf_films, shelved}
use Rattle.placement.specs.ShelfPromise.{copy_count, ShelfPromise}
use Rattle.placement.specs.WellFormed.{Each, RecordsAccepted}
use Rattle.placement.proofs.Ascending.{list_ascending}
use Rattle.placement.proofs.Sums.{sum_by_append, one}
use Rattle.placement.proofs.Disks.{stored_films, after_sum, before_sum}
use Rattle.placement.proofs.Films.{Usable, one_if_le, occurrences_same}
use Rattle.placement.proofs.Layouts.{together}
use Rattle.placement.proofs.Listed.{sum_by_le}
use Rattle.placement.proofs.ByFilm.{sum_by_by_film}
use Rattle.placement.proofs.Shelving.{Unwanted, shelved_sum, each_unshelved, unshelved_full}
use Rattle.placement.proofs.ShelfFilms.{Wanted, ascending_wanted, shelf_sum, shelf_unwanted, listed_absent, shelf_absent}
use Rattle.placement.proofs.Viewed.{placed_viewed, remains_viewed}
use Rattle.placement.proofs.ShelfFormed.{full_slots}
use Rattle.placement.proofs.ShelfPlan.{remaining_occurrences, without, left, placed_sum, placed_absent, copies_accepted_lem, left_sum}

-- The copies of a film over all disks.
together_copies : (f : ℕ) (layout : List (List Item)) → copy_count f layout ≡ occurrences f (together layout)
together_copies f [] = refl
together_copies f (copies ∷ rest) = omega (arith, sum_by_append (one_if f) copies (together rest), together_copies f rest)

-- The method stores or leaves each film of its list.
placed_or_left :
    (rack : List Disk) (list : List Item) → Usable rack → (f : ℕ)
    → occurrences f list ≤ occurrences f (together (placement rack list)) + occurrences f (remaining rack list)
placed_or_left [] list usable f = omega arith
placed_or_left (d ∷ ds) list usable f =
    omega (
      arith,
      sum_by_append (one_if f) (copies_of d list) (together (placement ds (list_after d list))),
      placed_or_left ds (list_after d list) usable.2 f,
      occurrences_same f (copies_of d list) (within (window_of d list) list) (stored_films d.load (within (window_of d list) list) usable.1),
      before_sum d list usable.0 usable.1 (one_if f),
      after_sum d list usable.0 usable.1 (one_if f),
    )

module _ (rack : List Disk) (records : List Item) (usable : Usable (filling rack)) (accepted : RecordsAccepted records) where
  abbrev list : List Item
  list = list_of records

  abbrev films : List Item
  films = shelf_films records

  abbrev laid : List (List Item)
  laid = placed rack list

  abbrev rest : List Item
  rest = without rack records usable accepted

  -- The copies and left films of a film: the method's, and the film itself where its demand is 0.
  all_films :
      (f : ℕ)
      → copy_count f (shelved rack films laid) + occurrences f (by_film (left rack records usable accepted))
      ≡ occurrences f (together laid) + occurrences f films + occurrences f (remaining (filling rack) list)
  all_films f =
      omega (
        arith,
        together_copies f (shelved rack films laid),
        shelved_sum (one_if f) rack films laid,
        sum_by_by_film (one_if f) (left rack records usable accepted),
        left_sum rack records usable accepted (one_if f),
      )

  -- A film of demand 0 is neither on a disk of the method nor left by it.
  not_placed : (f : ℕ) → amount_for f records ≡ 0 → (occurrences f (together laid) ≡ 0) × (occurrences f (remaining (filling rack) list) ≡ 0)
  not_placed f none =
      let absent = listed_absent records f none in
      (placed_absent rack records usable accepted f absent, omega (arith, remaining_occurrences (filling rack) list usable f))

  pub shelf_promise : ShelfPromise rack records (shelved rack films laid) (by_film (left rack records usable accepted))
  shelf_promise = record {
    viewed = placed_viewed rack films list usable (shelf_unwanted records) wanted;
    leaves =
        remains_viewed rack films list usable (shelf_unwanted records) wanted rest
        (each_unshelved Unwanted rack films laid (shelf_unwanted records));
    present = λ f here. omega (arith, all_films f, placed_or_left (filling rack) list usable f, placed_sum rack records usable accepted (one_if f), shelf_sum records (one_if f));
    once = λ f none.
        omega (arith, all_films f, (not_placed f none).0, (not_placed f none).1, listed_absent records f none, shelf_sum records (one_if f));
    not_shelved = λ f some.
        omega (
          arith,
          all_films f,
          shelf_absent records accepted.distinct f some,
          together_copies f laid,
          sum_by_by_film (one_if f) (remaining (filling rack) list),
        );
    slots_taken = λ f none here.
        full_slots rack (shelved rack films laid) (copies_accepted_lem rack records usable accepted)
        (unshelved_full rack films laid
        (omega (
          arith,
          sum_by_by_film (one_if f) (left rack records usable accepted),
          left_sum rack records usable accepted (one_if f),
          (not_placed f none).1,
          sum_by_le (one_if f) one rest (one_if_le f),
        )));
  }
    where
      wanted : Each Wanted list
      wanted = ascending_wanted list (list_ascending records)
