-- What planning promises of shelf copies, as one record about a plan's copies and left films.
use Rattle.std.specs.Prelude.{ℕ, ◌+◌, ◌≤◌, ◌≡◌, cond, List, [], ◌∷◌, map, leb, length}
use Rattle.placement.specs.Items.{Item, amount_for, occurrences, list_of}
use Rattle.placement.specs.Rack.{Disk}
use Rattle.placement.specs.Method.{left_of}
use Rattle.placement.specs.FillingOrder.{filling, placed}

-- The items with an amount of at least 1: copies with viewers, left films with something left.
abbrev pub with_amount : List Item → List Item
with_amount [] = []
with_amount (x ∷ xs) =
    let rest = with_amount xs in
    cond (leb 1 x.amount) (x ∷ rest) rest

-- How many copies a film has over all disks.
abbrev pub copy_count : ℕ → List (List Item) → ℕ
copy_count f [] = 0
copy_count f (copies ∷ rest) = occurrences f copies + copy_count f rest

-- For the records of a list, the copies of each disk and the left films.
pub record ShelfPromise (rack : List Disk) (records : List Item) (layout : List (List Item)) (left : List Item) : Type 0 where
  -- the copies with viewers are the method's, disk by disk
  pub viewed : map with_amount layout ≡ placed rack (list_of records)
  -- the left films with an amount are what the method leaves
  pub leaves : with_amount left ≡ left_of (filling rack) (list_of records)
  -- every film of the list has a copy or is left
  pub present : (f : ℕ) → 1 ≤ occurrences f records → 1 ≤ copy_count f layout + occurrences f left
  -- a film of demand 0 has one copy or is left, not both; a film that is not in the list has no copy and is not left
  pub once : (f : ℕ) → amount_for f records ≡ 0 → copy_count f layout + occurrences f left ≡ occurrences f records
  -- a film of demand 1 or more has no copy but the method's, and is left only where the method leaves it
  pub not_shelved :
      (f : ℕ) → 1 ≤ amount_for f records
      → copy_count f layout + occurrences f left ≡ copy_count f (placed rack (list_of records)) + occurrences f (left_of (filling rack) (list_of records))
  -- a film of demand 0 is left only if every slot of every disk is taken
  pub slots_taken :
      (f : ℕ) → amount_for f records ≡ 0 → 1 ≤ occurrences f left → map length layout ≡ map (λ (d : Disk). d.slots) rack
