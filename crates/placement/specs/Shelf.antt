-- Shelf copies, document 02's P1: the films of a list that nobody is expected to watch, in the slots that the method leaves free.
use Rattle.std.specs.Prelude.{Bool, false, cond, ◌||◌, List, [], ◌∷◌, ◌++◌, leb, ltb, length}
use Rattle.placement.specs.Items.{Item, by_film}
use Rattle.placement.specs.Rack.{Disk}

-- The items with amount 0: of a list's records, the films of demand 0.
abbrev pub without_amount : List Item → List Item
without_amount [] = []
without_amount (x ∷ xs) =
    let rest = without_amount xs in
    cond (leb 1 x.amount) rest (x ∷ rest)

-- "Films of demand 0 are taken in ascending number."
abbrev pub shelf_films : List Item → List Item
shelf_films records = by_film (without_amount records)

-- A disk with fewer copies than slots has a free slot.
abbrev pub has_free_slot : Disk → List Item → Bool
has_free_slot d copies = ltb (length copies) d.slots

-- Some disk has one.
abbrev pub some_free_slot : List Disk → List (List Item) → Bool
some_free_slot [] layout = false
some_free_slot (d ∷ ds) [] = false
some_free_slot (d ∷ ds) (copies ∷ rest) = has_free_slot d copies || some_free_slot ds rest

-- "Each goes to the lowest disk with a free slot, as a copy with 0 viewers after its other copies": disks by number, and the film's
-- item, whose amount is 0. Without a free slot the copies stay as they are.
abbrev pub shelved_one : List Disk → Item → List (List Item) → List (List Item)
shelved_one [] x layout = layout
shelved_one (d ∷ ds) x [] = []
shelved_one (d ∷ ds) x (copies ∷ rest) =
    let later = shelved_one ds x rest in
    cond (has_free_slot d copies) ((copies ++ (x ∷ [])) ∷ rest) (copies ∷ later)

-- The copies of each disk once the films are shelved, one after the other.
abbrev pub shelved : List Disk → List Item → List (List Item) → List (List Item)
shelved rack [] layout = layout
shelved rack (x ∷ xs) layout = shelved rack xs (shelved_one rack x layout)

-- "One with no free slot is written in the left line with amount 0": the films that find none.
abbrev pub unshelved : List Disk → List Item → List (List Item) → List Item
unshelved rack [] layout = []
unshelved rack (x ∷ xs) layout =
    let later = unshelved rack xs (shelved_one rack x layout) in
    cond (some_free_slot rack layout) later (x ∷ later)
