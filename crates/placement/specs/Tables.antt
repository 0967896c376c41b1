-- The lent tables: an entry as one number, the tables' contents as lists, and what they hold after an operation.
use Rattle.std.specs.Prelude.{ℕ, ◌+◌, ◌-◌, ◌*◌, ◌/◌, ◌%◌, Bool, ◌&&◌, List, [], ◌∷◌, ◌++◌, map, leb, length, drop, replicate}
use Rattle.placement.specs.Items.{Item, item}
use Rattle.placement.specs.Copies.{Copy, halves_of, copy_of}
use Rattle.placement.specs.Rack.{Disk, all_slots, most_disks, most_slots, most_records}

-- An entry is one number of 64 bits in two halves. In the left table the low half is the film and the high half the amount.
abbrev pub entry_of : Item → ℕ
entry_of x = x.amount * 4294967296 + x.film

abbrev pub item_in : ℕ → Item
item_in entry = item (entry % 4294967296) (entry / 4294967296)

-- In the copy table the low half has the film in its low 16 bits and the mark in the next 16; the high half is the viewers.
abbrev pub copy_entry : Copy → ℕ
copy_entry c = entry_of (halves_of c)

abbrev pub copy_in : ℕ → Copy
copy_in entry = copy_of (item_in entry)

abbrev pub copies_in : List ℕ → List Copy
copies_in entries = map copy_of (map item_in entries)

-- The copy table, the count table and the left table.
pub record Tables : Type 0 where
  pub copies : List ℕ
  pub counts : List ℕ
  pub left : List ℕ

abbrev pub tables : (copies counts left : List ℕ) → Tables
tables copies counts left = record { copies = copies; counts = counts; left = left }

-- Tables of these lengths have a place for each slot, each disk and each of n left films.
abbrev pub room_in : List Disk → ℕ → (copies counts left : ℕ) → Bool
room_in rack n copies counts left = leb (all_slots rack) copies && (leb (length rack) counts && leb n left)

abbrev pub room_for : List Disk → ℕ → Tables → Bool
room_for rack n t = room_in rack n (length t.copies) (length t.counts) (length t.left)

-- Tables of zeros with room for the largest plan: no operation that brings them is refused 7.
abbrev pub own_tables : Tables
own_tables = record {
  copies = replicate (most_disks * most_slots) 0;
  counts = replicate most_disks 0;
  left = replicate most_records 0;
}

-- The list with zeros after it, n places in all where it has no more itself.
abbrev pub padded : ℕ → List ℕ → List ℕ
padded n xs = xs ++ replicate (n - length xs) 0

-- The first places of a table hold the new list, and everything beyond is untouched.
abbrev pub written : List ℕ → List ℕ → List ℕ
written new old = new ++ drop (length new) old

-- The places of all disks, each disk's copies from its first place on, unused ones zero.
abbrev pub places : List Disk → List (List Item) → List ℕ
places [] layout = []
places (d ∷ ds) [] = padded d.slots [] ++ places ds []
places (d ∷ ds) (copies ∷ rest) = padded d.slots (map entry_of copies) ++ places ds rest

-- The tables with a layout and the places of the left table.
abbrev pub holding : List Disk → List (List Item) → List ℕ → Tables → Tables
holding rack layout left t = record {
  copies = written (places rack layout) t.copies;
  counts = written (map length layout) t.counts;
  left = written left t.left;
}
