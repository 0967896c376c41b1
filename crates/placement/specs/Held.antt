-- What a caller holds: the copies and the left films that stand in the lent tables, read back disk by disk.
use Rattle.std.specs.Prelude.{ℕ, List, [], ◌∷◌, map, take, drop}
use Rattle.placement.specs.Items.{Item}
use Rattle.placement.specs.Copies.{Copy, copy_of}
use Rattle.placement.specs.Rack.{Disk}
use Rattle.placement.specs.Tables.{Tables, item_in}
use Rattle.placement.specs.Plan.{Plan}

-- The first n entries of a table.
abbrev pub front : ℕ → List ℕ → List Item
front n entries = map item_in (take n entries)

-- The entries of each disk: as many as its count says, from the disk's first place on, which is after the slots of all disks before it.
abbrev pub copies_from : List Disk → (copies counts : List ℕ) → List (List Item)
copies_from [] copies counts = []
copies_from (d ∷ ds) copies [] = []
copies_from (d ∷ ds) copies (n ∷ counts) = front n copies ∷ copies_from ds (drop d.slots copies) counts

-- They are copies with their marks.
abbrev pub marked_from : List Disk → (copies counts : List ℕ) → List (List Copy)
marked_from rack copies counts = map (map copy_of) (copies_from rack copies counts)

-- The copies that stand in the lent tables, disk by disk.
abbrev pub copies_held : List Disk → Tables → List (List Copy)
copies_held rack t = marked_from rack t.copies t.counts

-- The first n entries of the left table.
abbrev pub left_held : ℕ → Tables → List Item
left_held n t = front n t.left

-- The plan that the tables hold, with the stated number of left films.
abbrev pub plan_held : List Disk → Tables → ℕ → Plan
plan_held rack t n = record { rack = rack; copies = copies_held rack t; left = left_held n t }
