-- What marking leaves in the copy table, entry by entry and disk by disk.
use Rattle.std.specs.Prelude.{ℕ, cond, List, [], ◌∷◌, map, ◌++◌, eqb, take, drop}
use Rattle.placement.specs.Items.{Item, occurrences}
use Rattle.placement.specs.Copies.{unmarked, marked_with}
use Rattle.placement.specs.Rack.{Disk}
use Rattle.placement.specs.Tables.{copy_entry, copy_in}

-- An entry with the mark where its film is held, else as it was.
abbrev pub marked_entry : (held : List Item) → ℕ → ℕ
marked_entry held entry =
    cond (eqb (occurrences (copy_in entry).film held) 0) entry (copy_entry (marked_with 1 (unmarked (copy_in entry))))

-- The places of the disks that held something before, each marked by what its disk held.
abbrev pub marked_places : List Disk → (copies : List ℕ) → (held : List (List Item)) → List ℕ
marked_places [] copies held = []
marked_places (d ∷ ds) copies [] = []
marked_places (d ∷ ds) copies (h ∷ held) = map (marked_entry h) (take d.slots copies) ++ marked_places ds (drop d.slots copies) held
