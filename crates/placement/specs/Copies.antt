-- Copies with their marks, document 02's P4: the copy record, and the marks of a plan that follows an earlier one.
use Rattle.std.specs.Prelude.{ℕ, ◌+◌, ◌*◌, ◌/◌, ◌%◌, cond, List, [], ◌∷◌, map, leb}
use Rattle.placement.specs.Items.{Item, item, occurrences}

-- A film on a disk with its viewers, and the mark: 1 where the same disk held the same film in the earlier plan, else 0.
pub record Copy : Type 0 where
  pub film : ℕ
  pub mark : ℕ
  pub viewers : ℕ

abbrev pub copy : (film mark viewers : ℕ) → Copy
copy f m v = record { film = f; mark = m; viewers = v }

-- "Comparison with the method leaves it out": film and viewers without the mark.
abbrev pub unmarked : Copy → Item
unmarked c = item c.film c.viewers

-- The copies of each disk without their marks.
abbrev pub layout_of : List (List Copy) → List (List Item)
layout_of copies = map (map unmarked) copies

-- Film and viewers with a mark.
abbrev pub marked_with : ℕ → Item → Copy
marked_with mark x = copy x.film mark x.amount

-- The two halves of a copy's entry: film and mark in the low half, 16 bits each, and viewers in the high half.
abbrev pub halves_of : Copy → Item
halves_of c = item (c.mark * 65536 + c.film) c.viewers

-- The copy of two halves.
abbrev pub copy_of : Item → Copy
copy_of x = copy (x.film % 65536) (x.film / 65536) x.amount

-- 1 where the film is among the copies that a disk held, whatever its viewers; else 0.
abbrev pub mark_for : List Item → ℕ → ℕ
mark_for held film = cond (leb 1 (occurrences film held)) 1 0

-- The copies of a disk that held these before.
abbrev pub marked_disk : (held : List Item) → List Item → List Copy
marked_disk held copies = map (λ (x : Item). marked_with (mark_for held x.film) x) copies

-- The copies of each disk, marked by what the disk of the same number held. "A disk the earlier plan lacks held nothing."
abbrev pub marked : (earlier : List (List Item)) → List (List Item) → List (List Copy)
marked earlier [] = []
marked [] (copies ∷ rest) = marked_disk [] copies ∷ marked [] rest
marked (held ∷ more) (copies ∷ rest) = marked_disk held copies ∷ marked more rest
