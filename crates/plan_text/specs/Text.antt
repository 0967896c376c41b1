-- The text of a plan, line by line as document 01 fixes it, with 02's P2 for racks of unequal disks and P4 for marked copies.
use Rattle.std.specs.Prelude.{ℕ, zero, suc, cond, List, [], ◌∷◌, ◌++◌, map, length}
use Rattle.placement.specs.Items.{Item, item}
use Rattle.placement.specs.Copies.{Copy}
use Rattle.placement.specs.Rack.{Disk, first_slots, first_load, all_equal}
use Rattle.placement.specs.Plan.{Plan, served_of, unserved_of}
use Rattle.plan_text.specs.Ascii.{ascii}
use Rattle.plan_text.specs.Decimal.{decimal}

-- The bytes that the lines are made of.
abbrev pub space : ℕ
space = 32

abbrev pub opened : ℕ
opened = 40

abbrev pub closed : ℕ
closed = 41

abbrev pub line_feed : ℕ
line_feed = 10

-- `(rack N k L)`.
abbrev pub rack_line : ℕ → ℕ → ℕ → List ℕ
rack_line disks slots streams =
    ascii "(rack " ++ (decimal disks ++ (space ∷ decimal slots ++ (space ∷ decimal streams ++ (closed ∷ []))))

-- A pair: film, then viewers or amount.
abbrev pub pair_text : Item → List ℕ
pair_text x = opened ∷ (decimal x.film ++ (space ∷ (decimal x.amount ++ (closed ∷ []))))

-- The values of a line, each with a space before it, and the line's closing bracket.
abbrev pub spaced_text : {A : Type 0} → (A → List ℕ) → List A → List ℕ
spaced_text text [] = closed ∷ []
spaced_text text (x ∷ xs) = space ∷ (text x ++ spaced_text text xs)

-- The pairs of a line.
abbrev pub pairs_text : List Item → List ℕ
pairs_text xs = spaced_text pair_text xs

-- How a copy ends: with a bracket, and where it is marked with `held` before it.
abbrev pub mark_end : ℕ → List ℕ
mark_end zero = closed ∷ []
mark_end (suc n) = ascii " held)"

-- A copy: `(8 1)`, film, then viewers; `(8 1 held)` where it is marked.
abbrev pub copy_text : Copy → List ℕ
copy_text c = opened ∷ (decimal c.film ++ (space ∷ (decimal c.viewers ++ mark_end c.mark)))

-- The copies of a disk's line.
abbrev pub copies_text : List Copy → List ℕ
copies_text copies = spaced_text copy_text copies

-- A disk as a pair: "slots then load".
abbrev pub disk_item : Disk → Item
disk_item d = item d.slots d.load

-- `(mixed (2 4) (4 8))`, one pair for each disk by number.
abbrev pub mixed_head : List ℕ
mixed_head = ascii "(mixed"

abbrev pub mixed_line : List Disk → List ℕ
mixed_line rack = mixed_head ++ pairs_text (map disk_item rack)

-- Line 1 of a rack: "one of equal entries keeps 01's line", and so does a rack of one disk.
abbrev pub first_line : List Disk → List ℕ
first_line rack = cond (all_equal rack) (rack_line (length rack) (first_slots rack) (first_load rack)) (mixed_line rack)

-- How a disk's line and the left line begin.
abbrev pub disk_head : ℕ → List ℕ
disk_head number = ascii "(disk " ++ decimal number

abbrev pub left_head : List ℕ
left_head = ascii "(left"

-- `(disk 2 (6 1) (7 1 held))`, or `(disk 2)` without copies.
abbrev pub disk_line : ℕ → List Copy → List ℕ
disk_line number copies = disk_head number ++ copies_text copies

-- `(left (1 1) (2 1))`, or `(left)` without pairs.
abbrev pub left_line : List Item → List ℕ
left_line left = left_head ++ pairs_text left

-- `(served S U)`.
abbrev pub served_line : ℕ → ℕ → List ℕ
served_line s u = ascii "(served " ++ (decimal s ++ (space ∷ (decimal u ++ (closed ∷ []))))

-- Each line ended by a line feed.
abbrev pub lines : List (List ℕ) → List ℕ
lines [] = []
lines (line ∷ rest) = line ++ (line_feed ∷ lines rest)

-- The lines of disks that are numbered from `number` on, and the lines after them.
abbrev pub disks_then : ℕ → List (List Copy) → List (List ℕ) → List (List ℕ)
disks_then number [] after = after
disks_then number (copies ∷ rest) after = disk_line number copies ∷ disks_then (suc number) rest after

-- "Line 1 is the rack. Then one line a disk, one for what is left, one with S and U."
abbrev pub lines_of : Plan → List (List ℕ)
lines_of p =
    first_line p.rack
    ∷ disks_then 1 p.copies (left_line p.left ∷ served_line (served_of p) (unserved_of p) ∷ [])

-- The text of a plan, as bytes.
unfoldable pub text_of : Plan → List ℕ
text_of p = lines (lines_of p)
