-- Plans as values, and which of them are well formed, as document 01's "Tables" and 02's P1, P2 and P4 have it.
use Rattle.std.specs.Prelude.{ℕ, Bool, true, false, ◌&&◌, List, [], ◌∷◌, map, leb, ltb, eqb, length}
use Rattle.placement.specs.Items.{Item, total, occurrences}
use Rattle.placement.specs.Copies.{Copy, unmarked, layout_of}
use Rattle.placement.specs.Rack.{Disk, rack_accepted, in_range, most_plan_film, most_demand}
use Rattle.placement.specs.Method.{served}

-- The rack, each disk's copies, and what is left.
pub record Plan : Type 0 where
  pub rack : List Disk
  pub copies : List (List Copy)
  pub left : List Item

-- "At most 1,024 left films."
abbrev pub most_left : ℕ
most_left = 1024

-- A test of every item.
abbrev pub every : (Item → Bool) → List Item → Bool
every test [] = true
every test (x ∷ xs) = test x && every test xs

-- No film stands twice in the list.
abbrev pub distinct_films : List Item → Bool
distinct_films [] = true
distinct_films (x ∷ xs) = eqb (occurrences x.film xs) 0 && distinct_films xs

-- A film in 1 to 65,535; "well-formed plans admit 0 viewers".
abbrev pub copy_accepted : Item → Bool
copy_accepted x = in_range most_plan_film x.film

-- "At most k copies a disk, its films distinct and in 1 to 65,535", "at most L in sum."
abbrev pub disk_accepted : Disk → List Item → Bool
disk_accepted d copies =
    leb (length copies) d.slots && (distinct_films copies && (every copy_accepted copies && leb (total copies) d.load))

-- Each disk has its list of copies, and it is accepted.
abbrev pub disks_accepted : List Disk → List (List Item) → Bool
disks_accepted [] [] = true
disks_accepted [] (copies ∷ rest) = false
disks_accepted (d ∷ ds) [] = false
disks_accepted (d ∷ ds) (copies ∷ rest) = disk_accepted d copies && disks_accepted ds rest

-- The marks of a disk's copies are 0 or 1.
abbrev pub marks_accepted : List Copy → Bool
marks_accepted [] = true
marks_accepted (c ∷ cs) = leb c.mark 1 && marks_accepted cs

-- A disk's copies are accepted, and so are their marks.
abbrev pub copies_accepted : Disk → List Copy → Bool
copies_accepted d copies = disk_accepted d (map unmarked copies) && marks_accepted copies

-- The marks of every disk's copies are.
abbrev pub all_marks_accepted : List (List Copy) → Bool
all_marks_accepted [] = true
all_marks_accepted (copies ∷ rest) = marks_accepted copies && all_marks_accepted rest

-- The films ascend strictly, the first one above a number.
abbrev pub ascending_above : ℕ → List Item → Bool
ascending_above film [] = true
ascending_above film (x ∷ xs) = ltb film x.film && ascending_above x.film xs

-- A film in 1 to 65,535 with an amount of 0 to 1,000,000.
abbrev pub left_film_accepted : Item → Bool
left_film_accepted x = in_range most_plan_film x.film && leb x.amount most_demand

-- "At most 1,024 left films, strictly ascending, in range", each amount 0 to 1,000,000.
abbrev pub left_accepted : List Item → Bool
left_accepted left = leb (length left) most_left && (ascending_above 0 left && every left_film_accepted left)

-- A well-formed plan, but for the unused copy places, which a plan value does not have.
abbrev pub well_formed : Plan → Bool
well_formed p =
    rack_accepted p.rack
    && (disks_accepted p.rack (layout_of p.copies) && (all_marks_accepted p.copies && left_accepted p.left))

-- "Its S and U are the sums over its tables."
abbrev pub served_of : Plan → ℕ
served_of p = served (layout_of p.copies)

-- U is the sum over what is left.
abbrev pub unserved_of : Plan → ℕ
unserved_of p = total p.left
