-- Racks, demands, copies and sharings of document 01's cases on which the words of demand 3 are tried.
use Rattle.std.specs.Prelude.{List, [], ◌∷◌, ◌++◌, map}
use Rattle.placement.specs.Items.{Item, item, ◌∶◌, list_of}
use Rattle.placement.specs.Rack.{Disk, disk, rack_of}
use Rattle.placement.specs.Method.{placement}

-- The sharing that gives every copy 0 viewers.
abbrev pub zeroed : List (List Item) → List (List Item)
zeroed layout = map (map (λ x. item x.film 0)) layout

-- Case A's rack.
abbrev pub disks_a : List Disk
disks_a = rack_of 3 4 6

-- Films 1 to 10 of A.
abbrev pub ten_films : List Item
ten_films = 1 ∶ 1 ∷ 2 ∶ 1 ∷ 3 ∶ 1 ∷ 4 ∶ 1 ∷ 5 ∶ 1 ∷ 6 ∶ 1 ∷ 7 ∶ 1 ∷ 8 ∶ 1 ∷ 9 ∶ 1 ∷ 10 ∶ 1 ∷ []

-- A's demands.
abbrev pub demands_a : List Item
demands_a = ten_films ++ (11 ∶ 4 ∷ 12 ∶ 4 ∷ [])

-- A's copies, with the plan's own viewers.
abbrev pub copies_a : List (List Item)
copies_a = placement disks_a (list_of demands_a)

-- Other viewers for A's copies: films 11 and 12 have most of theirs on the disk that has few in the plan.
abbrev pub other_a : List (List Item)
other_a =
    (8 ∶ 1 ∷ 9 ∶ 1 ∷ 10 ∶ 1 ∷ 11 ∶ 1 ∷ [])
    ∷ (6 ∶ 1 ∷ 7 ∶ 1 ∷ 11 ∶ 3 ∷ 12 ∶ 1 ∷ [])
    ∷ (3 ∶ 1 ∷ 4 ∶ 1 ∷ 5 ∶ 1 ∷ 12 ∶ 3 ∷ [])
    ∷ []

-- Disk 2 serves 7, one more than its load; every film is within its demand.
abbrev pub overloaded_a : List (List Item)
overloaded_a =
    (8 ∶ 1 ∷ 9 ∶ 1 ∷ 10 ∶ 1 ∷ 11 ∶ 3 ∷ [])
    ∷ (6 ∶ 1 ∷ 7 ∶ 1 ∷ 11 ∶ 1 ∷ 12 ∶ 4 ∷ [])
    ∷ (3 ∶ 1 ∷ 4 ∶ 1 ∷ 5 ∶ 1 ∷ 12 ∶ 0 ∷ [])
    ∷ []

-- Film 11 has 4 viewers on disk 1 and 1 on disk 2, one more than its demand; every disk is within its load.
abbrev pub overserved_a : List (List Item)
overserved_a =
    (8 ∶ 0 ∷ 9 ∶ 1 ∷ 10 ∶ 1 ∷ 11 ∶ 4 ∷ [])
    ∷ (6 ∶ 1 ∷ 7 ∶ 1 ∷ 11 ∶ 1 ∷ 12 ∶ 3 ∷ [])
    ∷ (3 ∶ 1 ∷ 4 ∶ 1 ∷ 5 ∶ 1 ∷ 12 ∶ 1 ∷ [])
    ∷ []

-- Disk 1 serves film 1 in place of film 8; every disk and every film is within its bound.
abbrev pub other_film_a : List (List Item)
other_film_a =
    (1 ∶ 1 ∷ 9 ∶ 1 ∷ 10 ∶ 1 ∷ 11 ∶ 3 ∷ [])
    ∷ (6 ∶ 1 ∷ 7 ∶ 1 ∷ 11 ∶ 1 ∷ 12 ∶ 3 ∷ [])
    ∷ (3 ∶ 1 ∷ 4 ∶ 1 ∷ 5 ∶ 1 ∷ 12 ∶ 1 ∷ [])
    ∷ []

-- The last copy of disk 1 stands on disk 2; every disk and every film is within its bound.
abbrev pub moved_a : List (List Item)
moved_a =
    (8 ∶ 1 ∷ 9 ∶ 1 ∷ 10 ∶ 1 ∷ [])
    ∷ (11 ∶ 3 ∷ 6 ∶ 1 ∷ 7 ∶ 1 ∷ 11 ∶ 1 ∷ 12 ∶ 0 ∷ [])
    ∷ (3 ∶ 1 ∷ 4 ∶ 1 ∷ 5 ∶ 1 ∷ 12 ∶ 1 ∷ [])
    ∷ []

-- Case C: its rack, demands and copies.
abbrev pub disks_c : List Disk
disks_c = rack_of 2 1 2

abbrev pub demands_c : List Item
demands_c = 1 ∶ 1 ∷ 2 ∶ 3 ∷ []

abbrev pub copies_c : List (List Item)
copies_c = placement disks_c (list_of demands_c)

-- Case E: its rack, demands and copies.
abbrev pub disks_e : List Disk
disks_e = rack_of 2 2 10

abbrev pub demands_e : List Item
demands_e = 1 ∶ 3 ∷ 3 ∶ 4 ∷ 2 ∶ 13 ∷ []

abbrev pub copies_e : List (List Item)
copies_e = placement disks_e (list_of demands_e)

-- Case G: its rack and demands, and its copies, of which film 4's is on the shelf.
abbrev pub disks_g : List Disk
disks_g = rack_of 1 4 9

abbrev pub demands_g : List Item
demands_g = 4 ∶ 0 ∷ 1 ∶ 2 ∷ 2 ∶ 3 ∷ []

abbrev pub copies_g : List (List Item)
copies_g = (1 ∶ 2 ∷ 2 ∶ 3 ∷ 4 ∶ 0 ∷ []) ∷ []

-- Case H: its rack and demands.
abbrev pub disks_h : List Disk
disks_h = rack_of 1 1 5

abbrev pub demands_h : List Item
demands_h = 7 ∶ 5 ∷ 2 ∶ 5 ∷ []

-- Unequal disks, of which the second is filled first: rack, demands and copies.
abbrev pub disks_u : List Disk
disks_u = disk 2 6 ∷ disk 1 3 ∷ []

abbrev pub demands_u : List Item
demands_u = 1 ∶ 2 ∷ 2 ∶ 2 ∷ 3 ∶ 5 ∷ []

abbrev pub copies_u : List (List Item)
copies_u = (2 ∶ 2 ∷ 3 ∶ 2 ∷ []) ∷ (3 ∶ 3 ∷ []) ∷ []
