-- The method over a list of disks, in the order in which they are filled: the placement, what is left, S and U.
use Rattle.std.specs.Prelude.{ℕ, ◌+◌, List, [], ◌∷◌}
use Rattle.placement.specs.Items.{Item, total, by_film}
use Rattle.placement.specs.Rack.{Disk}
use Rattle.placement.specs.Disk.{copies_of, list_after}

-- The copies of each disk: disks are filled in order, each from the list that the one before has left.
abbrev pub placement : List Disk → List Item → List (List Item)
placement [] list = []
placement (d ∷ ds) list = copies_of d list ∷ placement ds (list_after d list)

-- What is in the list after the last disk: 01's left, in the method's order.
abbrev pub remaining : List Disk → List Item → List Item
remaining [] list = list
remaining (d ∷ ds) list = remaining ds (list_after d list)

-- The sum of viewers over all copies: 01's served S of a placement.
abbrev pub served : List (List Item) → ℕ
served [] = 0
served (copies ∷ rest) = total copies + served rest

-- What the method leaves, by ascending film.
abbrev pub left_of : List Disk → List Item → List Item
left_of ds list = by_film (remaining ds list)

-- The sum of remaining demand over the final list: 01's left U.
abbrev pub unserved : List Disk → List Item → ℕ
unserved ds list = total (remaining ds list)
