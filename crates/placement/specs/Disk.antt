-- What one disk stores of its window, what remains, and the list for the next disk.
use Rattle.std.specs.Prelude.{ℕ, ◌-◌, cond, List, [], ◌∷◌, ◌++◌, ltb, length, get_or, take}
use Rattle.placement.specs.Items.{Item, item, total, enter}
use Rattle.placement.specs.Rack.{Disk}
use Rattle.placement.specs.Window.{within, outside, window_of}

-- All films of a window but the last.
abbrev pub all_but_last : List Item → List Item
all_but_last films = take (length films - 1) films

-- The last film of a window.
abbrev pub last_film : List Item → Item
last_film films = get_or films (length films - 1) (item 0 0)

-- "A window below L is stored whole. In a window of L or more, all films but the last are stored whole
-- and the last gets just enough viewers to make L."
abbrev pub stored : ℕ → List Item → List Item
stored load films =
    cond (ltb (total films) load) films
    (all_but_last films ++ (item (last_film films).film (load - total (all_but_last films)) ∷ []))

-- What remains of a window's last film: what the window has above the load.
abbrev pub remainder : ℕ → List Item → Item
remainder load films = item (last_film films).film (total films - load)

-- The copies of a disk, in window order.
abbrev pub copies_of : Disk → List Item → List Item
copies_of d list = stored d.load (within (window_of d list) list)

-- "Films stored whole leave the list. A last film with something remaining returns to its sorted place."
abbrev pub list_after : Disk → List Item → List Item
list_after d list =
    enter (remainder d.load (within (window_of d list) list)) (outside (window_of d list) list)
