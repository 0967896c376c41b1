-- The window of one disk, in the order of document 01's "The method": opening films, sliding windows, the last window.
use Rattle.std.specs.Prelude.{ℕ, zero, suc, ◌+◌, ◌-◌, min, cond, List, [], ◌∷◌, ◌++◌, leb, length, take, drop}
use Rattle.placement.specs.Items.{Item, total}
use Rattle.placement.specs.Rack.{Disk}

-- A run of neighbouring films of the list: the place of its first film, from 0, and how many they are.
pub record Window : Type 0 where
  pub start : ℕ
  pub size : ℕ

abbrev pub window : ℕ → ℕ → Window
window s n = record { start = s; size = n }

-- The films of a window.
abbrev pub within : Window → List Item → List Item
within w list = take w.size (drop w.start list)

-- The films of the list that are not in the window.
abbrev pub outside : Window → List Item → List Item
outside w list = take w.start list ++ drop (w.start + w.size) list

-- w i, w (i + 1), and so on: n windows.
abbrev pub series : (ℕ → Window) → ℕ → ℕ → List Window
series w i zero = []
series w i (suc n) = w i ∷ series w (suc i) n

-- "First the opening 1, 2, ... up to k films": of a list of `films` films.
abbrev pub openings : ℕ → ℕ → List Window
openings slots films = series (λ n. window 0 n) 1 (min slots films)

-- "Windows of exactly k neighbouring films, starting at the second film, then the third".
abbrev pub slidings : ℕ → ℕ → List Window
slidings slots films = series (λ s. window s slots) 1 (films - slots)

-- "The last k films, or the whole list if it has fewer than k".
abbrev pub last_window : ℕ → ℕ → Window
last_window slots films = window (films - slots) (min slots films)

-- The first window whose films sum to the load or more, or another where none does.
abbrev pub first_reaching : ℕ → List Item → List Window → Window → Window
first_reaching load list [] other = other
first_reaching load list (w ∷ ws) other =
    let rest = first_reaching load list ws other in
    cond (leb load (total (within w list))) w rest

-- The window of a disk.
abbrev pub window_of : Disk → List Item → Window
window_of d list =
    first_reaching d.load list (openings d.slots (length list) ++ slidings d.slots (length list))
    (last_window d.slots (length list))
