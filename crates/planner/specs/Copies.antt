-- A run of the working list as it is stored.
use Rattle.std.specs.Prelude.{ℕ, ◌-◌, List, [], ◌∷◌, drop}
use Rattle.placement.specs.Items.{Item, item}
use Rattle.planner.specs.Keys.{items_of}

-- The items of `size` keys from `start` on.
abbrev pub run_of : List ℕ → ℕ → ℕ → List Item
run_of keys start size = items_of size (drop start keys)

-- The list with `over` less for the last item.
abbrev pub less_last : ℕ → List Item → List Item
less_last over [] = []
less_last over (x ∷ []) = item x.film (x.amount - over) ∷ []
less_last over (x ∷ y ∷ ys) = x ∷ less_last over (y ∷ ys)
