-- Sharings of viewers among stored copies, as document 01's paragraph on demand 3 has them.
use Rattle.std.specs.Prelude.{ℕ, ◌+◌, ◌≤◌, ◌≡◌, List, [], ◌∷◌, map}
use Rattle.placement.specs.Items.{Item, total, film_of, amount_for}
use Rattle.placement.specs.Rack.{Disk}

-- Which films are stored on which disk, without the numbers of viewers.
abbrev pub films_on : List (List Item) → List (List ℕ)
films_on copies = map (map film_of) copies

-- The viewers of a film over all disks.
abbrev pub viewers_of : ℕ → List (List Item) → ℕ
viewers_of f [] = 0
viewers_of f (copies ∷ rest) = amount_for f copies + viewers_of f rest

-- Each disk serves at most its load.
abbrev pub WithinLoads : List Disk → List (List Item) → Type 0
WithinLoads [] [] = Unit {0}
WithinLoads [] (copies ∷ rest) = ⊥
WithinLoads (d ∷ ds) [] = ⊥
WithinLoads (d ∷ ds) (copies ∷ rest) = (total copies ≤ d.load) × WithinLoads ds rest

-- "Another sharing, in demand 3, gives each stored copy any whole number of viewers from 0, at most L on a disk and at most its
-- demand for a film over all disks."
pub record Sharing (disks : List Disk) (demands : List Item) (layout shares : List (List Item)) : Type 0 where
  pub same_copies : films_on shares ≡ films_on layout
  pub within_loads : WithinLoads disks shares
  pub within_demands : (f : ℕ) → viewers_of f shares ≤ amount_for f demands
