-- The tables as filling leaves them to shelving.
use Rattle.std.specs.Prelude.{ℕ, ◌≤◌, ◌≡◌, List, [], ◌∷◌, take, drop}
use Rattle.placement.specs.Rack.{Disk}
use Rattle.placement.specs.Tables.{padded}

-- Each disk has at most as many copies as slots, from its first place on, and zero entries behind them.
abbrev pub Laid : List Disk → (copies counts : List ℕ) → Type 0
Laid [] copies counts = Unit {0}
Laid (d ∷ ds) copies [] = ⊥
Laid (d ∷ ds) copies (n ∷ counts) =
    (n ≤ d.slots) × (take d.slots copies ≡ padded d.slots (take n copies)) × Laid ds (drop d.slots copies) counts
