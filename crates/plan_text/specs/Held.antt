-- When lent tables hold a well-formed plan: unused copy places are zero.
use Rattle.std.specs.Prelude.{ℕ, ◌-◌, Bool, true, false, ◌&&◌, List, [], ◌∷◌, leb, eqb, take, drop}
use Rattle.placement.specs.Rack.{Disk}
use Rattle.placement.specs.Tables.{Tables}
use Rattle.placement.specs.Plan.{well_formed}
use Rattle.placement.specs.Held.{plan_held}

-- All of the numbers are zero.
abbrev pub all_zero : List ℕ → Bool
all_zero [] = true
all_zero (x ∷ xs) = eqb x 0 && all_zero xs

-- The places of one disk behind its n copies.
abbrev pub unused_places : ℕ → ℕ → List ℕ → List ℕ
unused_places slots n places = take (slots - n) (drop n places)

-- At most k copies, and zero entries behind them.
abbrev pub unused_zero : ℕ → ℕ → List ℕ → Bool
unused_zero slots n places = leb n slots && all_zero (unused_places slots n places)

-- The same disk by disk, each from its first place on.
abbrev pub unused_zero_from : List Disk → (copies counts : List ℕ) → Bool
unused_zero_from [] copies counts = true
unused_zero_from (d ∷ ds) copies [] = false
unused_zero_from (d ∷ ds) copies (n ∷ counts) =
    unused_zero d.slots n copies && unused_zero_from ds (drop d.slots copies) counts

-- "At most k copies a disk; unused copy places zero": the tables hold a well-formed plan.
abbrev pub held_well_formed : List Disk → Tables → ℕ → Bool
held_well_formed rack t left = unused_zero_from rack t.copies t.counts && well_formed (plan_held rack t left)
