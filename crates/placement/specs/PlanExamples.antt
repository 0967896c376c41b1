-- Plans that are well formed, and plans of which each breaks one rule.
use Rattle.std.specs.Prelude.{ℕ, zero, suc, List, [], ◌∷◌, map, replicate}
use Rattle.placement.specs.Items.{Item, item}
use Rattle.placement.specs.Copies.{Copy, copy, marked_with}
use Rattle.placement.specs.Rack.{Disk, disk, rack_of}
use Rattle.placement.specs.Plan.{Plan}

-- A plan without marks.
abbrev plan : List Disk → List (List Item) → List Item → Plan
plan rack copies left = record { rack = rack; copies = map (map (marked_with 0)) copies; left = left }

-- A disk with two slots and load 5, its copies and what is left.
abbrev small : List Item → List Item → Plan
small copies left = plan (rack_of 1 2 5) (copies ∷ []) left

-- The same disk with marked copies, and nothing left.
abbrev small_marked : List Copy → Plan
small_marked copies = record { rack = rack_of 1 2 5; copies = copies ∷ []; left = [] }

-- The first n films from one on, with amount 1.
abbrev films : ℕ → ℕ → List Item
films first zero = []
films first (suc n) = item first 1 ∷ films (suc first) n

abbrev pub formed_plans : List Plan
formed_plans =
    small [] []
    ∷ small (item 2 3 ∷ item 1 2 ∷ []) (item 1 1 ∷ item 65535 1000000 ∷ [])
    ∷ small (item 65535 5 ∷ []) (films 1 1024)
    ∷ plan (rack_of 64 32 65535) (replicate 64 (films 1 32)) []
    ∷ small (item 7 0 ∷ item 8 5 ∷ []) (item 2 0 ∷ item 7 1 ∷ [])
    ∷ small (item 7 5 ∷ item 8 0 ∷ []) (item 1 1 ∷ item 65535 0 ∷ [])
    ∷ plan (rack_of 2 2 5) ((item 7 0 ∷ item 8 0 ∷ []) ∷ (item 7 5 ∷ item 8 0 ∷ []) ∷ []) (item 7 0 ∷ item 8 0 ∷ [])
    ∷ plan (disk 2 4 ∷ disk 1 2 ∷ []) ((item 7 1 ∷ item 8 3 ∷ []) ∷ (item 7 2 ∷ []) ∷ []) []
    ∷ small (item 50000 3 ∷ item 49999 2 ∷ []) (item 50000 1 ∷ item 65535 0 ∷ [])
    ∷ small_marked (copy 65535 1 5 ∷ copy 8 0 0 ∷ [])
    ∷ small_marked (copy 7 0 4 ∷ copy 8 1 0 ∷ [])
    ∷ []

-- By rule: the rack, the lists of copies, the copies of a disk, what is left, the marks.
abbrev pub broken_plans : List Plan
broken_plans =
    plan [] [] []
    ∷ plan (rack_of 1 33 5) ([] ∷ []) []
    ∷ plan (rack_of 1 2 65536) ([] ∷ []) []
    ∷ plan (disk 2 5 ∷ disk 2 4 ∷ []) ([] ∷ [] ∷ []) []
    ∷ plan (disk 2 4 ∷ disk 33 66 ∷ []) ([] ∷ [] ∷ []) []
    ∷ plan (disk 2 4 ∷ disk 1 2 ∷ []) ([] ∷ (item 7 1 ∷ item 8 1 ∷ []) ∷ []) []
    ∷ plan (disk 2 4 ∷ disk 1 2 ∷ []) ([] ∷ (item 7 3 ∷ []) ∷ []) []
    ∷ plan (rack_of 2 2 5) ([] ∷ []) []
    ∷ plan (rack_of 1 2 5) ([] ∷ [] ∷ []) []
    ∷ small (item 7 1 ∷ item 8 1 ∷ item 9 1 ∷ []) []
    ∷ small (item 7 1 ∷ item 7 1 ∷ []) []
    ∷ small (item 0 1 ∷ []) []
    ∷ small (item 65536 1 ∷ []) []
    ∷ small (item 7 0 ∷ item 7 1 ∷ []) []
    ∷ small (item 0 0 ∷ []) []
    ∷ small (item 65536 0 ∷ []) []
    ∷ small (item 7 0 ∷ item 8 0 ∷ item 9 0 ∷ []) []
    ∷ small (item 7 3 ∷ item 8 3 ∷ []) []
    ∷ small [] (films 1 1025)
    ∷ small [] (item 2 1 ∷ item 1 1 ∷ [])
    ∷ small [] (item 2 1 ∷ item 2 1 ∷ [])
    ∷ small [] (item 0 1 ∷ [])
    ∷ small [] (item 65536 1 ∷ [])
    ∷ small [] (item 2 0 ∷ item 2 1 ∷ [])
    ∷ small [] (item 0 0 ∷ [])
    ∷ small [] (item 65536 0 ∷ [])
    ∷ small [] (item 2 1000001 ∷ [])
    ∷ small_marked (copy 7 2 1 ∷ [])
    ∷ small_marked (copy 7 1 1 ∷ copy 8 65535 1 ∷ [])
    ∷ small_marked (copy 7 1 1 ∷ copy 7 0 1 ∷ [])
    ∷ small_marked (copy 7 1 3 ∷ copy 8 1 3 ∷ [])
    ∷ small_marked (copy 65536 1 1 ∷ [])
    ∷ []
