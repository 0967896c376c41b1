-- Demand 3 as one record of promises about a layout, and the racks for which they are proved.
use Rattle.std.specs.Prelude.{ℕ, ◌+◌, ◌-◌, ◌*◌, ◌≤◌, ◌≡◌, List, [], ◌∷◌, length}
use Rattle.placement.specs.Items.{Item, total, wanted, occurrences}
use Rattle.placement.specs.Rack.{Disk, all_slots, all_loads}
use Rattle.placement.specs.Sharing.{Sharing}
use Rattle.placement.specs.Method.{served}

-- Film numbers don't repeat.
abbrev pub Distinct : List Item → Type 0
Distinct items = (f : ℕ) → occurrences f items ≤ 1

-- Total demand is at most all disks' streams, and films wanted are at most all slots.
pub record Fitting (disks : List Disk) (demands : List Item) : Type 0 where
  pub load : total demands ≤ all_loads disks
  pub slots : wanted demands ≤ all_slots disks

-- 4kU² and (S − kU)², the two sides of demand 3's square.
abbrev pub unserved_side : ℕ → ℕ → ℕ
unserved_side k u = 4 * (k * (u * u))

abbrev pub served_side : ℕ → ℕ → ℕ → ℕ
served_side k s u = (s - k * u) * (s - k * u)

-- Demand 3 for the copies of a layout, with S served and U unserved. k is the slots of a disk; of unequal disks, the smallest.
pub record Demand3 (k : ℕ) (disks : List Disk) (demands : List Item) (layout : List (List Item)) (s u : ℕ) : Type 0 where
  -- the plan's own sharing keeps within the bounds, and serves S
  pub own : Sharing disks demands layout layout
  pub own_serves : served layout ≡ s
  -- every other sharing of the same copies serves at most S
  pub best : (shares : List (List Item)) → Sharing disks demands layout shares → served shares ≤ s
  -- S and U make up total demand
  pub whole : s + u ≡ total demands
  -- kU is at most S, and 4kU² is at most (S − kU)²
  pub share : Fitting disks demands → k * u ≤ s
  pub square : Fitting disks demands → unserved_side k u ≤ served_side k s u
  -- all slots are at least the films wanted plus the number of disks minus one: nobody is unserved
  pub all_served : Fitting disks demands → wanted demands + length disks ≤ all_slots disks + 1 → u ≡ 0

-- Each disk has slots and load, and its load is to its slots as l is to k; slots ascend from `least` on.
abbrev pub UniformFrom : ℕ → ℕ → ℕ → List Disk → Type 0
UniformFrom k l least [] = Unit {0}
UniformFrom k l least (d ∷ ds) =
    (least ≤ d.slots) × (d.load * k ≡ l * d.slots) × UniformFrom k l d.slots ds

-- Disks of one ratio of load to slots, l to k, by ascending slots. No disk has fewer than k slots.
pub record Uniform (k l : ℕ) (disks : List Disk) : Type 0 where
  pub some_slots : 1 ≤ k
  pub some_load : 1 ≤ l
  pub ratio : UniformFrom k l k disks
