-- The plan's places of some tables, stored in others.
use Rattle.std.specs.Prelude.{ℕ, List, ◌++◌, length, take, drop}
use Rattle.placement.specs.Rack.{Disk, all_slots}
use Rattle.placement.specs.Tables.{Tables}

-- The list with its first n places taken from another.
abbrev pub front_copied : ℕ → List ℕ → List ℕ → List ℕ
front_copied n from to = take n from ++ drop n to

-- Each table with the places of a rack's plan, and of n left films, taken from another.
abbrev pub fronts_copied : List Disk → ℕ → Tables → Tables → Tables
fronts_copied rack n from to = record {
  copies = front_copied (all_slots rack) from.copies to.copies;
  counts = front_copied (length rack) from.counts to.counts;
  left = front_copied n from.left to.left;
}
