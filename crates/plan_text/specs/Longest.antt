-- Well-formed plans with the longest text: of all racks, and of equal disks.
use Rattle.std.specs.Prelude.{ℕ, zero, suc, List, [], ◌∷◌, ◌++◌, map, replicate}
use Rattle.placement.specs.Items.{Item, item}
use Rattle.placement.specs.Copies.{Copy, marked_with}
use Rattle.placement.specs.Rack.{disk, rack_of}
use Rattle.placement.specs.Plan.{Plan}

-- n films from one on, each with the same amount.
abbrev films_from : ℕ → ℕ → ℕ → List Item
films_from film amount zero = []
films_from film amount (suc n) = item film amount ∷ films_from (suc film) amount n

-- A disk's copies, 3 with five digits of viewers and some with four, all of them marked.
abbrev full_disk : ℕ → List Copy
full_disk more = map (marked_with 1) (films_from 10000 10000 3 ++ films_from 10003 1000 more)

-- Every number has as many digits as its range and the disk's load leave it. One disk has a slot fewer, since equal disks have a shorter
-- first line.
abbrev pub longest_plan : Plan
longest_plan = record {
  rack = disk 31 63457 ∷ rack_of 63 32 65504;
  copies = full_disk 28 ∷ replicate 63 (full_disk 29);
  left = films_from 10000 1000000 1024;
}

-- The same of equal disks.
abbrev pub longest_equal_plan : Plan
longest_equal_plan = record {
  rack = rack_of 64 32 65535;
  copies = replicate 64 (full_disk 29);
  left = films_from 10000 1000000 1024;
}
