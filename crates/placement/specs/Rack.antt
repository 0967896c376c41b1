-- The vocabulary: slots, load, disks, the rack as a list of disks by number, 01's ranges, and 02's one ratio of load to slots.
use Rattle.std.specs.Prelude.{ℕ, ◌+◌, ◌*◌, min, Bool, true, ◌&&◌, List, [], ◌∷◌, leb, eqb, length, replicate}
use Rattle.placement.specs.declared.rack.Rack.{Rack}

-- A disk has k slots, which count stored films, and load L, which counts streams.
pub record Disk : Type 0 where
  pub slots : ℕ
  pub load : ℕ

abbrev pub disk : ℕ → ℕ → Disk
disk k l = record { slots = k; load = l }

-- 01's rack of N equal disks.
abbrev pub rack_of : ℕ → ℕ → ℕ → List Disk
rack_of disks slots load = replicate disks (disk slots load)

-- The disks of N, k and L as the code has them together.
abbrev pub disks_of : Rack → List Disk
disks_of rack = rack_of rack.disks rack.slots.0 rack.streams.0

-- All slots, and all disks' streams.
abbrev pub all_slots : List Disk → ℕ
all_slots [] = 0
all_slots (d ∷ ds) = d.slots + all_slots ds

abbrev pub all_loads : List Disk → ℕ
all_loads [] = 0
all_loads (d ∷ ds) = d.load + all_loads ds

-- Slots and load of disk 1: 01's k and L where all disks are equal, and the ratio of a rack.
abbrev pub first_slots : List Disk → ℕ
first_slots [] = 0
first_slots (d ∷ ds) = d.slots

abbrev pub first_load : List Disk → ℕ
first_load [] = 0
first_load (d ∷ ds) = d.load

-- The smallest of a number and the slots of the disks.
abbrev pub least_from : ℕ → List Disk → ℕ
least_from k [] = k
least_from k (d ∷ ds) = least_from (min k d.slots) ds

-- The smallest slots of a rack: the k of demand 3.
abbrev pub least_slots : List Disk → ℕ
least_slots rack = least_from (first_slots rack) rack

-- 01's table of accepted quantities.
abbrev pub most_disks : ℕ
most_disks = 64

abbrev pub most_slots : ℕ
most_slots = 32

abbrev pub most_load : ℕ
most_load = 65535

abbrev pub most_records : ℕ
most_records = 1024

-- The largest film number in a demand list, and the largest in a plan. The numbers between are service clips (02).
abbrev pub most_film : ℕ
most_film = 49999

abbrev pub most_plan_film : ℕ
most_plan_film = 65535

abbrev pub most_demand : ℕ
most_demand = 1000000

-- The number is at least 1 and at most the limit.
abbrev pub in_range : ℕ → ℕ → Bool
in_range most n = leb 1 n && leb n most

-- N, k and L are in range.
abbrev pub sizes_in_range : ℕ → ℕ → ℕ → Bool
sizes_in_range disks slots load = in_range most_disks disks && (in_range most_slots slots && in_range most_load load)

-- Every disk has these slots and this load.
abbrev pub all_like : ℕ → ℕ → List Disk → Bool
all_like slots load [] = true
all_like slots load (d ∷ ds) = (eqb slots d.slots && eqb load d.load) && all_like slots load ds

-- The slots and the load of a disk are in range.
abbrev pub disk_in_range : Disk → Bool
disk_in_range d = in_range most_slots d.slots && in_range most_load d.load

-- So are those of every disk.
abbrev pub all_in_range : List Disk → Bool
all_in_range [] = true
all_in_range (d ∷ ds) = disk_in_range d && all_in_range ds

-- There are 1 to 64 disks, each in 01's ranges.
abbrev pub disks_in_range : List Disk → Bool
disks_in_range rack = in_range most_disks (length rack) && all_in_range rack

-- A disk's load times the given slots is the given load times its slots.
abbrev pub same_ratio : ℕ → ℕ → Disk → Bool
same_ratio slots load d = eqb (d.load * slots) (load * d.slots)

-- So it is for every disk.
abbrev pub all_same_ratio : ℕ → ℕ → List Disk → Bool
all_same_ratio slots load [] = true
all_same_ratio slots load (d ∷ ds) = same_ratio slots load d && all_same_ratio slots load ds

-- "Large and small disks with one ratio of load to slots", each in 01's ranges.
abbrev pub rack_accepted : List Disk → Bool
rack_accepted rack = disks_in_range rack && all_same_ratio (first_slots rack) (first_load rack) rack

-- All disks of a rack are equal.
abbrev pub all_equal : List Disk → Bool
all_equal rack = all_like (first_slots rack) (first_load rack) rack
