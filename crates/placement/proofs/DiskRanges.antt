-- Every disk of an accepted rack is in range, can be used, and has the ratio of disk 1.
use mathlib.Core.Path.{◌≡◌}
use mathlib.Core.Bool.{true}
use mathlib.Core.List.{List, [], ◌∷◌}
use Prim.Native.Nat.{ℕ, ◌*◌, ◌≤◌}
use borrow.Author.Tests.{eqb-true}
use Rattle.placement.specs.Rack.{Disk, first_slots, first_load, rack_accepted, disk_in_range, all_in_range, same_ratio, all_same_ratio, in_range, most_slots, most_load}
use Rattle.placement.specs.WellFormed.{Each}
use Rattle.placement.proofs.Conjunctions.{both_true}
use Rattle.placement.proofs.Tests.{in_range_bounds}
use Rattle.placement.proofs.Films.{Usable}
use Rattle.placement.proofs.Racks.{accepted_in_range, accepted_same_ratio}

-- The slots and the load of a disk are at least 1 and at most the limits.
pub record DiskInRange (d : Disk) : Type 0 where
  pub some_slots : 1 ≤ d.slots
  pub slots : d.slots ≤ most_slots
  pub some_load : 1 ≤ d.load
  pub load : d.load ≤ most_load

-- So says the test of a disk,
pub disk_range : (d : Disk) → disk_in_range d ≡ true → DiskInRange d
disk_range d e =
    let both = both_true (in_range most_slots d.slots) (in_range most_load d.load) e in
    let slots = in_range_bounds most_slots d.slots both.0 in
    let load = in_range_bounds most_load d.load both.1 in
    record { some_slots = slots.0; slots = slots.1; some_load = load.0; load = load.1 }

-- and that of all disks.
all_range : (ds : List Disk) → all_in_range ds ≡ true → Each DiskInRange ds
all_range [] e = tt
all_range (d ∷ ds) e =
    let both = both_true (disk_in_range d) (all_in_range ds) e in
    (disk_range d both.0, all_range ds both.1)

-- The disks of an accepted rack are in range,
pub accepted_range : (rack : List Disk) → rack_accepted rack ≡ true → Each DiskInRange rack
accepted_range rack e = all_range rack (accepted_in_range rack e)

-- and such disks can be used.
pub range_usable : (ds : List Disk) → Each DiskInRange ds → Usable ds
range_usable [] all = tt
range_usable (d ∷ ds) all = (all.0.some_slots, all.0.some_load, range_usable ds all.1)

-- A disk of the ratio l to k.
abbrev pub OfRatio : ℕ → ℕ → Disk → Type 0
OfRatio k l d = d.load * k ≡ l * d.slots

all_ratio : (k l : ℕ) (ds : List Disk) → all_same_ratio k l ds ≡ true → Each (OfRatio k l) ds
all_ratio k l [] e = tt
all_ratio k l (d ∷ ds) e =
    let both = both_true (same_ratio k l d) (all_same_ratio k l ds) e in
    (eqb-true (d.load * k) (l * d.slots) both.0, all_ratio k l ds both.1)

-- The disks of an accepted rack are of the ratio of disk 1.
pub accepted_ratio : (rack : List Disk) → rack_accepted rack ≡ true → Each (OfRatio (first_slots rack) (first_load rack)) rack
accepted_ratio rack e = all_ratio (first_slots rack) (first_load rack) rack (accepted_same_ratio rack e)
