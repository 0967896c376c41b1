-- The plan of accepted records, disk by disk: its copies are accepted, window sums are bounded, and what is left are entries.
use mathlib.Core.Path.{◌≡◌, refl}
use mathlib.Core.Bool.{true}
use mathlib.Core.List.{List, [], ◌∷◌}
use Prim.Native.Nat.{ℕ, zero, suc, ◌≤◌}
use native.Mathlib.Omega.{arith}
use lib.ListN.{length, take}
use Rattle.placement.specs.Items.{Item, list_of}
use Rattle.placement.specs.Rack.{Disk, rack_accepted, most_demand}
use Rattle.placement.specs.Disk.{copies_of, list_after}
use Rattle.placement.specs.Method.{placement, remaining}
use Rattle.placement.specs.FillingOrder.{filling}
use Rattle.placement.specs.Plan.{disk_accepted, disks_accepted}
use Rattle.placement.specs.Promise.{Distinct}
use Rattle.placement.specs.WellFormed.{Each, Demanded, RecordsAccepted, Entry, WindowsBounded}
use Rattle.placement.proofs.Conjunctions.{and_holds}
use Rattle.placement.proofs.Films.{Usable, after_distinct}
use Rattle.placement.proofs.FillingOrder.{each_filling}
use Rattle.placement.proofs.DiskRanges.{DiskInRange, accepted_range, range_usable}
use Rattle.placement.proofs.Each.{each_map, each_list_of}
use Rattle.placement.proofs.Entries.{after_count, after_entries, copies_accepted_lem}
use Rattle.placement.proofs.WindowSums.{windows_summed, window_summed}

-- The disks of an accepted rack can be used, in filling order.
pub accepted_usable : (rack : List Disk) → rack_accepted rack ≡ true → Usable (filling rack)
accepted_usable rack e = range_usable (filling rack) (each_filling DiskInRange rack (accepted_range rack e))

-- The first disks of those that can be used can be used.
pub usable_take : (n : ℕ) (rack : List Disk) → Usable rack → Usable (take n rack)
usable_take zero rack usable = tt
usable_take (suc n) [] usable = tt
usable_take (suc n) (d ∷ ds) usable = (usable.0, usable.1, usable_take n ds usable.2)

-- The method's list of accepted records holds entries.
pub list_of_entries : (records : List Item) → RecordsAccepted records → Each (Entry most_demand) (list_of records)
list_of_entries records accepted =
    each_list_of (Entry most_demand) records
    (each_map Demanded (λ x. 1 ≤ x.amount → Entry most_demand x) records entry accepted.demanded)
  where
    entry : (x : Item) → Demanded x → 1 ≤ x.amount → Entry most_demand x
    entry x demanded some =
        record { film_least = demanded.film_least; film_most = omega (arith, demanded.film_most); amount_most = demanded.amount_most }

-- From a list of distinct entries, each disk's copies are accepted,
pub placement_accepted :
    (rack : List Disk) (list : List Item) → Usable rack → Each (Entry most_demand) list → Distinct list
    → disks_accepted rack (placement rack list) ≡ true
placement_accepted [] list usable entries distinct = refl
placement_accepted (d ∷ ds) list usable entries distinct =
    and_holds (disk_accepted d (copies_of d list)) _ (copies_accepted_lem d list usable.0 usable.1 most_demand entries distinct)
    (placement_accepted ds (list_after d list) usable.2 (after_entries d list usable.0 usable.1 most_demand entries)
    (after_distinct d list usable.0 usable.1 distinct))

-- and window sums are bounded.
pub placement_windows : (rack : List Disk) (list : List Item) → Usable rack → Each (Entry most_demand) list → WindowsBounded rack list
placement_windows [] list usable entries = tt
placement_windows (d ∷ ds) list usable entries = (
  windows_summed d list usable.0 usable.1 entries,
  window_summed d list usable.0 usable.1 entries,
  placement_windows ds (list_after d list) usable.2 (after_entries d list usable.0 usable.1 most_demand entries),
)

-- What is left are entries,
pub remaining_entries :
    (rack : List Disk) (list : List Item) → Usable rack → Each (Entry most_demand) list → Each (Entry most_demand) (remaining rack list)
remaining_entries [] list usable entries = entries
remaining_entries (d ∷ ds) list usable entries =
    remaining_entries ds (list_after d list) usable.2 (after_entries d list usable.0 usable.1 most_demand entries)

-- their films are distinct,
pub remaining_distinct : (rack : List Disk) (list : List Item) → Usable rack → Distinct list → Distinct (remaining rack list)
remaining_distinct [] list usable distinct = distinct
remaining_distinct (d ∷ ds) list usable distinct =
    remaining_distinct ds (list_after d list) usable.2 (after_distinct d list usable.0 usable.1 distinct)

-- and they are no more than the list has.
pub remaining_count : (rack : List Disk) (list : List Item) → Usable rack → length (remaining rack list) ≤ length list
remaining_count [] list usable = omega arith
remaining_count (d ∷ ds) list usable =
    omega (arith, remaining_count ds (list_after d list) usable.2, after_count d list usable.0 usable.1)
