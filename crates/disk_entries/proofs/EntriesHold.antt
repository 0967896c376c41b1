-- The disks of two entries and of a packed rack, in numbers.
use mathlib.Core.Path.{◌≡◌, refl}
use mathlib.Core.List.{[], ◌∷◌}
use Rattle.placement.specs.Rack.{disk}
use lib.ListN.{replicate}
use Rattle.disk_entries.specs.Entries.{disks_of_entries, held_disks}

pub entries_hold :
    disks_of_entries
    (record { slots = record { 0 = 2 }; streams = record { 0 = 4 } } ∷ record { slots = record { 0 = 3 }; streams = record { 0 = 6 } } ∷ [])
    ≡ disk 2 4 ∷ disk 3 6 ∷ []
entries_hold = refl

-- Two disks are held; what stands behind them is not.
pub held_hold : held_disks (record { count = 2; disks = 17179869186 ∷ 25769803779 ∷ replicate 63 7 }) ≡ disk 2 4 ∷ disk 3 6 ∷ []
held_hold = refl
