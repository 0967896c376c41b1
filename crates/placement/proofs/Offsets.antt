-- Disk by disk: the disks from one on, and the first place of each, which is after the slots of all disks before it.
use mathlib.Core.Path.{◌≡◌, refl}
use mathlib.Core.List.{List, [], ◌∷◌}
use Prim.Native.Nat.{ℕ, zero, suc, ◌+◌, ◌≤◌, ◌<◌}
use native.Mathlib.Omega.{arith}
use lib.ListN.{length, take, drop, get_or}
use Rattle.placement.specs.Rack.{Disk, disk, rack_of, all_slots}
use Rattle.placement.specs.Held.{front, copies_from}

-- The first place of a disk, counted from 0.
abbrev pub offset : List Disk → ℕ → ℕ
offset rack d = all_slots (take d rack)

-- The disk with this number, counted from 0.
abbrev pub disk_at : List Disk → ℕ → Disk
disk_at rack d = get_or rack d (disk 0 0)

-- The disks from one on are that disk and the disks from the next one on.
pub disks_from : (rack : List Disk) (d : ℕ) → d < length rack → drop d rack ≡ disk_at rack d ∷ drop (suc d) rack
disks_from [] d h = absurd (omega arith)
disks_from (x ∷ xs) zero h = refl
disks_from (x ∷ xs) (suc d) h = disks_from xs d (omega arith)

-- The next disk's first place is behind this disk's slots.
pub offset_next : (rack : List Disk) (d : ℕ) → d < length rack → offset rack (suc d) ≡ offset rack d + (disk_at rack d).slots
offset_next [] d h = absurd (omega arith)
offset_next (x ∷ xs) zero h = omega arith
offset_next (x ∷ xs) (suc d) h = omega (arith, offset_next xs d (omega arith))

-- A disk's places are among all slots.
pub offset_room : (rack : List Disk) (d : ℕ) → d < length rack → offset rack d + (disk_at rack d).slots ≤ all_slots rack
offset_room [] d h = absurd (omega arith)
offset_room (x ∷ xs) zero h = omega arith
offset_room (x ∷ xs) (suc d) h = omega (arith, offset_room xs d (omega arith))

-- The first place behind the last disk is behind all slots.
pub offset_all : (rack : List Disk) → offset rack (length rack) ≡ all_slots rack
offset_all [] = refl
offset_all (x ∷ xs) = omega (arith, offset_all xs)

-- In a rack of equal disks every disk is the same.
pub rack_disk : (n k l d : ℕ) → d < n → disk_at (rack_of n k l) d ≡ disk k l
rack_disk zero k l d h = absurd (omega arith)
rack_disk (suc n) k l zero h = refl
rack_disk (suc n) k l (suc d) h = rack_disk n k l d (omega arith)

-- The copies that tables hold from a disk on: its own, then those from the next disk on.
pub copies_from_lem :
    (rack : List Disk) (copies counts : List ℕ) (d : ℕ) → d < length rack → d < length counts
    → copies_from (drop d rack) copies (drop d counts)
    ≡ front (get_or counts d 0) copies ∷ copies_from (drop (suc d) rack) (drop (disk_at rack d).slots copies) (drop (suc d) counts)
copies_from_lem [] copies counts d h g = absurd (omega arith)
copies_from_lem (x ∷ xs) copies [] d h g = absurd (omega arith)
copies_from_lem (x ∷ xs) copies (n ∷ counts) zero h g = refl
copies_from_lem (x ∷ xs) copies (n ∷ counts) (suc d) h g = copies_from_lem xs copies counts d (omega arith) (omega arith)
