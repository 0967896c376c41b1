-- The disks that a packed rack holds: how many they are, and one by its place.
use mathlib.Core.Path.{◌≡◌, refl, ◌∙◌, ap}
use Prim.Native.Nat.{ℕ, zero, suc, ◌<◌, min}
use mathlib.Core.List.{List, [], ◌∷◌}
use lib.ListN.{length, take, get_or, length-map, length-take, get_or-map}
use lib.Seq.{get_or-take}
use Rattle.placement.specs.Rack.{Disk, disk}
use Rattle.placement.specs.Packed.{disk_in, disks_in}
use Rattle.disk_entries.specs.Entries.{held_disks}
use Rattle.disk_entries.specs.declared.PackedDisks.{PackedDisks}

-- It holds as many disks as it says, at most 65.
pub length_held : (p : PackedDisks) → length p.disks ≡ 65 → length (held_disks p) ≡ min p.count 65
length_held p full = length-take p.count (disks_in p.disks) ∙ ap (min p.count) (length-map p.disks disk_in ∙ full)

-- The disks held are those of as many numbers.
held_numbers : (p : PackedDisks) → disks_in (take (length (held_disks p)) p.disks) ≡ held_disks p
held_numbers p = numbers p.count p.disks
  where
    numbers : (n : ℕ) (xs : List ℕ) → disks_in (take (length (take n (disks_in xs))) xs) ≡ take n (disks_in xs)
    numbers zero xs = refl
    numbers (suc n) [] = refl
    numbers (suc n) (x ∷ xs) = ap (λ (ds : List Disk). disk_in x ∷ ds) (numbers n xs)

pub held_same : (p : PackedDisks) (n : ℕ) → n ≡ length (held_disks p) → disks_in (take n p.disks) ≡ held_disks p
held_same p n e = ap (λ (k : ℕ). disks_in (take k p.disks)) e ∙ held_numbers p

-- The disk at a place is that of the number there.
pub get_d_held : (p : PackedDisks) (i : ℕ) → i < p.count → get_or (held_disks p) i (disk 0 0) ≡ disk_in (get_or p.disks i 0)
get_d_held p i small = get_or-take p.count (disks_in p.disks) i (disk 0 0) small ∙ get_or-map disk_in p.disks i 0
