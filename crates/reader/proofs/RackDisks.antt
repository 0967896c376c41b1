-- One disk of a rack: the disks up to it and from it on, and its first place.
use mathlib.Core.Path.{◌≡◌, sym, ap, subst, ◌∙◌}
use mathlib.Core.Bool.{true}
use mathlib.Core.List.{List, [], ◌∷◌, ◌++◌}
use Prim.Native.Nat.{ℕ, suc, ◌+◌, ◌≤◌, ◌<◌}
use native.Mathlib.Omega.{arith}
use native.Mathlib.Numerals.{add-one}
use lib.ListN.{length, take, drop}
use lib.Seq.{take-suc}
use Rattle.placement.specs.Rack.{Disk, disk, most_load, rack_accepted}
use Rattle.placement.proofs.Each.{each_at}
use Rattle.placement.proofs.Racks.{accepted_all_slots}
use Rattle.placement.proofs.DiskRanges.{DiskInRange, accepted_range}
use Rattle.placement.proofs.Offsets.{offset, disk_at, disks_from, offset_next, offset_room}

-- Disk number i, from 0: the disks up to it, and from it on.
module _ (rack : List Disk) (i : ℕ) (d : Disk) (less : i < length rack) (is : disk_at rack i ≡ d) where
  pub upto : take (i + 1) rack ≡ take i rack ++ (d ∷ [])
  upto =
      ap (λ (n : ℕ). take n rack) (add-one i) ∙ take-suc rack i (disk 0 0) less ∙ ap (λ (x : Disk). take i rack ++ (x ∷ [])) is

  pub onward : drop i rack ≡ d ∷ drop (i + 1) rack
  onward =
      disks_from rack i less
      ∙ ap (λ (x : Disk). x ∷ drop (suc i) rack) is
      ∙ ap (λ (n : ℕ). d ∷ drop n rack) (sym (add-one i))

  pub next_first : offset rack (i + 1) ≡ offset rack i + d.slots
  next_first = ap (offset rack) (add-one i) ∙ offset_next rack i less ∙ ap (λ (x : Disk). offset rack i + x.slots) is

  -- Its places are among those of the largest rack, and its load is in range.
  module _ (e : rack_accepted rack ≡ true) where
    pub places_room : offset rack i + d.slots ≤ 2048
    places_room = omega (arith, offset_room rack i less, ap (λ (x : Disk). x.slots) is, accepted_all_slots rack e)

    pub load_most : d.load ≤ most_load
    load_most = (subst DiskInRange is (each_at DiskInRange i rack (disk 0 0) (accepted_range rack e) less)).load
