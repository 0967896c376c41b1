-- The disk that is filled next: its number from the order, its first place, its room and its ranges.
use mathlib.Core.Path.{◌≡◌, sym, ap, ap₂, ◌∙◌, subst}
use mathlib.Core.Bool.{true}
use mathlib.Core.List.{List}
use Prim.Native.Nat.{ℕ, ◌+◌, ◌≤◌, ◌<◌}
use native.Mathlib.Omega.{arith}
use lib.ListN.{length, get_or}
use lib.Seq.{get_or-take}
use Rattle.placement.specs.Rack.{Disk, disk, all_slots, rack_accepted}
use Rattle.placement.specs.Packed.{disk_in, disks_in}
use Rattle.placement.proofs.Each.{each_at}
use Rattle.placement.proofs.Racks.{accepted_disks}
use Rattle.placement.proofs.DiskRanges.{DiskInRange, accepted_range}
use Rattle.placement.proofs.Offsets.{offset, disk_at, offset_room}
use Rattle.placement.proofs.PackedRacks.{disks_length, disk_packed}
use Rattle.planner.specs.Keys.{item_of}
use Rattle.planner.specs.Order.{order_of, Ordered}
use Rattle.planner.proofs.FillingKeys.{next_number, next_key}

-- The disk at place i of the filling order has this number, this first place, and these slots and streams.
pub record NextDisk (rack : List ℕ) (i number first slots streams : ℕ) : Type 0 where
  pub numbered : get_or (order_of (disks_in rack)) i 0 ≡ number
  pub below : number < length rack
  pub is : disk_at (disks_in rack) number ≡ disk slots streams
  pub place : first ≡ offset (disks_in rack) number
  pub room : first + slots ≤ all_slots (disks_in rack)
  pub range : DiskInRange (disk slots streams)

module _
    {rack order firsts : List ℕ} (ordered : Ordered rack order firsts) (e : rack_accepted (disks_in rack) ≡ true) (i : ℕ) (h : i < length rack)
    {number : ℕ} (read : number ≡ (item_of (get_or order i 0)).film)
  where
    few : length (disks_in rack) ≤ 64
    few = (accepted_disks (disks_in rack) e).1

    inside : i < length (disks_in rack)
    inside = omega (arith, disks_length rack)

    number_is : get_or (order_of (disks_in rack)) i 0 ≡ number
    number_is =
        sym
        (read
        ∙ ap (λ (key : ℕ). (item_of key).film) (sym (get_or-take (length rack) order i 0 h) ∙ ap (λ (keys : List ℕ). get_or keys i 0) ordered.keys)
        ∙ next_key (disks_in rack) i inside (omega (arith, few)))

    -- The number is that of a disk.
    pub number_below : number < length rack
    number_below = omega (arith, disks_length rack, subst (λ (n : ℕ). n < length (disks_in rack)) number_is (next_number (disks_in rack) i inside))

    -- What is read of the disk.
    pub next_disk :
        {first slots streams : ℕ} → first ≡ get_or firsts number 0 → slots ≡ (disk_in (get_or rack number 0)).slots
        → streams ≡ (disk_in (get_or rack number 0)).load → NextDisk rack i number first slots streams
    next_disk {first} {slots} {streams} first_is slots_are streams_are = record {
      numbered = number_is;
      below = number_below;
      is = same;
      place = start;
      room = omega (arith, start, offset_room (disks_in rack) number (omega (arith, number_below, disks_length rack)), ap (λ (d : Disk). d.slots) same);
      range =
          subst DiskInRange same
          (each_at DiskInRange number (disks_in rack) (disk 0 0) (accepted_range (disks_in rack) e) (omega (arith, number_below, disks_length rack)));
    }
      where
        same : disk_at (disks_in rack) number ≡ disk slots streams
        same = disk_packed rack number ∙ ap₂ disk (sym slots_are) (sym streams_are)

        start : first ≡ offset (disks_in rack) number
        start = first_is ∙ ordered.places number number_below
