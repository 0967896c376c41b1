-- The disks of lent entries, and the disks that a packed rack holds.
use Rattle.std.specs.Prelude.{List, map, take}
use Rattle.placement.specs.Rack.{Disk, disk}
use Rattle.placement.specs.Packed.{disks_in}
use Rattle.disk_entries.specs.declared.DiskEntry.{DiskEntry}
use Rattle.disk_entries.specs.declared.PackedDisks.{PackedDisks}

abbrev pub disk_of : DiskEntry → Disk
disk_of e = disk e.slots.0 e.streams.0

abbrev pub disks_of_entries : List DiskEntry → List Disk
disks_of_entries entries = map disk_of entries

-- The first `count` of its numbers, as disks.
abbrev pub held_disks : PackedDisks → List Disk
held_disks p = take p.count (disks_in p.disks)
