-- A disk as one number, as the code has a rack: the slots in the low 32 bits, the load in the high 32 bits.
use Rattle.std.specs.Prelude.{ℕ, List, map}
use Rattle.placement.specs.Items.{item}
use Rattle.placement.specs.Rack.{Disk, disk}
use Rattle.placement.specs.Tables.{entry_of, item_in}

-- The number of a disk: an entry with the slots in the film's place and the load in the viewers'.
abbrev pub packed_disk : Disk → ℕ
packed_disk d = entry_of (item d.slots d.load)

-- The disk of a number.
abbrev pub disk_in : ℕ → Disk
disk_in number = disk (item_in number).film (item_in number).amount

-- The disks of a list of numbers: a rack.
abbrev pub disks_in : List ℕ → List Disk
disks_in numbers = map disk_in numbers
