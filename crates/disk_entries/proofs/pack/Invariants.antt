-- The first i numbers are the first i entries' disks.
use Rattle.std.proofs.Common.{◌≡◌, length, take}
use Rattle.placement.specs.Packed.{disks_in}
use Rattle.disk_entries.specs.Entries.{disks_of_entries}
use Rattle.disk_entries.proofs.pack.Given as goal

abbrev pub invariant-loop-i : goal.invariant-loop-i
invariant-loop-i l = (length l.disks ≡ 65) × (take l.i (disks_in l.disks) ≡ take l.i (disks_of_entries l.fn.rack))
