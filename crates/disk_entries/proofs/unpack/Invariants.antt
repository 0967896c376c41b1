-- The first i entries are those of the first i disks held, and the others stay.
use Rattle.std.proofs.Common.{◌≡◌}
use Rattle.disk_entries.specs.Entries.{disks_of_entries, held_disks}
use Rattle.disk_entries.proofs.Lists.{over}
use Rattle.disk_entries.proofs.unpack.Given as goal

abbrev pub invariant-loop-i : goal.invariant-loop-i
invariant-loop-i l = disks_of_entries l.rack ≡ over (held_disks l.fn.packed) (disks_of_entries l.initial.rack) l.i
