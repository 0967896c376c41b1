-- `reader::cursor::Cursor::disk_lines` meets its contract: before each line the disks so far are stored, and come before what the rest says.
use Rattle.placement.specs.Packed.{disks_in}
use Rattle.reader.proofs.DisksSoFar.{SoFar}
use Rattle.reader.proofs.cursor.Cursor.disk_lines.Given as goal

abbrev pub invariant-loop-i : goal.invariant-loop-i
invariant-loop-i l = SoFar l.fn.self (disks_in l.rack) l.fn.copies l.fn.counts l.copies l.counts l.self l.served l.from l.i
