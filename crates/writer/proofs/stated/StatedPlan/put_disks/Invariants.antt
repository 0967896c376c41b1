-- The lines from disk `d` on, put behind those before it, give the whole.
use Rattle.std.proofs.Common.{◌≡◌, ◌+◌, drop}
use Rattle.placement.specs.Packed.{disks_in}
use Rattle.placement.specs.Held.{marked_from}
use Rattle.placement.proofs.Offsets.{offset}
use Rattle.writer.specs.Space.{disk_lines}
use Rattle.writer.proofs.Rests.{Rest}
use Rattle.writer.proofs.stated.StatedPlan.put_disks.Given as goal

abbrev pub invariant-loop-d : goal.invariant-loop-d
invariant-loop-d g l =
    let p = l.self-inside in
    let rack = disks_in p.rack.now in
    (l.first ≡ offset rack l.d)
    × Rest g.S.Sink.takes l.initial.sink (disk_lines 1 (marked_from rack p.copies.now p.counts.now)) l.sink
    (disk_lines (l.d + 1) (marked_from (drop l.d rack) (drop l.first p.copies.now) (drop l.d p.counts.now)))
