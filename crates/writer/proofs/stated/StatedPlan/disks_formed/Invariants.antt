-- The disks that are left give the answer for all, and their places are those from `first` on.
use Rattle.std.proofs.Common.{◌≡◌, ◌≤◌, length, drop}
use Rattle.placement.specs.Packed.{disks_in}
use Rattle.writer.specs.Call.{disks_formed, CopyRoom}
use Rattle.writer.proofs.stated.StatedPlan.disks_formed.Given as goal

abbrev pub invariant-loop-disk : goal.invariant-loop-disk
invariant-loop-disk l =
    let p = l.self-inside in
    let disks = disks_in l.disk-iterator.a.rest.now in
    let counts = l.disk-iterator.b.rest.now in
    CopyRoom disks (drop l.first p.copies.now) counts
    × (l.first ≤ length p.copies.now)
    × (disks_formed (disks_in p.rack.now) p.copies.now p.counts.now ≡ disks_formed disks (drop l.first p.copies.now) counts)
