use Rattle.std.proofs.Common.{◌<◌, sym, ap, ◌∙◌, arith}
use lib.ListN.{length-map, length-take}
use lib.Seq.{get_or-take}
use Rattle.placement.specs.Rack.{disk}
use Rattle.placement.specs.Packed.{disk_in, disks_in}
use Rattle.disk_entries.specs.Entries.{disk_of, disks_of_entries, held_disks}
use Rattle.disk_entries.proofs.Held.{get_d_held}
use Rattle.disk_entries.proofs.Loops.{one_entry_more}
use Rattle.disk_entries.proofs.unpack.Goals as goal

pub loop-i-preserved : goal.loop-i-preserved
loop-i-preserved c =
    let p = c.args.packed in
    let i = c.loop-i.i in
    let passed : i < c.fitting-count.result = omega (arith, length-take c.fitting-count.result p.disks, c.loop-i-test.true) in
    let small : i < p.count = omega (arith, length-take p.count (disks_in p.disks)) in
    one_entry_more (held_disks p) (disks_of_entries c.args.rack.now) c.loop-i.rack i c.from.result (disk 0 0)
    (omega arith)
    (omega (arith, length-map c.args.rack.now disk_of))
    c.loop-i.invariant
    (c.from.ensures ∙ ap disk_in (get_or-take c.fitting-count.result p.disks i _ passed) ∙ sym (get_d_held p i small))
