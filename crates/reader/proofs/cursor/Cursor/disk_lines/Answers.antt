-- `reader::cursor::Cursor::disk_lines` meets its contract: each line fits the disk's part of the table, and is refused or read.
use Rattle.std.proofs.Common.{◌∙◌, ℕ, List, length, ◌-◌, ◌+◌, ◌<◌}
use native.Mathlib.Omega.{arith}
use borrow.Rule.Slice.PartMut.{put_mid}
use Rattle.placement.specs.Packed.{disks_in}
use Rattle.placement.proofs.PackedRacks.{disks_length}
use Rattle.reader.proofs.PackedDisks.{disk_at_lem}
use Rattle.reader.proofs.DiskSteps.{room, few_disks_lem, part_length, so_far_stopped, so_far_more, small}
use Rattle.reader.proofs.cursor.Cursor.disk_lines.Goals as goal

-- A place of the packed rack is one of its disks.
within : (packed : List ℕ) {i : ℕ} → i < length packed → i < length (disks_in packed)
within packed here = omega (arith, disks_length packed, here)

pub slice_bounds-disk_line-end : goal.slice_bounds-disk_line-end
slice_bounds-disk_line-end c =
    let now = c.loop-i.invariant in
    let less = within c.args.rack.now c.loop-i-test.true in
    let is = disk_at_lem c.args.rack.now _ in
    omega (arith, room c.requires now less is c.disk_slots.ensures, now.copies_length)

pub returns-in_default : goal.returns-in_default
returns-in_default c =
    let l = c.loop-i in
    let less = within c.args.rack.now c.loop-i-test.true in
    let is = disk_at_lem c.args.rack.now _ in
    let k : ℕ = c.disk_slots.result.0 in
    let part = c.disk_line.new.copies in
    so_far_stopped c.requires l.invariant less is c.disk_slots.ensures c.disk_line.new.self
    (put_mid l.from ((l.from + k) - l.from) l.copies part) part c.in_default.ensures

pub overflow_add-served : goal.overflow_add-served
overflow_add-served c =
    let now = c.loop-i.invariant in
    let less = within c.args.rack.now c.loop-i-test.true in
    let is = disk_at_lem c.args.rack.now _ in
    let slots = c.disk_slots.ensures in
    omega (
      arith,
      now.bounded,
      few_disks_lem c.requires now less is slots,
      small c.requires now less is slots c.in-Some.ensures,
    )

pub loop-i-preserved : goal.loop-i-preserved
loop-i-preserved c =
    let now = c.loop-i.invariant in
    let less = within c.args.rack.now c.loop-i-test.true in
    let is = disk_at_lem c.args.rack.now _ in
    let slots = c.disk_slots.ensures in
    so_far_more c.requires now less is slots c.in-Some.ensures
    (c.disk_line.auto.copies ∙ part_length c.requires now less is slots)
