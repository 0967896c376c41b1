-- The disks that are left give the answer for all: each has its places and its count.
use Rattle.std.proofs.Common.{length, sym, ap, ◌∙◌, arith, length-drop}
use Rattle.placement.proofs.Conjunctions.{first_fails, second_decides}
use Rattle.writer.proofs.DiskParts.{part_from, rest_places, rest_room, rest_formed}
use Rattle.writer.proofs.stated.StatedPlan.disks_formed.Goals as goal

pub offset_bounds-self-inside-first : goal.offset_bounds-self-inside-first
offset_bounds-self-inside-first c =
    let steps = c.in-Some.ensures.steps in
    let room = rest_places c.self.inside.copies.now c.loop-disk.first steps.0 steps.1 c.loop-disk.invariant.0 c.loop-disk.invariant.1 in
    omega (arith, room)

pub slice_bounds-disk_formed-count : goal.slice_bounds-disk_formed-count
slice_bounds-disk_formed-count c =
    let steps = c.in-Some.ensures.steps in
    let room = rest_places c.self.inside.copies.now c.loop-disk.first steps.0 steps.1 c.loop-disk.invariant.0 c.loop-disk.invariant.1 in
    omega (arith, room)

pub slice_bounds-disk_formed-start : goal.slice_bounds-disk_formed-start
slice_bounds-disk_formed-start c =
    let steps = c.in-Some.ensures.steps in
    let room = rest_places c.self.inside.copies.now c.loop-disk.first steps.0 steps.1 c.loop-disk.invariant.0 c.loop-disk.invariant.1 in
    omega (arith, room)

pub disk_formed-requires : goal.disk_formed-requires
disk_formed-requires c =
    let steps = c.in-Some.ensures.steps in
    let room = rest_places c.self.inside.copies.now c.loop-disk.first steps.0 steps.1 c.loop-disk.invariant.0 c.loop-disk.invariant.1 in
    omega (arith, room, ap length (part_from c.self.inside.copies.now c.loop-disk.first), length-drop c.loop-disk.first c.self.inside.copies.now)

pub returns-then-not-disk_formed : goal.returns-then-not-disk_formed
returns-then-not-disk_formed c =
    let steps = c.in-Some.ensures.steps in
    let step = rest_formed c.self.inside.copies.now c.loop-disk.first steps.0 steps.1 c.disk_formed.result c.disk_formed.ensures in
    rw (← c.self.view_is) (first_fails c.disk_formed.result _ c.if-not-disk_formed.true ∙ sym step ∙ sym c.loop-disk.invariant.2)

pub overflow_add-first : goal.overflow_add-first
overflow_add-first c =
    let steps = c.in-Some.ensures.steps in
    let room = rest_places c.self.inside.copies.now c.loop-disk.first steps.0 steps.1 c.loop-disk.invariant.0 c.loop-disk.invariant.1 in
    omega (arith, room, c.disk_slots.ensures)

pub loop-disk-preserved : goal.loop-disk-preserved
loop-disk-preserved c =
    let steps = c.in-Some.ensures.steps in
    let room = rest_places c.self.inside.copies.now c.loop-disk.first steps.0 steps.1 c.loop-disk.invariant.0 c.loop-disk.invariant.1 in
    let step = rest_formed c.self.inside.copies.now c.loop-disk.first steps.0 steps.1 c.disk_formed.result c.disk_formed.ensures in
    let behind = rest_room c.self.inside.copies.now c.loop-disk.first steps.0 steps.1 c.loop-disk.invariant.0 c.loop-disk.invariant.1 in
    rw c.disk_slots.ensures (behind, room, c.loop-disk.invariant.2 ∙ step ∙ sym (second_decides c.disk_formed.result _ c.if-not-disk_formed.false))
