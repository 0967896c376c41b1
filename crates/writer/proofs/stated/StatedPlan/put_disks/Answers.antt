-- The lines from disk `d` on, put behind those before it, give the whole.
use Rattle.std.proofs.Common.{◌≡◌, true, sym, refl, subst, arith}
use Rattle.placement.specs.Packed.{disks_in}
use Rattle.placement.specs.Tables.{tables}
use Rattle.plan_text.specs.WriteCall.{WriteCall, write_call, well_formed_call}
use Rattle.writer.proofs.Calls.{formed_unused}
use Rattle.writer.proofs.DiskParts.{stated_room, count_within, first_next, lines_next}
use Rattle.writer.proofs.Rests.{rest_step}
use Rattle.writer.proofs.stated.StatedPlan.put_disks.Goals as goal

pub overflow_add-end : goal.overflow_add-end
overflow_add-end g c =
    let p = c.self.inside in
    let room = stated_room p.rack.now p.copies.now p.counts.now p.left.now p.films c.self.invariant c.loop-d.d c.loop-d.first c.loop-d-test.true c.loop-d.invariant.0 in
    let within = count_within p.rack.now c.loop-d.d c.loop-d-test.true _ refl p.copies.now p.counts.now
    (formed_unused (write_call (disks_in p.rack.now) (tables p.copies.now p.counts.now p.left.now) p.films)
    (subst (λ (k : WriteCall). well_formed_call k ≡ true) (sym c.self.view_is) c.requires)) in
    omega (arith, room.places, within)

pub offset_bounds-self-inside-first : goal.offset_bounds-self-inside-first
offset_bounds-self-inside-first g c =
    let p = c.self.inside in
    let room = stated_room p.rack.now p.copies.now p.counts.now p.left.now p.films c.self.invariant c.loop-d.d c.loop-d.first c.loop-d-test.true c.loop-d.invariant.0 in
    let within = count_within p.rack.now c.loop-d.d c.loop-d-test.true _ refl p.copies.now p.counts.now
    (formed_unused (write_call (disks_in p.rack.now) (tables p.copies.now p.counts.now p.left.now) p.films)
    (subst (λ (k : WriteCall). well_formed_call k ≡ true) (sym c.self.view_is) c.requires)) in
    omega (arith, room.places, within)

pub slice_bounds-put_disk-end : goal.slice_bounds-put_disk-end
slice_bounds-put_disk-end g c =
    let p = c.self.inside in
    let room = stated_room p.rack.now p.copies.now p.counts.now p.left.now p.films c.self.invariant c.loop-d.d c.loop-d.first c.loop-d-test.true c.loop-d.invariant.0 in
    let within = count_within p.rack.now c.loop-d.d c.loop-d-test.true _ refl p.copies.now p.counts.now
    (formed_unused (write_call (disks_in p.rack.now) (tables p.copies.now p.counts.now p.left.now) p.films)
    (subst (λ (k : WriteCall). well_formed_call k ≡ true) (sym c.self.view_is) c.requires)) in
    omega (arith, room.places, within)

pub overflow_add-first : goal.overflow_add-first
overflow_add-first g c =
    let p = c.self.inside in
    let room = stated_room p.rack.now p.copies.now p.counts.now p.left.now p.films c.self.invariant c.loop-d.d c.loop-d.first c.loop-d-test.true c.loop-d.invariant.0 in
    omega (arith, room.places, c.disk_slots.ensures)

pub loop-d-preserved : goal.loop-d-preserved
loop-d-preserved g c =
    let p = c.self.inside in
    let room = stated_room p.rack.now p.copies.now p.counts.now p.left.now p.films c.self.invariant c.loop-d.d c.loop-d.first c.loop-d-test.true c.loop-d.invariant.0 in
    let next = first_next p.rack.now c.loop-d.d c.loop-d-test.true c.disk_slots.result.0 c.disk_slots.ensures in
    let lines =
    lines_next p.rack.now c.loop-d.d c.loop-d-test.true c.disk_slots.result.0 c.disk_slots.ensures p.copies.now p.counts.now
    room.counted c.loop-d.first in
    (omega (arith, c.loop-d.invariant.0, next), rest_step g.S.Sink.takes g.met.S.Sink.more lines c.loop-d.invariant.1 c.put_disk.ensures)
