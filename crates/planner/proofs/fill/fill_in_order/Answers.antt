-- `planner::fill::fill_in_order` meets its contract. The invariant: the first disks of the filling order are filled from the list.
use mathlib.Core.Path.{◌≡◌, refl, sym, subst, ◌∙◌}
use mathlib.Core.List.{List}
use Prim.Native.Nat.{ℕ, ◌≤◌, ◌<◌}
use native.Mathlib.Omega.{arith}
use lib.ListN.{length, get_or}
use Rattle.placement.specs.Rack.{Disk, disk, most_demand}
use Rattle.placement.specs.Packed.{disk_in, disks_in}
use Rattle.placement.specs.WellFormed.{Each, Entry}
use Rattle.placement.proofs.Disks.{copies_load}
use Rattle.planner.specs.Keys.{items_of}
use Rattle.planner.proofs.NextDisk.{NextDisk, number_below, next_disk}
use Rattle.placement.specs.Items.{Item}
use Rattle.placement.specs.Disk.{list_after}
use Rattle.placement.proofs.Entries.{after_entries}
use Rattle.placement.proofs.Racks.{accepted_disks}
use Rattle.placement.proofs.PackedRacks.{disks_length}
use Rattle.placement.proofs.WellFormed.{accepted_usable}
use Rattle.placement.proofs.Written.{part_room}
use Rattle.planner.proofs.FilledTo.{filled_more, all_copies, all_counts, all_remaining, all_served}
use Rattle.planner.proofs.fill.fill_in_order.Goals as goal

-- The next list holds entries again.
entries_after : (d : Disk) (list : List Item) {after : List Item} → 1 ≤ d.slots → 1 ≤ d.load → Each (Entry most_demand) list → after ≡ list_after d list
    → Each (Entry most_demand) after
entries_after d list some_slots some_load entries e = subst (λ (xs : List Item). Each (Entry most_demand) xs) (sym e) (after_entries d list some_slots some_load most_demand entries)

pub bounds-rack-number : goal.bounds-rack-number
bounds-rack-number c =
    let rack : List ℕ = c.args.rack.now in
    let below : c.film-number.result < length rack = number_below c.requires.ordered c.requires.rack_value.0 c.loop-filled.filled c.loop-filled-test.true c.film-number.ensures in
    omega (arith, below)

pub bounds-firsts-number : goal.bounds-firsts-number
bounds-firsts-number c =
    let rack : List ℕ = c.args.rack.now in
    let below : c.film-number.result < length rack = number_below c.requires.ordered c.requires.rack_value.0 c.loop-filled.filled c.loop-filled-test.true c.film-number.ensures in
    omega (arith, below, c.requires.ordered.firsts_room)

pub offset_bounds-copies-first : goal.offset_bounds-copies-first
offset_bounds-copies-first c =
    let copies_same : length c.loop-filled.copies ≡ length c.args.copies.now = c.loop-filled.invariant.5.copies_kept in
    let rack : List ℕ = c.args.rack.now in
    let first : ℕ = get_or c.args.firsts.now c.film-number.result 0 in
    let room : first ≤ length c.loop-filled.copies = (let d = next_disk c.requires.ordered c.requires.rack_value.0 c.loop-filled.filled c.loop-filled-test.true c.film-number.ensures {first = first} {slots = (disk_in (get_or rack c.film-number.result 0)).slots} {streams = (disk_in (get_or rack c.film-number.result 0)).load} refl refl refl in omega (arith, d.room, c.requires.rack_in_bounds.0, copies_same)) in
    omega (arith, room, copies_same)

pub slice_bounds-fill_one-count : goal.slice_bounds-fill_one-count
slice_bounds-fill_one-count c =
    let rack : List ℕ = c.args.rack.now in
    let copies_same : length c.loop-filled.copies ≡ length c.args.copies.now = c.loop-filled.invariant.5.copies_kept in
    let first : ℕ = get_or c.args.firsts.now c.film-number.result 0 in
    let room : first ≤ length c.loop-filled.copies = (let d = next_disk c.requires.ordered c.requires.rack_value.0 c.loop-filled.filled c.loop-filled-test.true c.film-number.ensures {first = first} {slots = (disk_in (get_or rack c.film-number.result 0)).slots} {streams = (disk_in (get_or rack c.film-number.result 0)).load} refl refl refl in omega (arith, d.room, c.requires.rack_in_bounds.0, copies_same)) in
    omega (arith, room)

pub slice_bounds-fill_one-start : goal.slice_bounds-fill_one-start
slice_bounds-fill_one-start c =
    let rack : List ℕ = c.args.rack.now in
    let copies_same : length c.loop-filled.copies ≡ length c.args.copies.now = c.loop-filled.invariant.5.copies_kept in
    let first : ℕ = get_or c.args.firsts.now c.film-number.result 0 in
    let room : first ≤ length c.loop-filled.copies = (let d = next_disk c.requires.ordered c.requires.rack_value.0 c.loop-filled.filled c.loop-filled-test.true c.film-number.ensures {first = first} {slots = (disk_in (get_or rack c.film-number.result 0)).slots} {streams = (disk_in (get_or rack c.film-number.result 0)).load} refl refl refl in omega (arith, d.room, c.requires.rack_in_bounds.0, copies_same)) in
    omega (arith, room)

pub bounds-counts-number : goal.bounds-counts-number
bounds-counts-number c =
    let counts_same : length c.loop-filled.counts ≡ length c.args.counts.now = c.loop-filled.invariant.5.counts_kept in
    let rack : List ℕ = c.args.rack.now in
    let below : c.film-number.result < length rack = number_below c.requires.ordered c.requires.rack_value.0 c.loop-filled.filled c.loop-filled-test.true c.film-number.ensures in
    omega (arith, below, counts_same, c.requires.rack_in_bounds.1)

pub overflow_add-served : goal.overflow_add-served
overflow_add-served c =
    let rack : List ℕ = c.args.rack.now in
    let first : ℕ = get_or c.args.firsts.now c.film-number.result 0 in
    let next : NextDisk rack c.loop-filled.filled c.film-number.result first c.disk_slots.result.0 c.disk_streams.result.0 = next_disk c.requires.ordered c.requires.rack_value.0 c.loop-filled.filled c.loop-filled-test.true c.film-number.ensures refl c.disk_slots.ensures c.disk_streams.ensures in
    let each : Disk = disk c.disk_slots.result.0 c.disk_streams.result.0 in
    let served_most : c.fill_one-step.result.served ≤ 65535 = (let r = next.range in omega (arith, c.fill_one-step.ensures.served_value, copies_load each (items_of c.loop-filled.left c.loop-filled.keys) r.some_slots r.some_load, r.load)) in
    omega (
      arith,
      served_most,
      c.loop-filled.invariant.3,
      (accepted_disks (disks_in rack) c.requires.rack_value.0).1,
      disks_length rack,
    )

pub loop-filled-preserved : goal.loop-filled-preserved
loop-filled-preserved c =
    let rack : List ℕ = c.args.rack.now in
    let copies_same : length c.loop-filled.copies ≡ length c.args.copies.now = c.loop-filled.invariant.5.copies_kept in
    let first : ℕ = get_or c.args.firsts.now c.film-number.result 0 in
    let next : NextDisk rack c.loop-filled.filled c.film-number.result first c.disk_slots.result.0 c.disk_streams.result.0 = next_disk c.requires.ordered c.requires.rack_value.0 c.loop-filled.filled c.loop-filled-test.true c.film-number.ensures refl c.disk_slots.ensures c.disk_streams.ensures in
    let each : Disk = disk c.disk_slots.result.0 c.disk_streams.result.0 in
    let served_most : c.fill_one-step.result.served ≤ 65535 = (let r = next.range in omega (arith, c.fill_one-step.ensures.served_value, copies_load each (items_of c.loop-filled.left c.loop-filled.keys) r.some_slots r.some_load, r.load)) in
    let d = next in
    let r = d.range in
    let now = items_of c.loop-filled.left c.loop-filled.keys in
    let told = c.fill_one-step.ensures in (
      omega arith,
      omega (arith, told.keys_after.1, c.loop-filled.invariant.1),
      c.fill_one-step.auto.keys ∙ c.loop-filled.invariant.2,
      omega (arith, served_most, c.loop-filled.invariant.3),
      entries_after each now r.some_slots r.some_load c.loop-filled.invariant.4 told.keys_after.0,
      filled_more c.loop-filled.invariant.5 each c.film-number.result first (omega (arith, c.loop-filled-test.true, disks_length rack))
          d.numbered d.is d.place _ r.some_slots r.some_load (omega (arith, c.requires.rack_in_bounds.0, copies_same))
          (omega (arith, d.room, c.requires.rack_in_bounds.0, copies_same)) told.copies_after told.keys_after.0 told.copies_value told.served_value,
    )

pub fill_one-step-requires : goal.fill_one-step-requires
fill_one-step-requires c =
    let copies_same : length c.loop-filled.copies ≡ length c.args.copies.now = c.loop-filled.invariant.5.copies_kept in
    let first : ℕ = get_or c.args.firsts.now c.film-number.result 0 in
    let rack : List ℕ = c.args.rack.now in
    let next : NextDisk rack c.loop-filled.filled c.film-number.result first c.disk_slots.result.0 c.disk_streams.result.0 = next_disk c.requires.ordered c.requires.rack_value.0 c.loop-filled.filled c.loop-filled-test.true c.film-number.ensures refl c.disk_slots.ensures c.disk_streams.ensures in
    let each : Disk = disk c.disk_slots.result.0 c.disk_streams.result.0 in
    let d = next in
    let r = d.range in
    record {
      slots_in_bounds = (part_room c.loop-filled.copies first each.slots (omega (arith, d.room, c.requires.rack_in_bounds.0, copies_same)), omega (arith, c.requires.rack_in_bounds.2, c.loop-filled.invariant.1, c.loop-filled.invariant.2));
      le_slots = (r.some_slots, r.some_load, r.load, c.loop-filled.invariant.4);
    }

pub returns : goal.returns
returns c =
    let rack : List ℕ = c.args.rack.now in
    let f = c.loop-filled.invariant.5 in
    let disks = disks_length rack in
    let past : length (disks_in rack) ≤ c.loop-filled.filled = omega (arith, disks) in
    let usable = accepted_usable (disks_in rack) c.requires.rack_value.0 in
    let room_c : length (disks_in rack) ≤ length c.args.counts.now = omega (arith, disks, c.requires.rack_in_bounds.1) in
    record {
      copies_after = all_copies f past usable c.requires.rack_in_bounds.0 room_c;
      counts_after = all_counts f past usable c.requires.rack_in_bounds.0 room_c;
      keys_after = (all_remaining f past usable c.requires.rack_in_bounds.0 room_c, c.loop-filled.invariant.1);
      served_value = all_served f past usable c.requires.rack_in_bounds.0 room_c;
    }
