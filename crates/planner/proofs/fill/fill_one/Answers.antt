-- `planner::fill::fill_one` meets its contract by what is known of the disk's window.
use native.Mathlib.Omega.{arith}
use Rattle.placement.specs.Rack.{Disk, disk}
use Rattle.planner.proofs.Filling.{Filling, filling, copies_stored, window_taken}
use Rattle.planner.proofs.fill.fill_one.Goals as goal

pub overflow_cast-result : goal.overflow_cast-result
overflow_cast-result c =
    let filled : Disk = disk c.args.slots.0 c.args.streams.0 in
    let known : Filling filled c.args.keys.now c.args.n c.find_window-found.result.start c.find_window-found.result.size c.find_window-found.result.sum c.excess-over.result = (let p = c.requires in let found = c.find_window-found in filling filled c.args.keys.now c.args.n found.result.start found.result.size found.result.sum c.excess-over.result p.slots_in_bounds.1 p.le_slots.0 p.le_slots.1 found.ensures.size_value found.ensures.sum_value c.excess-over.ensures) in
    omega (arith, known.small)

pub store_entries-requires : goal.store_entries-requires
store_entries-requires c =
    let filled : Disk = disk c.args.slots.0 c.args.streams.0 in
    let known : Filling filled c.args.keys.now c.args.n c.find_window-found.result.start c.find_window-found.result.size c.find_window-found.result.sum c.excess-over.result = (let p = c.requires in let found = c.find_window-found in filling filled c.args.keys.now c.args.n found.result.start found.result.size found.result.sum c.excess-over.result p.slots_in_bounds.1 p.le_slots.0 p.le_slots.1 found.ensures.size_value found.ensures.sum_value c.excess-over.ensures) in
    let k = known in
    record {
      size_in_bounds = (omega (arith, k.inside), k.small, c.requires.slots_in_bounds.0);
      over_bound = k.rest;
    }

pub take_window-left-requires : goal.take_window-left-requires
take_window-left-requires c =
    let filled : Disk = disk c.args.slots.0 c.args.streams.0 in
    let known : Filling filled c.args.keys.now c.args.n c.find_window-found.result.start c.find_window-found.result.size c.find_window-found.result.sum c.excess-over.result = (let p = c.requires in let found = c.find_window-found in filling filled c.args.keys.now c.args.n found.result.start found.result.size found.result.sum c.excess-over.result p.slots_in_bounds.1 p.le_slots.0 p.le_slots.1 found.ensures.size_value found.ensures.sum_value c.excess-over.ensures) in
    let k = known in
    record {
      size_bound = (k.inside, c.requires.slots_in_bounds.1);
      over_bound = k.rest;
    }

pub returns : goal.returns
returns c =
    let filled : Disk = disk c.args.slots.0 c.args.streams.0 in
    let known : Filling filled c.args.keys.now c.args.n c.find_window-found.result.start c.find_window-found.result.size c.find_window-found.result.sum c.excess-over.result = (let p = c.requires in let found = c.find_window-found in filling filled c.args.keys.now c.args.n found.result.start found.result.size found.result.sum c.excess-over.result p.slots_in_bounds.1 p.le_slots.0 p.le_slots.1 found.ensures.size_value found.ensures.sum_value c.excess-over.ensures) in
    let k = known in
    record {
      copies_after = copies_stored k c.args.copies.now c.store_entries.ensures;
      keys_after = (window_taken k c.take_window-left.ensures.keys_after, c.take_window-left.ensures.upper_bound);
      copies_value = k.count;
      served_value = k.serves;
    }
