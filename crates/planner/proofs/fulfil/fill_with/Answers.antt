-- `planner::fulfil::fill_with` meets its contract: the steps of planning give the plan of the call.
use borrow.Rule.Slice.PartMut.{put_mid}
use native.Mathlib.Omega.{arith}
use mathlib.Core.Path.{◌≡◌, ap, ◌∙◌, sym, subst}
use mathlib.Core.List.{List, map}
use Prim.Native.Nat.{ℕ, ◌+◌, ◌-◌, ◌≤◌}
use lib.ListN.{length, take, drop, length-take, length-drop}
use Rattle.placement.specs.Items.{Item, list_of}
use Rattle.placement.specs.Rack.{most_records, most_demand}
use Rattle.placement.specs.Packed.{disks_in}
use Rattle.placement.specs.Records.{record_count}
use Rattle.placement.specs.Method.{remaining, served}
use Rattle.placement.specs.FillingOrder.{filling, placed}
use Rattle.placement.specs.Shelf.{shelf_films}
use Rattle.placement.specs.Tables.{Tables, tables, written, places}
use Rattle.placement.specs.Planning.{Call, call, records_in, placed_in, left_in}
use Rattle.placement.proofs.ReadBack.{front_length}
use Rattle.planner.specs.Keys.{items_of}
use Rattle.planner.proofs.KeyRuns.{items_front, items_behind, films_kept, parts_length, run_left}
use Rattle.planner.proofs.ShelfSteps.{left_is, filled_laid, copies_planned, counts_planned}
use Rattle.planner.proofs.Fulfilled.{films_few, left_count, left_small, left_films_lem, steps_tables, steps_numbers}
use Rattle.placement.specs.WellFormed.{Each, Entry}
use Rattle.placement.proofs.PackedRacks.{disks_length}
use Rattle.placement.proofs.WellFormed.{list_of_entries}
use Rattle.planner.proofs.fulfil.fill_with.Goals as goal

pub returns : goal.returns
returns c =
    let called : Call = call (disks_in c.args.rack.now) c.args.list.now in
    let entry : Tables = (let a = c.args in tables a.copies.now a.counts.now a.left.now) in
    let records : ℕ = record_count c.args.list.now in
    let films : ℕ = c.build-films.result in
    let listed : List ℕ = c.build-films.new.keys in
    let room : records ≤ length listed = omega (arith, c.requires.plannable.formed.records_most, c.requires.most_records_in_bounds) in
    let list_is : items_of (records - films) (take (length listed - films) (drop films listed)) ≡ list_of (records_in called) = (let demands = records_in called in items_behind listed records films room (shelf_films demands) (list_of demands) c.build-films.ensures.keys_after c.build-films.ensures.value) in
    let copies_filled : c.fill_all-filled.new.copies ≡ written (places called.rack (placed_in called)) entry.copies = (let rack = called.rack in c.fill_all-filled.ensures.copies_after ∙ ap (λ (list : List Item). written (places rack (placed rack list)) entry.copies) list_is) in
    let counts_filled : c.fill_all-filled.new.counts ≡ written (map length (placed_in called)) entry.counts = (let rack = called.rack in c.fill_all-filled.ensures.counts_after ∙ ap (λ (list : List Item). written (map length (placed rack list)) entry.counts) list_is) in
    let part : List ℕ = c.fill_all-filled.new.keys in
    let keys : List ℕ = put_mid films (length listed - films) listed part in
    let films_most : films ≤ records = omega (arith, c.build-films.ensures.value, films_few called c.requires.plannable.formed) in
    let films_room : films ≤ length listed = omega (arith, films_most, room) in
    let films_are : items_of films keys ≡ shelf_films (records_in called) = (let demands = records_in called in films_kept listed part films films_room ∙ items_front listed records films room (shelf_films demands) (list_of demands) c.build-films.ensures.keys_after c.build-films.ensures.value) in
    let rest : ℕ = films - c.shelve_all-placed.result + c.fill_all-filled.result.left in
    let run : List ℕ = take (length keys - c.shelve_all-placed.result) (drop c.shelve_all-placed.result keys) in
    let left_room : c.fill_all-filled.result.left ≤ length part = omega (arith, c.fill_all-filled.ensures.keys_after.1, room, length-take (length listed - films) (drop films listed), length-drop films listed, c.fill_all-filled.auto.keys) in
    let left_run : items_of rest run ≡ left_in called = (let rack = called.rack in let shelved = c.shelve_all-placed.ensures.upper_bound in run_left listed part films films_room c.shelve_all-placed.result c.fill_all-filled.result.left shelved.0 left_room ∙ left_is called c.requires.plannable.formed entry copies_filled counts_filled films_are shelved.1 (c.fill_all-filled.ensures.keys_after.0 ∙ ap (remaining (filling rack)) list_is)) in
    let keys_length : length keys ≡ films + length part = parts_length listed part films films_room in
    let run_room : rest ≤ length run = omega (arith, keys_length, length-take (length keys - c.shelve_all-placed.result) (drop c.shelve_all-placed.result keys), length-drop c.shelve_all-placed.result keys, c.shelve_all-placed.ensures.upper_bound.0, left_room) in
    let rack = called.rack in
    let shelved = c.shelve_all-placed.ensures in
    let formed = c.requires.plannable.formed in
    record {
      result_value = steps_numbers called formed left_run (c.fill_all-filled.ensures.served_value ∙ ap (λ (list : List Item). served (placed rack list)) list_is) c.store_left-unserved.ensures.value (sym (front_length rest run run_room));
      left_after = steps_tables called formed left_run _ entry (copies_planned called formed entry copies_filled counts_filled films_are shelved.copies_after) (counts_planned called formed entry copies_filled counts_filled films_are shelved.counts_after) c.store_left-unserved.ensures.left_after;
    }

pub offset_bounds-keys-films : goal.offset_bounds-keys-films
offset_bounds-keys-films c =
    let called : Call = call (disks_in c.args.rack.now) c.args.list.now in
    let records : ℕ = record_count c.args.list.now in
    let films : ℕ = c.build-films.result in
    let films_most : films ≤ records = omega (arith, c.build-films.ensures.value, films_few called c.requires.plannable.formed) in
    omega (arith, films_most, c.requires.plannable.formed.records_most)

pub slice_bounds-fill_all-count : goal.slice_bounds-fill_all-count
slice_bounds-fill_all-count c =
    let called : Call = call (disks_in c.args.rack.now) c.args.list.now in
    let records : ℕ = record_count c.args.list.now in
    let films : ℕ = c.build-films.result in
    let films_most : films ≤ records = omega (arith, c.build-films.ensures.value, films_few called c.requires.plannable.formed) in
    let listed : List ℕ = c.build-films.new.keys in
    let room : records ≤ length listed = omega (arith, c.requires.plannable.formed.records_most, c.requires.most_records_in_bounds) in
    omega (arith, films_most, room)

pub slice_bounds-fill_all-start : goal.slice_bounds-fill_all-start
slice_bounds-fill_all-start c =
    let called : Call = call (disks_in c.args.rack.now) c.args.list.now in
    let records : ℕ = record_count c.args.list.now in
    let films : ℕ = c.build-films.result in
    let films_most : films ≤ records = omega (arith, c.build-films.ensures.value, films_few called c.requires.plannable.formed) in
    let listed : List ℕ = c.build-films.new.keys in
    let room : records ≤ length listed = omega (arith, c.requires.plannable.formed.records_most, c.requires.most_records_in_bounds) in
    omega (arith, films_most, room)

pub overflow_sub-records : goal.overflow_sub-records
overflow_sub-records c =
    let called : Call = call (disks_in c.args.rack.now) c.args.list.now in
    let records : ℕ = record_count c.args.list.now in
    let films : ℕ = c.build-films.result in
    let films_most : films ≤ records = omega (arith, c.build-films.ensures.value, films_few called c.requires.plannable.formed) in
    films_most

pub offset_bounds-keys-placed : goal.offset_bounds-keys-placed
offset_bounds-keys-placed c =
    let called : Call = call (disks_in c.args.rack.now) c.args.list.now in
    let records : ℕ = record_count c.args.list.now in
    let films : ℕ = c.build-films.result in
    let films_most : films ≤ records = omega (arith, c.build-films.ensures.value, films_few called c.requires.plannable.formed) in
    omega (arith, c.shelve_all-placed.ensures.upper_bound.0, films_most, c.requires.plannable.formed.records_most)

pub slice_bounds-store_left-count : goal.slice_bounds-store_left-count
slice_bounds-store_left-count c =
    let films : ℕ = c.build-films.result in
    let listed : List ℕ = c.build-films.new.keys in
    let part : List ℕ = c.fill_all-filled.new.keys in
    let keys : List ℕ = put_mid films (length listed - films) listed part in
    let called : Call = call (disks_in c.args.rack.now) c.args.list.now in
    let records : ℕ = record_count c.args.list.now in
    let films_most : films ≤ records = omega (arith, c.build-films.ensures.value, films_few called c.requires.plannable.formed) in
    let room : records ≤ length listed = omega (arith, c.requires.plannable.formed.records_most, c.requires.most_records_in_bounds) in
    let films_room : films ≤ length listed = omega (arith, films_most, room) in
    let keys_length : length keys ≡ films + length part = parts_length listed part films films_room in
    omega (arith, c.shelve_all-placed.ensures.upper_bound.0, keys_length)

pub slice_bounds-store_left-start : goal.slice_bounds-store_left-start
slice_bounds-store_left-start c =
    let films : ℕ = c.build-films.result in
    let listed : List ℕ = c.build-films.new.keys in
    let part : List ℕ = c.fill_all-filled.new.keys in
    let keys : List ℕ = put_mid films (length listed - films) listed part in
    let called : Call = call (disks_in c.args.rack.now) c.args.list.now in
    let records : ℕ = record_count c.args.list.now in
    let films_most : films ≤ records = omega (arith, c.build-films.ensures.value, films_few called c.requires.plannable.formed) in
    let room : records ≤ length listed = omega (arith, c.requires.plannable.formed.records_most, c.requires.most_records_in_bounds) in
    let films_room : films ≤ length listed = omega (arith, films_most, room) in
    let keys_length : length keys ≡ films + length part = parts_length listed part films films_room in
    omega (arith, c.shelve_all-placed.ensures.upper_bound.0, keys_length)

pub overflow_cast-result : goal.overflow_cast-result
overflow_cast-result c =
    let called : Call = call (disks_in c.args.rack.now) c.args.list.now in
    let records : ℕ = record_count c.args.list.now in
    let films : ℕ = c.build-films.result in
    let films_most : films ≤ records = omega (arith, c.build-films.ensures.value, films_few called c.requires.plannable.formed) in
    omega (arith, c.fill_all-filled.ensures.keys_after.1, films_most, c.requires.plannable.formed.records_most)

pub fill_all-filled-requires : goal.fill_all-filled-requires
fill_all-filled-requires c =
    let called : Call = call (disks_in c.args.rack.now) c.args.list.now in
    let films : ℕ = c.build-films.result in
    let listed : List ℕ = c.build-films.new.keys in
    let records : ℕ = record_count c.args.list.now in
    let room : records ≤ length listed = omega (arith, c.requires.plannable.formed.records_most, c.requires.most_records_in_bounds) in
    let list_is : items_of (records - films) (take (length listed - films) (drop films listed)) ≡ list_of (records_in called) = (let demands = records_in called in items_behind listed records films room (shelf_films demands) (list_of demands) c.build-films.ensures.keys_after c.build-films.ensures.value) in
    let p = c.requires.plannable in
    record {
      rack_in_bounds = (p.copies, omega (arith, p.counts, disks_length c.args.rack.now), omega (arith, room, length-take (length listed - films) (drop films listed), length-drop films listed));
      rack_value = (p.formed.rack, subst (λ (xs : List Item). Each (Entry most_demand) xs) (sym list_is) (list_of_entries (records_in called) p.formed.accepted));
    }

pub shelve_all-placed-requires : goal.shelve_all-placed-requires
shelve_all-placed-requires c =
    let called : Call = call (disks_in c.args.rack.now) c.args.list.now in
    let entry : Tables = (let a = c.args in tables a.copies.now a.counts.now a.left.now) in
    let records : ℕ = record_count c.args.list.now in
    let films : ℕ = c.build-films.result in
    let listed : List ℕ = c.build-films.new.keys in
    let room : records ≤ length listed = omega (arith, c.requires.plannable.formed.records_most, c.requires.most_records_in_bounds) in
    let list_is : items_of (records - films) (take (length listed - films) (drop films listed)) ≡ list_of (records_in called) = (let demands = records_in called in items_behind listed records films room (shelf_films demands) (list_of demands) c.build-films.ensures.keys_after c.build-films.ensures.value) in
    let copies_filled : c.fill_all-filled.new.copies ≡ written (places called.rack (placed_in called)) entry.copies = (let rack = called.rack in c.fill_all-filled.ensures.copies_after ∙ ap (λ (list : List Item). written (places rack (placed rack list)) entry.copies) list_is) in
    let counts_filled : c.fill_all-filled.new.counts ≡ written (map length (placed_in called)) entry.counts = (let rack = called.rack in c.fill_all-filled.ensures.counts_after ∙ ap (λ (list : List Item). written (map length (placed rack list)) entry.counts) list_is) in
    let part : List ℕ = c.fill_all-filled.new.keys in
    let keys : List ℕ = put_mid films (length listed - films) listed part in
    let films_most : films ≤ records = omega (arith, c.build-films.ensures.value, films_few called c.requires.plannable.formed) in
    let films_room : films ≤ length listed = omega (arith, films_most, room) in
    let keys_length : length keys ≡ films + length part = parts_length listed part films films_room in
    let p = c.requires.plannable in
    record {
      rack_in_bounds = (omega (arith, p.copies), omega (arith, p.counts, disks_length c.args.rack.now), omega (arith, keys_length));
      laid = filled_laid called p.formed entry copies_filled counts_filled;
    }

pub store_left-unserved-requires : goal.store_left-unserved-requires
store_left-unserved-requires c =
    let called : Call = call (disks_in c.args.rack.now) c.args.list.now in
    let entry : Tables = (let a = c.args in tables a.copies.now a.counts.now a.left.now) in
    let films : ℕ = c.build-films.result in
    let listed : List ℕ = c.build-films.new.keys in
    let records : ℕ = record_count c.args.list.now in
    let room : records ≤ length listed = omega (arith, c.requires.plannable.formed.records_most, c.requires.most_records_in_bounds) in
    let list_is : items_of (records - films) (take (length listed - films) (drop films listed)) ≡ list_of (records_in called) = (let demands = records_in called in items_behind listed records films room (shelf_films demands) (list_of demands) c.build-films.ensures.keys_after c.build-films.ensures.value) in
    let copies_filled : c.fill_all-filled.new.copies ≡ written (places called.rack (placed_in called)) entry.copies = (let rack = called.rack in c.fill_all-filled.ensures.copies_after ∙ ap (λ (list : List Item). written (places rack (placed rack list)) entry.copies) list_is) in
    let counts_filled : c.fill_all-filled.new.counts ≡ written (map length (placed_in called)) entry.counts = (let rack = called.rack in c.fill_all-filled.ensures.counts_after ∙ ap (λ (list : List Item). written (map length (placed rack list)) entry.counts) list_is) in
    let part : List ℕ = c.fill_all-filled.new.keys in
    let films_most : films ≤ records = omega (arith, c.build-films.ensures.value, films_few called c.requires.plannable.formed) in
    let films_room : films ≤ length listed = omega (arith, films_most, room) in
    let keys : List ℕ = put_mid films (length listed - films) listed part in
    let films_are : items_of films keys ≡ shelf_films (records_in called) = (let demands = records_in called in films_kept listed part films films_room ∙ items_front listed records films room (shelf_films demands) (list_of demands) c.build-films.ensures.keys_after c.build-films.ensures.value) in
    let left_room : c.fill_all-filled.result.left ≤ length part = omega (arith, c.fill_all-filled.ensures.keys_after.1, room, length-take (length listed - films) (drop films listed), length-drop films listed, c.fill_all-filled.auto.keys) in
    let rest : ℕ = films - c.shelve_all-placed.result + c.fill_all-filled.result.left in
    let run : List ℕ = take (length keys - c.shelve_all-placed.result) (drop c.shelve_all-placed.result keys) in
    let left_run : items_of rest run ≡ left_in called = (let rack = called.rack in let shelved = c.shelve_all-placed.ensures.upper_bound in run_left listed part films films_room c.shelve_all-placed.result c.fill_all-filled.result.left shelved.0 left_room ∙ left_is called c.requires.plannable.formed entry copies_filled counts_filled films_are shelved.1 (c.fill_all-filled.ensures.keys_after.0 ∙ ap (remaining (filling rack)) list_is)) in
    let keys_length : length keys ≡ films + length part = parts_length listed part films films_room in
    let run_room : rest ≤ length run = omega (arith, keys_length, length-take (length keys - c.shelve_all-placed.result) (drop c.shelve_all-placed.result keys), length-drop c.shelve_all-placed.result keys, c.shelve_all-placed.ensures.upper_bound.0, left_room) in
    let few : (rest ≤ records) × (records ≤ most_records) = (let formed = c.requires.plannable.formed in (omega (arith, front_length rest run run_room, left_count called formed left_run), formed.records_most)) in
    let p = c.requires.plannable in
    record {
      n_in_bounds = (run_room, left_small called p.formed left_run, left_films_lem called p.formed left_run);
      n_le_records = (few.0, few.1, p.left);
    }
