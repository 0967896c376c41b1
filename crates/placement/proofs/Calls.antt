-- All that holds of a call that planning does not refuse: its plan is well formed, and its numbers are bounded.
use mathlib.Core.Path.{◌≡◌, sym, ap, ◌∙◌}
use mathlib.Core.Bool.{true}
use mathlib.Core.List.{List, [], ◌∷◌}
use Prim.Native.Nat.{◌*◌, ◌≤◌}
use native.Mathlib.Omega.{arith}
use lib.ListN.{length}
use Rattle.refusal.specs.Verdict.{Verdict, given}
use Rattle.refusal.proofs.Verdicts.{unless_given}
use Rattle.placement.specs.Items.{Item, amount_of, total, list_of}
use Rattle.placement.specs.Copies.{layout_of}
use Rattle.placement.specs.Rack.{rack_accepted, most_records, most_demand}
use Rattle.placement.specs.Records.{record_count, shape_judged, records_judged}
use Rattle.placement.specs.FillingOrder.{filling}
use Rattle.placement.specs.Tables.{Tables, room_for}
use Rattle.placement.specs.Plan.{disks_accepted, left_accepted, well_formed, served_of, unserved_of}
use Rattle.placement.specs.Planning.{Call, records_in, layout_in, left_in, plan_after, plan_in, room_judged, verdict}
use Rattle.placement.specs.WellFormed.{Each, Demanded, RecordsAccepted, Entry, Bounded, CallWellFormed}
use Rattle.placement.proofs.Chains.{rack_given_lem}
use Rattle.placement.proofs.Racks.{accepted_all_loads}
use Rattle.placement.proofs.Films.{Usable}
use Rattle.placement.proofs.BestSharing.{plan_total}
use Rattle.placement.proofs.Each.{each_map, each_by_film}
use Rattle.placement.proofs.Records.{records_length, shape_given, records_accepted}
use Rattle.placement.proofs.Formed.{disks_served, left_accepted_lem, plan_rack, plan_disks, plan_left, plan_formed}
use Rattle.placement.proofs.MarkedCopies.{marked_layout, marked_accepted}
use Rattle.placement.proofs.ByFilm.{sum_by_by_film, by_film_length, by_film_ascending}
use Rattle.placement.proofs.WellFormed.{accepted_usable, list_of_entries, placement_windows}
use Rattle.placement.proofs.ShelfPlan.{copies_accepted_lem, left_distinct, left_few, left_entries, left_total}

-- What a call that is not refused has: an accepted rack, not too many records, tables with room, and accepted records.
pub call_judged :
    (c : Call) (t : Tables) → verdict c t ≡ given tt
    → (rack_accepted c.rack ≡ true) × (record_count c.list ≤ most_records) × (room_for c.rack (record_count c.list) t ≡ true)
    × RecordsAccepted (records_in c)
call_judged c t e =
    let from_records : Verdict (Unit {0}) = records_judged c.list (given tt) in
    let from_room : Verdict (Unit {0}) = room_judged c.rack (record_count c.list) t from_records in
    let rack = rack_given_lem c.rack (shape_judged c.list from_room) tt e in
    let shape = shape_given c.list from_room tt rack.1 in
    let room = unless_given (room_for c.rack (record_count c.list) t) 7 0 from_records tt shape.1 in
    (rack.0, shape.0, room.0, records_accepted (given tt) tt (records_in c) room.1)

-- Records sum to at most the largest demand for each.
total_demanded : (records : List Item) → Each Demanded records → total records ≤ most_demand * length records
total_demanded [] demanded = omega arith
total_demanded (x ∷ xs) demanded = omega (arith, demanded.0.amount_most, total_demanded xs demanded.1)

-- A call with an accepted rack and at most 1,024 accepted records has a well-formed plan with bounded numbers.
accepted_well_formed :
    (c : Call) → rack_accepted c.rack ≡ true → record_count c.list ≤ most_records → RecordsAccepted (records_in c) → CallWellFormed c
accepted_well_formed c rack few accepted = record {
  rack = rack;
  records_most = few;
  accepted = accepted;
  plan = plan_formed (plan_in c) rack disks (marked_accepted [] (layout_in c)) left;
  left_most = count;
  bounds = bounds;
  served_most = omega (arith, bounds.served, accepted_all_loads c.rack rack);
  demand_most = demand;
  unserved_most = omega (arith, bounds.unserved, demand);
}
  where
    usable : Usable (filling c.rack)
    usable = accepted_usable c.rack rack

    disks : disks_accepted c.rack (layout_of (plan_in c).copies) ≡ true
    disks = ap (disks_accepted c.rack) (marked_layout [] (layout_in c)) ∙ copies_accepted_lem c.rack (records_in c) usable accepted

    count : length (plan_in c).left ≤ record_count c.list
    count = omega (arith, left_few c.rack (records_in c) usable accepted, by_film_length (left_in c), records_length c.list)

    entries : Each (Entry most_demand) (left_in c)
    entries = left_entries c.rack (records_in c) usable accepted

    left : left_accepted (plan_in c).left ≡ true
    left =
        left_accepted_lem (plan_in c).left (omega (arith, count, few))
        (by_film_ascending (left_in c) (each_map (Entry most_demand) (λ x. 1 ≤ x.film) (left_in c) (λ x entry. entry.film_least) entries)
        (left_distinct c.rack (records_in c) usable accepted))
        (each_by_film (Entry most_demand) (left_in c) entries)

    bounds : Bounded c.rack (records_in c) (served_of (plan_in c)) (unserved_of (plan_in c))
    bounds = record {
      served = disks_served c.rack (layout_of (plan_in c).copies) disks;
      unserved =
          omega (
            arith,
            plan_total (filling c.rack) (records_in c) usable,
            sum_by_by_film amount_of (left_in c),
            left_total c.rack (records_in c) usable accepted,
          );
      demand = total_demanded (records_in c) accepted.demanded;
      windows = placement_windows (filling c.rack) (list_of (records_in c)) usable (list_of_entries (records_in c) accepted);
    }

    demand : total (records_in c) ≤ 1024000000
    demand = omega (arith, bounds.demand, records_length c.list, few)

-- All that holds of a call that planning does not refuse.
pub call_well_formed : (c : Call) (t : Tables) → verdict c t ≡ given tt → CallWellFormed c
call_well_formed c t e =
    let judged = call_judged c t e in
    accepted_well_formed c judged.0 judged.1 judged.3

-- Its plan after an earlier one is well formed too.
pub after_well_formed : (c : Call) (earlier : List (List Item)) → CallWellFormed c → well_formed (plan_after earlier c) ≡ true
after_well_formed c earlier formed =
    plan_formed (plan_after earlier c) (plan_rack (plan_in c) formed.plan)
    (ap (disks_accepted c.rack) (marked_layout earlier (layout_in c) ∙ sym (marked_layout [] (layout_in c)))
    ∙ plan_disks (plan_in c) formed.plan)
    (marked_accepted earlier (layout_in c)) (plan_left (plan_in c) formed.plan)
