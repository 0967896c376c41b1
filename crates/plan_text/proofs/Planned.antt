-- The tables that planning leaves hold the plan of its call, and hold it well formed: whatever planning gives can be written.
use mathlib.Core.Path.{◌≡◌}
use mathlib.Core.Bool.{true}
use mathlib.Core.List.{List, map}
use Prim.Native.Nat.{ℕ, ◌≤◌}
use native.Mathlib.Omega.{arith}
use borrow.Author.Tests.{leb-true, le-leb}
use lib.Dec.{leb}
use lib.ListN.{length, drop, length-append, length-drop}
use Rattle.refusal.specs.Verdict.{given}
use Rattle.placement.specs.Copies.{halves_of}
use Rattle.placement.specs.Rack.{all_slots, most_demand}
use Rattle.placement.specs.Tables.{Tables, entry_of, padded, written, places, room_for}
use Rattle.placement.specs.Plan.{well_formed}
use Rattle.placement.specs.Held.{front, plan_held}
use Rattle.placement.specs.Records.{record_count}
use Rattle.placement.specs.Planning.{Call, plan_in, holding_call, tables_for}
use Rattle.placement.proofs.Conjunctions.{both_true, and_holds}
use Rattle.placement.proofs.Formed.{left_entries, plan_left}
use Rattle.placement.proofs.ReadBack.{padded_back}
use Rattle.plan_text.specs.Held.{held_well_formed}
use Rattle.plan_text.proofs.ReadTables.{plan_held_lem, plan_unused}

-- A table is no shorter for what was written to it.
written_room : (new old : List ℕ) → length old ≤ length (written new old)
written_room new old = omega (arith, length-append new (drop (length new) old), length-drop (length new) old)

-- The tables that planning leaves have room for its plan where they had room for the records.
pub planned_room :
    (c : Call) (t : Tables) → room_for c.rack (record_count c.list) t ≡ true → length (plan_in c).left ≤ record_count c.list
    → room_for c.rack (length (plan_in c).left) (holding_call c t) ≡ true
planned_room c t room few =
    let layout = map (map halves_of) (plan_in c).copies in
    let copies = both_true (leb (all_slots c.rack) (length t.copies)) _ room in
    let rest = both_true (leb (length c.rack) (length t.counts)) _ copies.1 in
    and_holds _ _
    (le-leb (all_slots c.rack) _ (omega (arith, leb-true (all_slots c.rack) _ copies.0, written_room (places c.rack layout) t.copies)))
    (and_holds _ _
    (le-leb (length c.rack) _ (omega (arith, leb-true (length c.rack) _ rest.0, written_room (map length layout) t.counts)))
    (le-leb (length (plan_in c).left) _
    (omega (
      arith,
      few,
      leb-true (record_count c.list) _ rest.1,
      written_room (padded (record_count c.list) (map entry_of (plan_in c).left)) t.left,
    ))))

module _ (c : Call) (t : Tables) (formed : well_formed (plan_in c) ≡ true) where
  -- The left films are read back.
  left_back : front (length (plan_in c).left) (holding_call c t).left ≡ (plan_in c).left
  left_back =
      padded_back most_demand (plan_in c).left (left_entries (plan_in c).left (plan_left (plan_in c) formed)) (record_count c.list) _

  -- The tables hold the plan of the call.
  pub planned_held : plan_held c.rack (tables_for c t (given tt)) (length (plan_in c).left) ≡ plan_in c
  planned_held = plan_held_lem (plan_in c) formed _ _ (holding_call c t).left left_back

  -- They hold it well formed, unused places included.
  pub planned_well_formed : held_well_formed c.rack (tables_for c t (given tt)) (length (plan_in c).left) ≡ true
  planned_well_formed = plan_unused (plan_in c) formed _ _ (holding_call c t).left left_back
