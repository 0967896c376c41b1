-- What the tests of a call say: the room that its tables have, and when they hold a well-formed plan.
use Rattle.std.proofs.Common.{◌≡◌, ◌^◌, ◌<◌, ◌≤◌, Bool, true, false, ◌&&◌, leb, List, length, sym, refl, arith, leb-true}
use Rattle.placement.specs.Copies.{layout_of}
use Rattle.placement.specs.Rack.{Disk, all_slots, rack_accepted}
use Rattle.placement.specs.Planning.{rack_judged}
use Rattle.placement.proofs.Chains.{rack_given_lem}
use Rattle.refusal.specs.Verdict.{given}
use Rattle.placement.specs.Plan.{well_formed, disks_accepted, all_marks_accepted, left_accepted}
use Rattle.placement.specs.Held.{left_held}
use Rattle.placement.proofs.Conjunctions.{both_true}
use Rattle.plan_text.specs.Text.{text_of}
use Rattle.plan_text.specs.Held.{unused_zero_from}
use Rattle.plan_text.specs.WriteCall.{WriteCall, room_stated, plan_of, well_formed_call}
use Rattle.plan_text.proofs.LongestText.{text_length}
use Rattle.writer.specs.Call.{disks_formed, CopyRoom}

-- A test that holds drops out of a chain of five.
regrouped : (u r a m l : Bool) → r ≡ true → (u && (r && (a && (m && l)))) ≡ ((u && (a && m)) && l)
regrouped true r true m l p = rw p
regrouped true r false m l p = rw p
regrouped false r a m l p = refl

-- A rack that is judged and not refused is accepted.
pub rack_passed : (rack : List Disk) → given (tt {0}) ≡ rack_judged rack (given tt) → rack_accepted rack ≡ true
rack_passed rack e = (rack_given_lem rack (given tt) tt (sym e)).0

module _ (c : WriteCall) where
  -- The tests of the disks, then that of what is left, decide whether the plan is well formed.
  pub formed_call :
      rack_accepted c.rack ≡ true
      → well_formed_call c ≡ (disks_formed c.rack c.tables.copies c.tables.counts && left_accepted (left_held c.left c.tables))
  formed_call accepted =
      regrouped (unused_zero_from c.rack c.tables.copies c.tables.counts) (rack_accepted c.rack)
      (disks_accepted c.rack (layout_of (plan_of c).copies)) (all_marks_accepted (plan_of c).copies) (left_accepted (left_held c.left c.tables)) accepted

  module _ (room : room_stated c ≡ true) where
    -- The tests of the count table and the left table.
    behind : (leb (length c.rack) (length c.tables.counts) ≡ true) × (leb c.left (length c.tables.left) ≡ true)
    behind =
        both_true (leb (length c.rack) (length c.tables.counts)) (leb c.left (length c.tables.left))
        (both_true (leb (all_slots c.rack) (length c.tables.copies)) _ room).1

    -- The copy table and the count table have the places.
    pub room_copies : CopyRoom c.rack c.tables.copies c.tables.counts
    room_copies = record {
      copy_places = leb-true (all_slots c.rack) (length c.tables.copies) (both_true (leb (all_slots c.rack) (length c.tables.copies)) _ room).0;
      count_places = leb-true (length c.rack) (length c.tables.counts) behind.0;
    }

    -- The left table has the stated number of places.
    pub room_left : c.left ≤ length c.tables.left
    room_left = leb-true c.left (length c.tables.left) behind.1

  module _ (formed : well_formed_call c ≡ true) where
    -- The unused places are zero, and the plan value is well formed.
    parts : (unused_zero_from c.rack c.tables.copies c.tables.counts ≡ true) × (well_formed (plan_of c) ≡ true)
    parts = both_true (unused_zero_from c.rack c.tables.copies c.tables.counts) (well_formed (plan_of c)) formed

    pub formed_unused : unused_zero_from c.rack c.tables.copies c.tables.counts ≡ true
    formed_unused = parts.0

    pub formed_plan : well_formed (plan_of c) ≡ true
    formed_plan = parts.1

    -- Its text is short.
    pub text_short : length (text_of (plan_of c)) < 2 ^ 64
    text_short = omega (arith, text_length (plan_of c) formed_plan)
