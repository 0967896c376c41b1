-- Writing and then reading gives the plan that the tables held; reading and then writing gives the text.
use mathlib.Core.Path.{◌≡◌, ap, ◌∙◌}
use mathlib.Core.Bool.{true}
use mathlib.Core.List.{List, map}
use Prim.Native.Nat.{ℕ, ◌≤◌}
use native.Mathlib.Omega.{arith}
use borrow.Author.Tests.{le-leb}
use lib.Dec.{leb}
use lib.ListN.{length, take, drop, length-append, length-map}
use Rattle.refusal.specs.Verdict.{given, unless}
use Rattle.refusal.proofs.Verdicts.{unless_passes}
use Rattle.placement.specs.Copies.{halves_of}
use Rattle.placement.specs.Rack.{Disk, all_slots}
use Rattle.placement.specs.Tables.{Tables, entry_of, places, written}
use Rattle.placement.specs.Plan.{Plan, well_formed}
use Rattle.placement.proofs.Conjunctions.{both_true, and_holds}
use Rattle.placement.proofs.Chains.{rack_passes}
use Rattle.placement.proofs.Formed.{plan_rack, plan_lists}
use Rattle.placement.proofs.ReadBack.{plan_fits, fits_length}
use Rattle.plan_text.specs.Text.{text_of}
use Rattle.plan_text.specs.Held.{unused_zero_from}
use Rattle.plan_text.specs.ReadCall.{text_verdict, holding_rack, holding_plan}
use Rattle.plan_text.specs.WriteCall.{WriteCall, write_call, room_stated, plan_of, well_formed_call, write_verdict, writing, space_after, write_answer, space_given}
use Rattle.plan_text.proofs.ReadTables.{holding_rack_lem, holding_held, holding_well_formed}
use Rattle.plan_text.proofs.Verdicts.{verdict_text, verdict_well_formed, verdict_same}

-- The text of tables that hold a well-formed plan is read as the plan that they hold.
pub written_read : (c : WriteCall) → well_formed_call c ≡ true → text_verdict (text_of (plan_of c)) ≡ given (plan_of c)
written_read c e =
    verdict_text (plan_of c)
    (both_true (unused_zero_from c.rack c.tables.copies c.tables.counts) (well_formed (plan_of c)) e).1

-- A table is at least as long as what is written to it.
length_written : (new old : List ℕ) → length new ≤ length (written new old)
length_written new old = omega (arith, length-append new (drop (length new) old))

-- The call that writes what reading has left in the list of entries and in the tables.
abbrev pub call_after : Plan → List Disk → Tables → WriteCall
call_after p lent t = write_call (take (length p.rack) (holding_rack p lent)) (holding_plan p t) (length p.left)

-- The call with the rack itself.
abbrev call_of : Plan → Tables → WriteCall
call_of p t = write_call p.rack (holding_plan p t) (length p.left)

call_same : (p : Plan) (lent : List Disk) (t : Tables) → call_after p lent t ≡ call_of p t
call_same p lent t = ap (λ (rack : List Disk). write_call rack (holding_plan p t) (length p.left)) (holding_rack_lem p lent)

-- The tables have room for what they hold.
room_after : (p : Plan) (t : Tables) → well_formed p ≡ true → room_stated (call_of p t) ≡ true
room_after p t e =
    let after = holding_plan p t in
    let halves = map (map halves_of) p.copies in
    and_holds (leb (all_slots p.rack) (length after.copies)) _
    (le-leb (all_slots p.rack) (length after.copies) (omega (
      arith,
      fits_length p.rack halves (plan_fits p e),
      length_written (places p.rack halves) t.copies,
    )))
    (and_holds (leb (length p.rack) (length after.counts)) _
    (le-leb (length p.rack) (length after.counts) (omega (
      arith,
      length_written (map length halves) t.counts,
      length-map halves length,
      length-map p.copies (map halves_of),
      plan_lists p e,
    )))
    (le-leb (length p.left) (length after.left)
    (omega (arith, length_written (map entry_of p.left) t.left, length-map p.left entry_of))))

module _ (text : List ℕ) (p : Plan) (lent : List Disk) (t : Tables) (room : List ℕ) (read : text_verdict text ≡ given p)
    (fits : length text ≤ length room) where
  formed : well_formed p ≡ true
  formed = verdict_well_formed text p read

  -- The text of the tables after reading is the text that was read.
  same : text_of (plan_of (call_of p t)) ≡ text
  same = ap text_of (holding_held p t formed) ∙ verdict_same text p read

  -- No refusal of writing applies to them.
  verdict : write_verdict (call_of p t) room ≡ given (length text)
  verdict =
      rack_passes p.rack _ (plan_rack p formed)
      ∙ unless_passes (room_stated (call_of p t)) 7 0 _ (room_after p t formed)
      ∙ unless_passes (well_formed_call (call_of p t)) 10 0 _ (holding_well_formed p t formed)
      ∙ ap (λ (s : List ℕ). unless (leb (length s) (length room)) 11 0 (given (length s))) same
      ∙ unless_passes (leb (length text) (length room)) 11 0 (given (length text)) (le-leb (length text) (length room) fits)

  -- Writing what was read answers the text's length.
  pub read_written : writing (call_after p lent t) room ≡ record { refusal = 0; second = 0; values = length text }
  unfolding writing
  read_written = ap (λ (c : WriteCall). write_answer (write_verdict c room)) (call_same p lent t) ∙ ap write_answer verdict

  -- It writes the text that was read.
  pub read_space : space_after (call_after p lent t) room ≡ written text room
  unfolding space_after
  read_space =
      ap (λ (c : WriteCall). space_given c room (write_verdict c room)) (call_same p lent t)
      ∙ ap (space_given (call_of p t) room) verdict
      ∙ ap (λ (s : List ℕ). written s room) same
