-- The office's answer and text of a call: the same with all tables that have room.
use mathlib.Core.Path.{◌≡◌, sym, ap, ◌∙◌}
use mathlib.Core.Bool.{true}
use mathlib.Core.List.{List}
use Prim.Native.Nat.{ℕ, ◌≤◌}
use borrow.Author.Tests.{le-leb}
use lib.Dec.{leb}
use lib.ListN.{length}
use Rattle.refusal.specs.Verdict.{Verdict, given, unless}
use Rattle.refusal.proofs.Verdicts.{unless_passes}
use Rattle.placement.specs.Records.{record_count, shape_judged, records_judged}
use Rattle.placement.specs.Tables.{Tables, room_for, written}
use Rattle.placement.specs.Planning.{Call, rack_judged, verdict, plan_in, holding_call}
use Rattle.placement.specs.WellFormed.{CallWellFormed}
use Rattle.placement.proofs.Chains.{rack_passes}
use Rattle.placement.proofs.Calls.{call_judged, call_well_formed}
use Rattle.plan_text.specs.Text.{text_of}
use Rattle.plan_text.specs.WriteCall.{WriteCall, write_call, plan_of, room_stated, well_formed_call, write_verdict, write_answer, space_given, writing, space_after}
use Rattle.plan_text.proofs.Planned.{planned_room, planned_held, planned_well_formed}
use Rattle.plan_terminal.specs.TerminalPromise.{Writes}

module _ (c : Call) where
  -- What is judged but for the room.
  abbrev roomless : Verdict (Unit {0})
  roomless = rack_judged c.rack (shape_judged c.list (records_judged c.list (given tt)))

  skips_room : (t : Tables) → room_for c.rack (record_count c.list) t ≡ true → verdict c t ≡ roomless
  skips_room t room =
      ap (λ (v : Verdict (Unit {0})). rack_judged c.rack (shape_judged c.list v))
      (unless_passes (room_for c.rack (record_count c.list) t) 7 0 (records_judged c.list (given tt)) room)

  -- A call that is planned with some tables is planned with all that have room.
  pub room_verdict :
      (t other : Tables) → verdict c t ≡ given tt → room_for c.rack (record_count c.list) other ≡ true → verdict c other ≡ given tt
  room_verdict t other e room = skips_room other room ∙ sym (skips_room t (call_judged c t e).2) ∙ e

  -- The writing of the tables that planning leaves.
  abbrev pub after_planning : Tables → WriteCall
  after_planning t = write_call c.rack (holding_call c t) (length (plan_in c).left)

  module _ (t : Tables) (e : verdict c t ≡ given tt) where
    formed : CallWellFormed c
    formed = call_well_formed c t e

    -- Its plan is the plan of the call,
    pub plan_is : plan_of (after_planning t) ≡ plan_in c
    plan_is = planned_held c t formed.plan

    -- and nothing is refused where the space has room for the text.
    module _ (space : List ℕ) (room : length (text_of (plan_in c)) ≤ length space) where
      abbrev fits : List ℕ → Verdict ℕ
      fits text = unless (leb (length text) (length space)) 11 0 (given (length text))

      verdict_is : write_verdict (after_planning t) space ≡ given (length (text_of (plan_in c)))
      verdict_is =
          rack_passes c.rack _ formed.rack
          ∙ unless_passes (room_stated (after_planning t)) 7 0 _ (planned_room c t (call_judged c t e).2 formed.left_most)
          ∙ unless_passes (well_formed_call (after_planning t)) 10 0 (fits (text_of (plan_of (after_planning t)))) (planned_well_formed c t formed.plan)
          ∙ ap fits (ap text_of plan_is)
          ∙ unless_passes (leb (length (text_of (plan_in c))) (length space)) 11 0 _ (le-leb (length (text_of (plan_in c))) (length space) room)

      written_numbers : writing (after_planning t) space ≡ record { refusal = 0; second = 0; values = length (text_of (plan_in c)) }
      unfolding writing
      written_numbers = ap write_answer verdict_is

      written_bytes : space_after (after_planning t) space ≡ written (text_of (plan_in c)) space
      unfolding space_after
      written_bytes =
          ap (space_given (after_planning t) space) verdict_is ∙ ap (λ (text : List ℕ). written text space) (ap text_of plan_is)

    -- So writing gives the text of the plan.
    pub planned_writes : Writes (text_of (plan_in c)) (after_planning t)
    planned_writes = record { numbers = written_numbers; bytes = written_bytes }
