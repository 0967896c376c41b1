-- The terminal's chain of refusals: the office's for a call that fits, and for any other the rack's, the list's shape, and 17.
use mathlib.Core.Path.{◌≡◌, refl, sym, ap, ◌∙◌}
use mathlib.Core.Bool.{true, false}
use mathlib.Core.List.{[]}
use Prim.Native.Nat.{ℕ, ◌%◌, ◌≤◌}
use native.Mathlib.Omega.{arith}
use borrow.Author.Tests.{le-leb}
use lib.Dec.{leb, eqb}
use lib.ListN.{length}
use store.Seg.{eqb_same}
use Rattle.refusal.specs.Verdict.{Verdict, given, refused, unless}
use Rattle.refusal.proofs.Verdicts.{Numbered, and_then, unless_passes, unless_refuses, unless_given, unless_numbered}
use Rattle.placement.specs.Rack.{rack_accepted, most_records}
use Rattle.placement.specs.Records.{record_count, shape_judged, records_judged}
use Rattle.placement.specs.Tables.{Tables, room_for}
use Rattle.placement.specs.Planning.{Call, records_in, rack_judged, room_judged, verdict}
use Rattle.placement.proofs.Chains.{rack_then, shape_then, rack_given_lem, rack_numbered, rack_passes}
use Rattle.placement.proofs.Tests.{by_test}
use Rattle.placement.proofs.Records.{shape_given, shape_numbered, records_numbered}
use Rattle.plan_terminal.specs.Terminal.{fits_terminal, terminal_verdict}

-- Three verdicts one after the other, from either end.
then_again : (v w following : Verdict (Unit {0})) → and_then v (and_then w following) ≡ and_then (and_then v w) following
then_again (given u) w following = refl
then_again (refused number second) w following = refl

-- The number of a refusal, 0 of a value.
abbrev number_in : Verdict (Unit {0}) → ℕ
number_in (given u) = 0
number_in (refused number second) = number

module _ (c : Call) where
  -- The rack and the list's shape, then what comes next.
  abbrev shaped : Verdict (Unit {0}) → Verdict (Unit {0})
  shaped following = rack_judged c.rack (shape_judged c.list following)

  shaped_then : (following : Verdict (Unit {0})) → shaped following ≡ and_then (shaped (given tt)) following
  shaped_then following =
      let shape : Verdict (Unit {0}) = shape_judged c.list (given tt) in
      rack_then c.rack (shape_judged c.list following)
      ∙ ap (and_then (rack_judged c.rack (given tt))) (shape_then c.list following)
      ∙ then_again (rack_judged c.rack (given tt)) shape following
      ∙ ap (λ (v : Verdict (Unit {0})). and_then v following) (sym (rack_then c.rack shape))

  -- What they lead to where neither is refused.
  shaped_passes :
      (following : Verdict (Unit {0})) → rack_accepted c.rack ≡ true → length c.list % 8 ≡ 0 → record_count c.list ≤ most_records
      → shaped following ≡ following
  shaped_passes following rack whole few =
      rack_passes c.rack (shape_judged c.list following) rack
      ∙ unless_passes (eqb (length c.list % 8) 0) 2 0 (unless (leb (record_count c.list) most_records) 3 0 following)
      (ap (λ n. eqb n 0) whole ∙ eqb_same 0)
      ∙ unless_passes (leb (record_count c.list) most_records) 3 0 following (le-leb (record_count c.list) most_records few)

  -- 17 is what a larger call comes to there.
  pub large_seventeen :
      rack_accepted c.rack ≡ true → length c.list % 8 ≡ 0 → record_count c.list ≤ most_records → shaped (refused 17 0) ≡ refused 17 0
  large_seventeen = shaped_passes (refused 17 0)

  module _ (t : Tables) where
    -- What comes behind 17.
    abbrev pub from_room : Verdict (Unit {0})
    from_room = room_judged c.rack (record_count c.list) t (records_judged c.list (given tt))

    -- A call that fits is judged as in the office,
    pub fits_verdict : fits_terminal c ≡ true → terminal_verdict c t ≡ verdict c t
    fits_verdict e = ap shaped (unless_passes (fits_terminal c) 17 0 from_room e)

    -- and a larger one is refused, whatever the tables and the records are.
    pub large_verdict : fits_terminal c ≡ false → terminal_verdict c t ≡ shaped (refused 17 0)
    large_verdict e = ap shaped (unless_refuses (fits_terminal c) 17 0 from_room e)

    -- A call that is not refused fits.
    pub given_fits : terminal_verdict c t ≡ given tt → fits_terminal c ≡ true
    given_fits e =
        let shape = rack_given_lem c.rack (shape_judged c.list (unless (fits_terminal c) 17 0 from_room)) tt e in
        (unless_given (fits_terminal c) 17 0 from_room tt (shape_given c.list (unless (fits_terminal c) 17 0 from_room) tt shape.1).1).0

    -- The terminal's refusals are numbered.
    pub terminal_numbered : Numbered (terminal_verdict c t)
    terminal_numbered =
        rack_numbered c.rack _
        (shape_numbered c.list _
        (unless_numbered (fits_terminal c) 17 0 _ (omega arith)
        (unless_numbered (room_for c.rack (record_count c.list) t) 7 0 _ (omega arith)
        (records_numbered [] 1 (records_in c) (given tt) tt))))

    -- Whatever is refused, but not by 17, is refused alike in the office.
    pub not_seventeen : (n m : ℕ) → terminal_verdict c t ≡ refused n m → (n ≡ 17 → ⊥) → verdict c t ≡ refused n m
    not_seventeen n m e other =
        by_test (fits_terminal c) (λ fits. sym (fits_verdict fits) ∙ e) (λ large. go (shaped (given tt)) refl (sym (large_verdict large) ∙ e))
      where
        go : (v : Verdict (Unit {0})) → shaped (given tt) ≡ v → shaped (refused 17 0) ≡ refused n m → verdict c t ≡ refused n m
        go (given u) is large =
            absurd (other (sym (ap number_in (sym (shaped_then (refused 17 0) ∙ ap (λ (v : Verdict (Unit {0})). and_then v (refused 17 0)) is) ∙ large))))
        go (refused number second) is large =
            shaped_then from_room
            ∙ ap (λ (v : Verdict (Unit {0})). and_then v from_room) is
            ∙ sym (shaped_then (refused 17 0) ∙ ap (λ (v : Verdict (Unit {0})). and_then v (refused 17 0)) is)
            ∙ large
