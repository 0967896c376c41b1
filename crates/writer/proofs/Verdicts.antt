-- The verdict on a call at each way that it ends: one law for each refusal, and one for a text that is written.
use Rattle.std.proofs.Common.{◌≡◌, ℕ, zero, suc, ◌+◌, ◌<◌, ◌≤◌, true, false, leb, List, [], ◌∷◌, length, get_or, take, sym, refl, ap, ◌∙◌, arith, le-leb}
use borrow.Author.Tests.{lt-leb}
use Rattle.refusal.specs.Verdict.{Verdict, given, refused, unless}
use Rattle.refusal.specs.Numbers.{refusal_of}
use Rattle.refusal.specs.declared.Refusal.{Refusal}
use Rattle.refusal.proofs.Verdicts.{and_then, unless_passes, unless_refuses}
use Rattle.placement.specs.Rack.{Disk, disk, first_slots, first_load, disks_in_range, same_ratio, all_same_ratio, rack_accepted}
use Rattle.placement.specs.Planning.{ratio_judged_from, rack_judged}
use Rattle.placement.proofs.Tests.{by_test}
use Rattle.placement.proofs.Conjunctions.{both_true, and_holds, false_true}
use Rattle.placement.proofs.Chains.{rack_then, rack_passes}
use Rattle.plan_text.specs.WriteCall.{WriteCall, room_stated, well_formed_call, write_verdict}
use Rattle.writer.specs.WritePromise.{OtherRatio, text_held}

module _ (slots load : ℕ) (following : Verdict ℕ) where
  -- The first disk of another ratio is refused.
  ratio_other :
      (position : ℕ) (ds : List Disk) (d : ℕ) → d < length ds → all_same_ratio slots load (take d ds) ≡ true
      → same_ratio slots load (get_or ds d (disk 0 0)) ≡ false → ratio_judged_from slots load position ds following ≡ refused 13 (d + position)
  ratio_other position [] d inside before other = absurd (omega arith)
  ratio_other position (x ∷ xs) zero inside before other =
      let here : position ≡ 0 + position = omega arith in
      unless_refuses (same_ratio slots load x) 13 position _ other ∙ ap (λ (n : ℕ). refused 13 n) here
  ratio_other position (x ∷ xs) (suc d) inside before other =
      let both = both_true (same_ratio slots load x) (all_same_ratio slots load (take d xs)) before in
      let here : d + suc position ≡ suc d + position = omega arith in
      unless_passes (same_ratio slots load x) 13 position _ both.0
      ∙ ratio_other (suc position) xs d (omega arith) both.1 other
      ∙ ap (λ (n : ℕ). refused 13 n) here

  -- The disks are of one ratio, or one of them is refused.
  by_ratio_lem :
      {P : Type 0} (position : ℕ) (ds : List Disk) → (all_same_ratio slots load ds ≡ true → P)
      → ((second : ℕ) → ratio_judged_from slots load position ds following ≡ refused 13 second → P) → P
  by_ratio_lem position [] passed refusal = passed refl
  by_ratio_lem position (x ∷ xs) passed refusal =
      by_test (same_ratio slots load x)
      (λ same.
      by_ratio_lem (suc position) xs (λ rest. passed (and_holds (same_ratio slots load x) _ same rest))
      (λ second e. refusal second (unless_passes (same_ratio slots load x) 13 position _ same ∙ e)))
      (λ other. refusal position (unless_refuses (same_ratio slots load x) 13 position _ other))

module _ (c : WriteCall) (room : List ℕ) where
  -- The verdict behind the test of the plan, of the tables and of the rack.
  abbrev by_space : Verdict ℕ
  by_space = unless (leb (length (text_held c)) (length room)) 11 0 (given (length (text_held c)))

  abbrev by_plan : Verdict ℕ
  by_plan = unless (well_formed_call c) 10 0 by_space

  abbrev by_tables : Verdict ℕ
  by_tables = unless (room_stated c) 7 0 by_plan

  -- The verdict behind the ranges of the disks.
  abbrev by_ratio : Verdict ℕ
  by_ratio = ratio_judged_from (first_slots c.rack) (first_load c.rack) 1 c.rack by_tables

  -- Refusal 12.
  pub refused_rack : disks_in_range c.rack ≡ false → write_verdict c room ≡ refused 12 0
  refused_rack ranges = unless_refuses (disks_in_range c.rack) 12 0 by_ratio ranges

  behind_ranges : disks_in_range c.rack ≡ true → write_verdict c room ≡ by_ratio
  behind_ranges ranges = unless_passes (disks_in_range c.rack) 12 0 by_ratio ranges

  -- Refusal 13.
  pub refused_ratio : disks_in_range c.rack ≡ true → (d : ℕ) → OtherRatio c.rack d → write_verdict c room ≡ refused 13 (d + 1)
  refused_ratio ranges d r =
      behind_ranges ranges
      ∙ ratio_other (first_slots c.rack) (first_load c.rack) by_tables 1 c.rack d r.inside r.before r.other

  -- The refusal of a rack that was judged.
  pub refused_judged : (r : Refusal) → refusal_of {A = Unit {0}} r ≡ rack_judged c.rack (given tt) → write_verdict c room ≡ refusal_of r
  refused_judged r e = rack_then c.rack by_tables ∙ ap (λ (v : Verdict (Unit {0})). and_then v by_tables) (sym e)

  -- The rack is accepted, or it is refused, and 13 alone has a second number.
  pub by_rack :
      {P : Type 0} → (rack_accepted c.rack ≡ true → P)
      → ((number second : ℕ) → 1 ≤ number → ((number ≡ 13 → ⊥) → second ≡ 0) → write_verdict c room ≡ refused number second → P) → P
  by_rack accepted refusal =
      by_test (disks_in_range c.rack)
      (λ ranges.
      by_ratio_lem (first_slots c.rack) (first_load c.rack) by_tables 1 c.rack
      (λ ratios. accepted (and_holds (disks_in_range c.rack) _ ranges ratios))
      (λ second e. refusal 13 second (omega arith) (λ other. absurd (other refl)) (behind_ranges ranges ∙ e)))
      (λ ranges. refusal 12 0 (omega arith) (λ other. refl) (refused_rack ranges))

  -- Refusal 13 of a rack in range that is not accepted.
  pub refused_other :
      {P : Type 0} → disks_in_range c.rack ≡ true → rack_accepted c.rack ≡ false → ((second : ℕ) → write_verdict c room ≡ refused 13 second → P) → P
  refused_other ranges unaccepted refusal =
      by_ratio_lem (first_slots c.rack) (first_load c.rack) by_tables 1 c.rack
      (λ ratios. false_true (sym unaccepted ∙ and_holds (disks_in_range c.rack) _ ranges ratios))
      (λ second e. refusal second (behind_ranges ranges ∙ e))

  module _ (rack : rack_accepted c.rack ≡ true) where
    -- Each test that holds leaves those behind it.
    behind_rack : write_verdict c room ≡ by_tables
    behind_rack = rack_passes c.rack by_tables rack

    -- Refusal 7.
    pub refused_tables : room_stated c ≡ false → write_verdict c room ≡ refused 7 0
    refused_tables stated = behind_rack ∙ unless_refuses (room_stated c) 7 0 by_plan stated

    module _ (stated : room_stated c ≡ true) where
      behind_tables : write_verdict c room ≡ by_plan
      behind_tables = behind_rack ∙ unless_passes (room_stated c) 7 0 by_plan stated

      -- Refusal 10.
      pub refused_plan : well_formed_call c ≡ false → write_verdict c room ≡ refused 10 0
      refused_plan formed = behind_tables ∙ unless_refuses (well_formed_call c) 10 0 by_space formed

      module _ (formed : well_formed_call c ≡ true) where
        behind_plan : write_verdict c room ≡ by_space
        behind_plan = behind_tables ∙ unless_passes (well_formed_call c) 10 0 by_space formed

        -- Refusal 11.
        pub refused_space : length room < length (text_held c) → write_verdict c room ≡ refused 11 0
        refused_space short = behind_plan ∙ unless_refuses _ 11 0 (given (length (text_held c))) (lt-leb _ _ short)

        -- The text is written.
        pub given_text : length (text_held c) ≤ length room → write_verdict c room ≡ given (length (text_held c))
        given_text fits = behind_plan ∙ unless_passes _ 11 0 (given (length (text_held c))) (le-leb _ _ fits)
