-- What the verdict on two texts says: two plans with these texts, or a refusal of at least 8.
use mathlib.Core.Path.{◌≡◌, refl, sym, ap, ap₂, subst, ◌∙◌}
use mathlib.Core.Bool.{Bool, true, false, ◌&&◌}
use mathlib.Core.List.{List}
use Prim.Native.Nat.{ℕ, ◌≤◌}
use native.Mathlib.Omega.{arith}
use borrow.Author.Tests.{le-leb, leb-true}
use lib.ListN.{length}
use Rattle.refusal.specs.Verdict.{Verdict, given, refused, unless}
use Rattle.refusal.proofs.Verdicts.{unless_passes, unless_given}
use Rattle.placement.specs.Plan.{Plan}
use Rattle.placement.proofs.Conjunctions.{both_true, and_holds, false_true}
use Rattle.placement.proofs.Tests.{by_order}
use Rattle.plan_text.specs.Text.{first_line}
use Rattle.plan_text.specs.ReadCall.{text_verdict}
use Rattle.plan_text.proofs.Verdicts.{verdict_eight}
use Rattle.transfer_schedule.specs.Fits.{most_transfer_disks}
use Rattle.transfer_schedule.specs.Transfers.{followed_with, few_disks, same_numbers, racks_judged, Plans, plans, texts_verdict}
use Rattle.transfer_schedule.proofs.Lines.{same_refl, same_equal}

-- A refusal has a number of at least 8.
abbrev Late : Verdict Plans → Type 0
Late (given both) = Unit {0}
Late (refused number second) = 8 ≤ number

-- A text is refused 8 or 9.
pub text_late : (text : List ℕ) (n s : ℕ) → text_verdict text ≡ refused n s → 8 ≤ n
text_late text n s e =
    by_order n 8 (λ less. let eight : n ≡ 8 = (verdict_eight text n s e (λ nine. omega arith)).0 in absurd (omega arith)) (λ more. more)

-- Two plans that the two texts are read as, of at most 8 disks and with the same first line.
pub record BothRead (old new : List ℕ) (both : Plans) : Type 0 where
  pub first : text_verdict old ≡ given both.old
  pub second : text_verdict new ≡ given both.new
  pub first_few : length both.old.rack ≤ most_transfer_disks
  pub second_few : length both.new.rack ≤ most_transfer_disks
  pub line : first_line both.old.rack ≡ first_line both.new.rack

-- The plans of a verdict.
abbrev plans_or : Plans → Verdict Plans → Plans
plans_or none (given both) = both
plans_or none (refused number second) = none

module _ (old new : List ℕ) where
  -- The verdict on two texts, by those on each.
  abbrev following : Verdict Plan → Verdict Plan → Verdict Plans
  following v w = followed_with v (λ p. followed_with w (λ q. racks_judged p.rack q.rack (given (plans p q))))

  -- Two texts are refused 8 or 9, then 14 or 15.
  texts_judged : Late (texts_verdict old new)
  texts_judged = go (text_verdict old) (text_verdict new) refl refl
    where
      racks : (p q : Plan) (a b : Bool) → Late (unless a 14 0 (unless b 15 0 (given (plans p q))))
      racks p q true true = tt
      racks p q true false = omega arith
      racks p q false b = omega arith

      go : (v w : Verdict Plan) → text_verdict old ≡ v → text_verdict new ≡ w → Late (following v w)
      go (refused n s) w e f = text_late old n s e
      go (given p) (refused n s) e f = text_late new n s f
      go (given p) (given q) e f = racks p q (few_disks p.rack && few_disks q.rack) (same_numbers (first_line p.rack) (first_line q.rack))

  -- So their refusal is at least 8.
  pub texts_late : (n s : ℕ) → texts_verdict old new ≡ refused n s → 8 ≤ n
  texts_late n s e = subst Late e texts_judged

  -- The old text's come first, then the new one's.
  pub texts_first : (n s : ℕ) → text_verdict old ≡ refused n s → texts_verdict old new ≡ refused n s
  texts_first n s e = ap (λ (v : Verdict Plan). following v (text_verdict new)) e

  pub texts_second : (p : Plan) (n s : ℕ) → text_verdict old ≡ given p → text_verdict new ≡ refused n s → texts_verdict old new ≡ refused n s
  texts_second p n s e f = ap₂ following e f

  -- Plans that are given are read, and neither 14 nor 15 applies to them.
  pub texts_given : (both : Plans) → texts_verdict old new ≡ given both → BothRead old new both
  texts_given both h = go (text_verdict old) (text_verdict new) refl refl h
    where
      go : (v w : Verdict Plan) → text_verdict old ≡ v → text_verdict new ≡ w → following v w ≡ given both → BothRead old new both
      go (refused n s) w e f h = false_true (unless_given false n s (given both) both h).0
      go (given p) (refused n s) e f h = false_true (unless_given false n s (given both) both h).0
      go (given p) (given q) e f h =
          let few = unless_given (few_disks p.rack && few_disks q.rack) 14 0 _ both h in
          let same = unless_given (same_numbers (first_line p.rack) (first_line q.rack)) 15 0 _ both few.1 in
          let each = both_true (few_disks p.rack) (few_disks q.rack) few.0 in
          subst (BothRead old new) (ap (plans_or (plans p q)) same.1) (record {
            first = e;
            second = f;
            first_few = leb-true (length p.rack) most_transfer_disks each.0;
            second_few = leb-true (length q.rack) most_transfer_disks each.1;
            line = same_equal (first_line p.rack) (first_line q.rack) same.0;
          })

  -- Plans that are read, and to which neither applies, are given.
  pub texts_read_lem : (both : Plans) → BothRead old new both → texts_verdict old new ≡ given both
  texts_read_lem both r =
      ap₂ following r.first r.second
      ∙ unless_passes (few_disks both.old.rack && few_disks both.new.rack) 14 0 _
      (and_holds (few_disks both.old.rack) (few_disks both.new.rack) (le-leb _ most_transfer_disks r.first_few)
      (le-leb _ most_transfer_disks r.second_few))
      ∙ unless_passes (same_numbers (first_line both.old.rack) (first_line both.new.rack)) 15 0 (given both)
      (ap (same_numbers (first_line both.old.rack)) (sym r.line) ∙ same_refl (first_line both.old.rack))
