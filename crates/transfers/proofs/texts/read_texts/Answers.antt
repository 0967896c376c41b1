-- `transfers::read_texts` meets its contract: a text is refused, or the racks are judged.
use mathlib.Core.Path.{◌≡◌}
use mathlib.Core.List.{List}
use Prim.Native.Nat.{ℕ}
use lib.ListN.{take}
use Rattle.std.proofs.lemmas.Result.{err_from_is_err_and}
use Rattle.refusal.specs.Verdict.{Verdict, given}
use Rattle.placement.specs.Packed.{disks_in}
use Rattle.plan_text.specs.ReadCall.{text_verdict}
use Rattle.transfer_schedule.specs.Transfers.{racks_judged, texts_verdict}
use Rattle.transfers.specs.Keys.{StoredTexts}
use Rattle.transfers.proofs.ReadSteps.{ReadAs, read_as, read_accepted, both_stored, new_judged, carried, judged_with}
use Rattle.transfers.proofs.texts.read_texts.Goals as goal

-- Two texts that are read, whose racks are judged.
both_judged :
    (old new oldrack newrack oldkeys newkeys : List ℕ) (m n p q : ℕ) (first : ReadAs (text_verdict old) oldrack oldkeys m p)
    (second : ReadAs (text_verdict new) newrack newkeys n q) (v : Verdict (Unit {0}))
    → v ≡ racks_judged (disks_in (take m oldrack)) (disks_in (take n newrack)) (given (tt {0}))
    → StoredTexts (texts_verdict old new) oldkeys newkeys (carried (given (p, q)) v)
both_judged old new oldrack newrack oldkeys newkeys m n p q first second v e =
    both_stored (text_verdict old) (text_verdict new) oldrack oldkeys newkeys m p first _
    (new_judged (text_verdict new) newrack newkeys n q second (disks_in (take m oldrack)) p _ (judged_with (disks_in (take m oldrack)) (disks_in (take n newrack)) (given (p, q)) v e))

pub judge_racks-requires : goal.judge_racks-requires
judge_racks-requires c = (
  read_accepted c.args.old.now _ _ _ _ (read_as _ _ _ _ _ c.in_ok-old_disks.ensures),
  read_accepted c.args.new.now _ _ _ _ (read_as _ _ _ _ _ c.in_ok-new_disks.ensures),
)

pub returns-in_err-judge_racks : goal.returns-in_err-judge_racks
returns-in_err-judge_racks c =
    let p = err_from_is_err_and c.from_residual-in_err-judge_racks.result c.from_residual-in_err-judge_racks.ensures.1 in
    rw (p.1, p.2)
    (both_judged c.args.old.now c.args.new.now _ _ _ _ _ _ _ _ (read_as _ _ _ _ _ c.in_ok-old_disks.ensures) (read_as _ _ _ _ _ c.in_ok-new_disks.ensures)
    _ c.in_err-judge_racks.ensures)

pub returns : goal.returns
returns c =
    both_judged c.args.old.now c.args.new.now _ _ _ _ _ _ _ _ (read_as _ _ _ _ _ c.in_ok-old_disks.ensures) (read_as _ _ _ _ _ c.in_ok-new_disks.ensures)
    (given (tt {0})) c.in_ok-judge_racks.ensures
