-- `transfers::judge_racks` meets its contract: 14, 14, 15, or no refusal.
use mathlib.Core.Path.{◌≡◌, refl, sym, ap, ap₂, ◌∙◌}
use mathlib.Core.Bool.{Bool, true, false, not, ◌&&◌}
use mathlib.Core.List.{List, [], ◌∷◌}
use Prim.Native.Nat.{ℕ, ◌≤◌}
use native.Mathlib.Omega.{arith}
use borrow.Author.Tests.{le-leb}
use lib.Dec.{eqb}
use lib.ListN.{length}
use lib.Pointwise.{pointwise}
use Rattle.refusal.specs.Verdict.{given, unless}
use Rattle.placement.specs.Rack.{rack_accepted}
use Rattle.placement.specs.Packed.{disks_in}
use Rattle.placement.proofs.PackedRacks.{disks_length}
use Rattle.transfer_schedule.specs.Transfers.{few_disks, same_numbers, racks_judged}
use Rattle.transfer_schedule.proofs.Lines.{line_numbers}
use Rattle.transfers.proofs.texts.judge_racks.Goals as goal

-- A rack of at most 8 disks,
few : (rack : List ℕ) → length rack ≤ 8 → few_disks (disks_in rack) ≡ true
few rack h = le-leb (length (disks_in rack)) 8 (omega (arith, disks_length rack))

-- and two racks that are compared number by number.
compared : (old new : List ℕ) → pointwise eqb old new ≡ same_numbers old new
compared [] [] = refl
compared [] (y ∷ ys) = refl
compared (x ∷ xs) [] = refl
compared (x ∷ xs) (y ∷ ys) = ap (λ (b : Bool). eqb x y && b) (compared xs ys)

-- Behind the test of 14 that of 15 is left.
decided :
    (old new : List ℕ) (differ : Bool) → length old ≤ 8 → length new ≤ 8 → rack_accepted (disks_in old) ≡ true → rack_accepted (disks_in new) ≡ true
    → not (pointwise eqb old new) ≡ differ → racks_judged (disks_in old) (disks_in new) (given (tt {0})) ≡ unless (not differ) 15 0 (given (tt {0}))
decided old new differ few_old few_new old_ok new_ok e =
    ap₂ (λ (short same : Bool). unless short 14 0 (unless same 15 0 (given (tt {0}))))
    (ap₂ ◌&&◌ (few old few_old) (few new few_new))
    (line_numbers old new old_ok new_ok ∙ sym (compared old new) ∙ twice (pointwise eqb old new) ∙ ap not e)
  where
    twice : (b : Bool) → b ≡ not (not b)
    twice true = refl
    twice false = refl

pub returns-then-ne : goal.returns-then-ne
returns-then-ne c =
    let a = c.args in
    sym (decided a.old.now a.new.now true c.if-old-gt-MOST_TRANSFER_DISKS.false c.if-new-gt-MOST_TRANSFER_DISKS.false c.requires.0 c.requires.1
    (sym c.ne.ensures ∙ c.if-ne.true))

pub returns : goal.returns
returns c =
    let a = c.args in
    sym (decided a.old.now a.new.now false c.if-old-gt-MOST_TRANSFER_DISKS.false c.if-new-gt-MOST_TRANSFER_DISKS.false c.requires.0 c.requires.1
    (sym c.ne.ensures ∙ c.if-ne.false))
