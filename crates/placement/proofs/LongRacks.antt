-- A rack of more than 64 disks is refused 12 whatever else is asked, so that its first 65 disks stand for it.
use mathlib.Core.Path.{◌≡◌, refl, sym, ap, ◌∙◌}
use mathlib.Core.Bool.{Bool, true, false, ◌&&◌}
use mathlib.Core.List.{List}
use Prim.Native.Nat.{ℕ, ◌<◌}
use native.Mathlib.Omega.{arith}
use borrow.Author.Tests.{lt-leb}
use lib.Dec.{leb}
use lib.ListN.{length, take, length-take}
use lib.Seq.{take_all}
use Rattle.refusal.specs.Verdict.{Verdict, refused, Numbers}
use Rattle.refusal.proofs.Verdicts.{unless_refuses}
use Rattle.placement.specs.Rack.{Disk, first_slots, first_load, most_disks, all_in_range, disks_in_range}
use Rattle.placement.specs.Tables.{Tables}
use Rattle.placement.specs.Planning.{Call, call, PlanSums, ratio_judged_from, rack_judged, verdict, answer_for, tables_for, planning, tables_after}
use Rattle.placement.specs.PlanPromise.{PlanPromise}
use Rattle.placement.proofs.Tests.{by_order}
use Rattle.placement.proofs.PlanPromise.{plan_promise}

-- More than 64 disks are refused 12.
pub long_refused : {A : Type 0} (rack : List Disk) (following : Verdict A) → most_disks < length rack → rack_judged rack following ≡ refused 12 0
long_refused rack following many =
    unless_refuses (disks_in_range rack) 12 0 (ratio_judged_from (first_slots rack) (first_load rack) 1 rack following)
    (ap (λ (b : Bool). b && all_in_range rack) (ap (λ (b : Bool). leb 1 (length rack) && b) (lt-leb (length rack) most_disks many) ∙ never (leb 1 (length rack))))
  where
    never : (b : Bool) → (b && false) ≡ false
    never true = refl
    never false = refl

-- The first 65 disks of a rack are all of it, or more than 64 as it is.
pub by_cut : {P : Type 0} (rack : List Disk) → (take 65 rack ≡ rack → P) → (most_disks < length rack → most_disks < length (take 65 rack) → P) → P
by_cut rack whole long =
    by_order 65 (length rack) (λ h. long (omega arith) (omega (arith, length-take 65 rack))) (λ h. whole (take_all 65 rack h))

module _ (rack : List Disk) (list : List ℕ) (t : Tables) where
  abbrev cut : Call
  cut = call (take 65 rack) list

  abbrev asked : Call
  asked = call rack list

  -- Planning answers the same for them,
  pub cut_planning : planning cut t ≡ planning asked t
  unfolding planning
  cut_planning =
      by_cut rack (λ e. ap (λ (r : List Disk). answer_for (call r list) (verdict (call r list) t)) e)
      (λ long short. ap (answer_for cut) (long_refused (take 65 rack) _ short) ∙ sym (ap (answer_for asked) (long_refused rack _ long)))

  -- and leaves the same tables,
  pub cut_tables : tables_after cut t ≡ tables_after asked t
  unfolding tables_after
  cut_tables =
      by_cut rack (λ e. ap (λ (r : List Disk). tables_for (call r list) t (verdict (call r list) t)) e)
      (λ long short. ap (tables_for cut t) (long_refused (take 65 rack) _ short) ∙ sym (ap (tables_for asked t) (long_refused rack _ long)))

  -- so that its promise for them is its promise for the rack.
  pub cut_promise : {exit : Tables} {answer : Numbers PlanSums} → PlanPromise cut t exit answer → PlanPromise asked t exit answer
  cut_promise {exit} {answer} promise =
      plan_promise asked t exit answer (promise.numbers ∙ cut_planning) (promise.tables ∙ cut_tables)
