-- Planning after an earlier plan for a rack of more than 64 disks is refused 12, so that its first 65 disks stand for it.
use mathlib.Core.Path.{◌≡◌, sym, ap, ◌∙◌}
use mathlib.Core.List.{List}
use Prim.Native.Nat.{ℕ}
use lib.ListN.{take}
use Rattle.refusal.specs.Verdict.{Verdict, followed_by, Numbers}
use Rattle.placement.specs.Rack.{Disk}
use Rattle.placement.specs.Tables.{Tables}
use Rattle.placement.specs.Plan.{Plan}
use Rattle.placement.specs.Planning.{Call, call, PlanSums}
use Rattle.placement.proofs.LongRacks.{long_refused, by_cut}
use Rattle.plan_text.specs.ReadCall.{text_verdict}
use Rattle.plan_after.specs.After.{verdict_after, answer_after, tables_given_after, planning_after, tables_after_earlier}
use Rattle.plan_after.specs.AfterPromise.{PlanAfterPromise}
use Rattle.plan_after.proofs.AfterPromise.{after_promise}

module _ (rack : List Disk) (list text : List ℕ) (t : Tables) where
  abbrev cut : Call
  cut = call (take 65 rack) list

  abbrev asked : Call
  asked = call rack list

  -- Both are refused alike where the rack is long.
  abbrev after : Verdict (Unit {0}) → Verdict Plan
  after v = followed_by v (text_verdict text)

  same_numbers : planning_after cut text t ≡ planning_after asked text t
  unfolding planning_after
  same_numbers =
      by_cut rack (λ e. ap (λ (r : List Disk). answer_after (call r list) (verdict_after (call r list) text t)) e)
      (λ long short. ap (λ (v : Verdict (Unit {0})). answer_after cut (after v)) (long_refused (take 65 rack) _ short)
      ∙ sym (ap (λ (v : Verdict (Unit {0})). answer_after asked (after v)) (long_refused rack _ long)))

  same_tables : tables_after_earlier cut text t ≡ tables_after_earlier asked text t
  unfolding tables_after_earlier
  same_tables =
      by_cut rack (λ e. ap (λ (r : List Disk). tables_given_after (call r list) t (verdict_after (call r list) text t)) e)
      (λ long short. ap (λ (v : Verdict (Unit {0})). tables_given_after cut t (after v)) (long_refused (take 65 rack) _ short)
      ∙ sym (ap (λ (v : Verdict (Unit {0})). tables_given_after asked t (after v)) (long_refused rack _ long)))

  -- So its promise for them is its promise for the rack.
  pub cut_after : {exit : Tables} {answer : Numbers PlanSums} → PlanAfterPromise cut text t exit answer → PlanAfterPromise asked text t exit answer
  cut_after promise = after_promise asked text t (promise.numbers ∙ same_numbers) (promise.tables ∙ same_tables)
