-- Planning's promise follows from its definition: an answer and tables that are the definition's have demand 3.
use mathlib.Core.Path.{◌≡◌, refl, sym, ap, subst, ◌∙◌}
use mathlib.Core.List.{List, []}
use Prim.Native.Nat.{ℕ, ◌≤◌}
use native.Mathlib.Omega.{arith}
use lib.ListN.{length}
use Rattle.refusal.specs.Verdict.{Verdict, given, refused, Numbers}
use Rattle.refusal.proofs.Verdicts.{Numbered, unless_numbered}
use Rattle.placement.specs.Items.{Item, amount_of, total, amount_for, list_of}
use Rattle.placement.specs.Copies.{layout_of}
use Rattle.placement.specs.Rack.{least_slots}
use Rattle.placement.specs.Method.{served, unserved}
use Rattle.placement.specs.FillingOrder.{filling}
use Rattle.placement.specs.Shelf.{shelf_films}
use Rattle.placement.specs.Records.{record_count}
use Rattle.placement.specs.Tables.{Tables, room_for}
use Rattle.placement.specs.Held.{copies_held, left_held, plan_held}
use Rattle.placement.specs.Plan.{Plan}
use Rattle.placement.specs.Planning.{Call, PlanSums, planning, tables_after, answer_for, tables_for, holding_call, verdict, records_in, placed_in, layout_in, left_in, plan_in}
use Rattle.placement.specs.Promise.{Distinct, Demand3}
use Rattle.placement.specs.ShelfPromise.{ShelfPromise}
use Rattle.placement.specs.WellFormed.{CallWellFormed}
use Rattle.placement.specs.PlanPromise.{PlanPromise}
use Rattle.placement.proofs.Chains.{rack_numbered}
use Rattle.placement.proofs.Each.{each_both}
use Rattle.placement.proofs.ByFilm.{sum_by_by_film}
use Rattle.placement.proofs.Films.{Usable}
use Rattle.placement.proofs.Demand3.{demand3_accepted}
use Rattle.placement.proofs.Shelving.{Unwanted}
use Rattle.placement.proofs.ShelfFilms.{shelf_unwanted, shelf_demand}
use Rattle.placement.proofs.ShelfSharing.{demand3_shelved}
use Rattle.placement.proofs.WellFormed.{accepted_usable}
use Rattle.placement.proofs.ShelfPlan.{left_total}
use Rattle.placement.proofs.ShelfPromise.{shelf_promise}
use Rattle.placement.proofs.Records.{shape_numbered, records_numbered}
use Rattle.placement.proofs.Calls.{call_well_formed}
use Rattle.placement.proofs.MarkedCopies.{marked_layout}
use Rattle.placement.proofs.ReadBack.{padded_held}

-- Planning's refusals are numbered.
pub verdict_numbered : (c : Call) (t : Tables) → Numbered (verdict c t)
verdict_numbered c t =
    rack_numbered c.rack _
    (shape_numbered c.list _
    (unless_numbered (room_for c.rack (record_count c.list) t) 7 0 _ (omega arith)
    (records_numbered [] 1 (records_in c) (given tt) tt)))

-- What the promise says beyond the two equations.
abbrev Kept : Call → Tables → Tables → Numbers PlanSums → Type 0
Kept c entry exit answer =
    (1 ≤ answer.refusal → exit ≡ entry)
    × (answer.refusal ≡ 0
    → Demand3 (least_slots c.rack) c.rack (records_in c) (layout_of (copies_held c.rack exit)) answer.values.served
    answer.values.unserved)
    × (answer.refusal ≡ 0 → total (left_held answer.values.left exit) ≡ answer.values.unserved)
    × (answer.refusal ≡ 0
    → ShelfPromise c.rack (records_in c) (layout_of (copies_held c.rack exit)) (left_held answer.values.left exit))

-- Demand 3 of an accepted call's plan, its shelf copies included.
demand3_plan :
    (c : Call) → CallWellFormed c
    → Demand3 (least_slots c.rack) c.rack (records_in c) (layout_in c) (served (layout_in c))
    (unserved (filling c.rack) (list_of (records_in c)))
demand3_plan c formed =
    subst
    (λ (s : ℕ). Demand3 (least_slots c.rack) c.rack (records_in c) (layout_in c) s (unserved (filling c.rack) (list_of (records_in c))))
    (sym promised.own_serves) promised
  where
    distinct : Distinct (records_in c)
    distinct = formed.accepted.distinct

    promised :
        Demand3 (least_slots c.rack) c.rack (records_in c) (layout_in c) (served (placed_in c))
        (unserved (filling c.rack) (list_of (records_in c)))
    promised =
        demand3_shelved (shelf_films (records_in c)) (placed_in c)
        (each_both Unwanted (λ x. amount_for x.film (records_in c) ≡ 0) (shelf_films (records_in c)) (shelf_unwanted (records_in c))
        (shelf_demand (records_in c) distinct))
        (demand3_accepted c.rack (records_in c) formed.rack distinct)

-- It follows from the verdict: a refusal keeps the tables, and a plan that is read back has demand 3.
kept_verdict : (c : Call) (t : Tables) (v : Verdict (Unit {0})) → verdict c t ≡ v → Kept c t (tables_for c t v) (answer_for c v)
kept_verdict c t (given u) e = (
  λ h. absurd (omega arith),
  λ h. subst
      (λ (layout : List (List Item)). Demand3 (least_slots c.rack) c.rack (records_in c) layout (served (layout_in c))
      (unserved (filling c.rack) (list_of (records_in c)))) (sym laid) (demand3_plan c formed),
  λ h. ap (λ (p : Plan). total p.left) held ∙ sum_by_by_film amount_of (left_in c) ∙ left_total c.rack (records_in c) usable formed.accepted,
  λ h. subst (λ (layout : List (List Item)). ShelfPromise c.rack (records_in c) layout (left_held (length (plan_in c).left) (holding_call c t)))
      (sym laid)
      (subst (λ (p : Plan). ShelfPromise c.rack (records_in c) (layout_in c) p.left) (sym held)
      (shelf_promise c.rack (records_in c) usable formed.accepted)),
)
  where
    formed : CallWellFormed c
    formed = call_well_formed c t e

    usable : Usable (filling c.rack)
    usable = accepted_usable c.rack formed.rack

    held : plan_held c.rack (holding_call c t) (length (plan_in c).left) ≡ plan_in c
    held = padded_held (plan_in c) formed.plan (record_count c.list) t

    laid : layout_of (copies_held c.rack (holding_call c t)) ≡ layout_in c
    laid = ap (λ (p : Plan). layout_of p.copies) held ∙ marked_layout [] (layout_in c)
kept_verdict c t (refused number second) e =
    let some : 1 ≤ number = subst Numbered e (verdict_numbered c t) in
    (λ h. refl, λ h. absurd (omega (arith, some)), λ h. absurd (omega (arith, some)), λ h. absurd (omega (arith, some)))

kept_definition : (c : Call) (t : Tables) → Kept c t (tables_after c t) (planning c t)
unfolding planning tables_after
kept_definition c t = kept_verdict c t (verdict c t) refl

-- An answer and tables that are the definition's keep planning's whole promise.
pub plan_promise :
    (c : Call) (entry exit : Tables) (answer : Numbers PlanSums) → answer ≡ planning c entry → exit ≡ tables_after c entry
    → PlanPromise c entry exit answer
plan_promise c entry exit answer numbers tables = record {
  numbers = numbers;
  tables = tables;
  unchanged = kept.0;
  demand3 = kept.1;
  left = kept.2;
  shelf = kept.3;
}
  where
    kept : Kept c entry exit answer
    kept =
        subst (λ (a : Numbers PlanSums). Kept c entry exit a) (sym numbers)
        (subst (λ (t : Tables). Kept c entry t (planning c entry)) (sym tables) (kept_definition c entry))
