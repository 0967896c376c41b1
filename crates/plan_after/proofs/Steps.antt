-- The steps of planning after an earlier plan: the plan that is marked, and the earlier plan that was read.
use mathlib.Core.Path.{◌≡◌, refl, sym, ap, ap₂, subst, ◌∙◌}
use mathlib.Core.Bool.{Bool, true, false, cond}
use mathlib.Core.List.{List, [], ◌∷◌, ◌++◌}
use Prim.Native.Nat.{ℕ, ◌+◌, ◌≤◌}
use native.Mathlib.Omega.{arith}
use borrow.Author.Tests.{ne_eqb}
use lib.Dec.{eqb}
use lib.ListN.{length, drop}
use Rattle.refusal.specs.Verdict.{Verdict, given, refused, Numbers, afterwards}
use Rattle.refusal.proofs.Verdicts.{Numbered}
use Rattle.placement.specs.Items.{Item, occurrences}
use Rattle.placement.specs.Copies.{Copy, layout_of}
use Rattle.placement.specs.Rack.{Disk, most_disks}
use Rattle.placement.specs.Tables.{Tables, tables, own_tables, places, written}
use Rattle.placement.specs.Plan.{Plan, disk_accepted, disks_accepted, well_formed}
use Rattle.placement.specs.Planning.{Call, PlanSums, layout_in, plan_after, holding_for, holding_call, verdict, answer_for, tables_for}
use Rattle.placement.specs.PlanPromise.{PlanPromise}
use Rattle.placement.specs.WellFormed.{Each, Entry, CallWellFormed}
use Rattle.placement.proofs.Conjunctions.{both_true, false_true}
use Rattle.placement.proofs.Racks.{accepted_all_slots}
use Rattle.placement.proofs.Formed.{disk_entries, plan_rack, plan_disks}
use Rattle.placement.proofs.MarkedCopies.{marked_none}
use Rattle.placement.proofs.ReadBack.{places_length}
use Rattle.placement.proofs.Calls.{call_well_formed}
use Rattle.placement.proofs.PlanPromise.{verdict_numbered}
use Rattle.plan_text.specs.ReadCall.{Told, text_verdict}
use Rattle.reader.specs.Promise.{ReadPromise}
use Rattle.reader.proofs.OwnReading.{formed_read, rack_few, copies_read, unused_read}
use Rattle.plan_after.specs.Marking.{marked_places}
use Rattle.plan_after.specs.Held.{NoneUnused, HeldBefore}
use Rattle.plan_after.proofs.MarkedTables.{places_marked}
use Rattle.plan_after.proofs.WithoutMarks.{halves, layout_accepted, wide, lengths_same}
use Rattle.plan_after.proofs.AfterPromise.{planning_is, tables_are}

-- A call that is not refused, planned and then marked by what was held.
module _ (c : Call) (t : Tables) (e : verdict c t ≡ given tt) (earlier : List (List Item)) (films : Each NoneUnused earlier) where
  formed : CallWellFormed c
  formed = call_well_formed c t e

  -- Marking the copy table of the plan gives that of the marked plan.
  copies_marked :
      written (marked_places c.rack (holding_call c t).copies earlier) (holding_call c t).copies
      ≡ written (places c.rack (halves c t formed earlier)) t.copies
  copies_marked =
      ap (λ (l : List (List Item)). written (marked_places c.rack (written (places c.rack l) t.copies) earlier) (written (places c.rack l) t.copies))
      (marked_none (layout_in c))
      ∙ places_marked c.rack (layout_in c) earlier (drop (length (places c.rack (layout_in c))) t.copies) (layout_accepted c t formed earlier) films
      ∙ ap (λ (n : ℕ). places c.rack (halves c t formed earlier) ++ drop n t.copies)
      (places_length c.rack (layout_in c) (layout_accepted c t formed earlier) ∙ sym (wide c t formed earlier))

  -- Marking the tables of the plan leaves those of the marked plan.
  tables_marked :
      {exit : Tables} {copies : List ℕ} → exit ≡ holding_call c t → copies ≡ written (marked_places c.rack exit.copies earlier) exit.copies
      → tables copies exit.counts exit.left ≡ holding_for c (plan_after earlier c) t
  tables_marked {exit} {copies} same marks =
      ap₂ (λ (a : List ℕ) (x : Tables). tables a x.counts x.left)
      (marks ∙ ap (λ (x : Tables). written (marked_places c.rack x.copies earlier) x.copies) same ∙ copies_marked) same
      ∙ ap (λ (l : List ℕ). tables (written (places c.rack (halves c t formed earlier)) t.copies) (written l t.counts) (holding_call c t).left)
      (sym (lengths_same c t formed earlier))

-- Planning keeps its promise: it refuses, or marking leaves the marked plan.
module _ (c : Call) (t : Tables) {exit : Tables} {answer : Numbers PlanSums} (promise : PlanPromise c t exit answer) where
  numbers_are : (v : Verdict (Unit {0})) → verdict c t ≡ v → answer ≡ answer_for c v
  numbers_are v e = promise.numbers ∙ planning_is c t v e

  tables_by : (v : Verdict (Unit {0})) → verdict c t ≡ v → exit ≡ tables_for c t v
  tables_by v e = promise.tables ∙ tables_are c t v e

  pub planned_given : answer.refusal ≡ 0 → verdict c t ≡ given tt
  planned_given none = go (verdict c t) refl
    where
      go : (v : Verdict (Unit {0})) → verdict c t ≡ v → v ≡ given tt
      go (given u) e = refl
      go (refused n s) e =
          let some : 1 ≤ n = subst Numbered e (verdict_numbered c t) in
          let same : answer.refusal ≡ n = ap (λ (a : Numbers PlanSums). a.refusal) (numbers_are (refused n s) e) in
          absurd (omega arith)

  -- Tables that were not marked are those of a refusal.
  pub refused_plan :
      (earlier : List (List Item)) → 1 ≤ answer.refusal
      → (answer ≡ answer_for c (verdict c t)) × (exit ≡ afterwards t (λ u. holding_for c (plan_after earlier c) t) (verdict c t))
  refused_plan earlier some = (numbers_are (verdict c t) refl, go (verdict c t) refl)
    where
      go : (v : Verdict (Unit {0})) → verdict c t ≡ v → exit ≡ afterwards t (λ (u : Unit {0}). holding_for c (plan_after earlier c) t) v
      go (given u) e =
          let none : answer.refusal ≡ 0 = ap (λ (a : Numbers PlanSums). a.refusal) (numbers_are (given u) e) in
          absurd (omega (arith, some, none))
      go (refused n s) e = tables_by (refused n s) e

  -- Tables that were are those of the marked plan.
  pub marked_plan_lem :
      (earlier : List (List Item)) → Each NoneUnused earlier → answer.refusal ≡ 0
      → {copies : List ℕ} → copies ≡ written (marked_places c.rack exit.copies earlier) exit.copies
      → (answer ≡ answer_for c (verdict c t))
      × (tables copies exit.counts exit.left ≡ afterwards t (λ u. holding_for c (plan_after earlier c) t) (verdict c t))
  marked_plan_lem earlier films none {copies} marks =
      let e = planned_given none in (
        numbers_are (verdict c t) refl,
        tables_marked c t e earlier films (tables_by (given tt) e) marks
            ∙ ap (λ (v : Verdict (Unit {0})). afterwards t (λ (u : Unit {0}). holding_for c (plan_after earlier c) t) v) (sym e),
      )

-- The copies of accepted disks have no film 0.
entries_used : (most : ℕ) (xs : List Item) → Each (Entry most) xs → NoneUnused xs
entries_used most [] entries = refl
entries_used most (x ∷ xs) entries =
    let other : eqb 0 x.film ≡ false = ne_eqb 0 x.film (λ same. omega (arith, entries.0.film_least)) in
    ap (λ (b : Bool). cond b 1 0 + occurrences 0 xs) other ∙ (let rest : 0 + occurrences 0 xs ≡ 0 = omega (arith, entries_used most xs entries.1) in rest)

disks_used : (rack : List Disk) (layout : List (List Item)) → disks_accepted rack layout ≡ true → Each NoneUnused layout
disks_used [] [] e = tt
disks_used [] (xs ∷ layout) e = false_true e
disks_used (d ∷ ds) [] e = false_true e
disks_used (d ∷ ds) (xs ∷ layout) e =
    let both = both_true (disk_accepted d xs) (disks_accepted ds layout) e in
    (entries_used d.load xs (disk_entries d xs both.0), disks_used ds layout both.1)

-- An earlier text, read into a list of at least 64 disks and tables of zeros: marks may be set by its plan.
module _ (text : List ℕ) (lent : List Disk) (enough : most_disks ≤ length lent) {rack_exit : List Disk} {exit : Tables} {answer : Numbers Told}
    (promise : ReadPromise text lent own_tables rack_exit exit answer) (p : Plan) (e : text_verdict text ≡ given p) where
  pub held_before : length exit.copies ≡ 2048 → length exit.counts ≡ 64 → HeldBefore p.rack exit.copies exit.counts
  held_before copies counts = record {
    room = record {
      copy_places = omega (arith, copies, accepted_all_slots p.rack (plan_rack p formed));
      count_places = omega (arith, counts, rack_few text lent enough promise p e);
    };
    unused = unused_read text lent enough promise p e;
    films =
        subst (λ (l : List (List Copy)). Each NoneUnused (layout_of l)) (sym (copies_read text lent enough promise p e))
        (disks_used p.rack (layout_of p.copies) (plan_disks p formed));
  }
    where
      formed : well_formed p ≡ true
      formed = formed_read text lent enough promise p e
