-- A call that is not refused has its places, and the steps of planning give its plan.
use mathlib.Core.Path.{◌≡◌, sym, ap, ap₂, ◌∙◌, subst}
use mathlib.Core.Bool.{true, ◌&&◌}
use mathlib.Core.List.{List, map}
use Prim.Native.Nat.{ℕ, ◌≤◌, ◌<◌}
use native.Mathlib.Omega.{arith}
use borrow.Author.Tests.{leb-true}
use lib.Dec.{leb}
use lib.ListN.{length}
use Rattle.refusal.specs.Verdict.{given, answered}
use Rattle.placement.specs.Items.{Item, total, amount_of, list_of, by_film}
use Rattle.placement.specs.Rack.{all_slots}
use Rattle.placement.specs.Records.{record_count}
use Rattle.placement.specs.Method.{served, unserved}
use Rattle.placement.specs.FillingOrder.{filling}
use Rattle.placement.specs.Shelf.{shelf_films}
use Rattle.placement.specs.Tables.{Tables, tables, entry_of, padded, written, places}
use Rattle.placement.specs.Planning.{Call, sums, sums_in, records_in, placed_in, layout_in, left_in, verdict, holding_call}
use Rattle.placement.specs.Promise.{Distinct}
use Rattle.placement.specs.WellFormed.{CallWellFormed}
use Rattle.placement.proofs.Conjunctions.{both_true}
use Rattle.placement.proofs.Sums.{length_sum, one}
use Rattle.placement.proofs.Films.{Usable}
use Rattle.placement.proofs.Records.{records_length}
use Rattle.placement.proofs.ByFilm.{sum_by_by_film, by_film_length}
use Rattle.placement.proofs.WellFormed.{accepted_usable}
use Rattle.placement.proofs.ShelfFilms.{shelf_sum, shelf_unwanted}
use Rattle.placement.proofs.ShelfSharing.{shelved_served}
use Rattle.placement.proofs.ShelfPlan.{left_distinct, left_total}
use Rattle.placement.proofs.MarkedCopies.{marked_none}
use Rattle.placement.proofs.Calls.{call_judged, call_well_formed}
use Rattle.planner.specs.Plannable.{Plannable}

-- A call that is not refused can be planned.
pub plannable : (c : Call) (t : Tables) → verdict c t ≡ given tt → Plannable c t
plannable c t e = record {
  formed = call_well_formed c t e;
  copies = leb-true (all_slots c.rack) (length t.copies) outer.0;
  counts = leb-true (length c.rack) (length t.counts) inner.0;
  left = leb-true (record_count c.list) (length t.left) inner.1;
}
  where
    outer : (leb (all_slots c.rack) (length t.copies) ≡ true) × ((leb (length c.rack) (length t.counts) && leb (record_count c.list) (length t.left)) ≡ true)
    outer = both_true (leb (all_slots c.rack) (length t.copies)) _ (call_judged c t e).2

    inner : (leb (length c.rack) (length t.counts) ≡ true) × (leb (record_count c.list) (length t.left) ≡ true)
    inner = both_true (leb (length c.rack) (length t.counts)) _ outer.1

-- Tables with the same three lists are the same.
tables_same : {c c' n n' l l' : List ℕ} → c ≡ c' → n ≡ n' → l ≡ l' → tables c n l ≡ tables c' n' l'
tables_same {c} {c'} {n} {n'} {l} {l'} p q r =
    ap₂ (λ (x y : List ℕ). tables x y l) p q ∙ ap (λ (x : List ℕ). tables c' n' x) r

-- The numbers of a call that is not refused, and what is left of it.
module _ (c : Call) (formed : CallWellFormed c) where
  usable : Usable (filling c.rack)
  usable = accepted_usable c.rack formed.rack

  -- There are no more films of demand 0 than records.
  pub films_few : length (shelf_films (records_in c)) ≤ record_count c.list
  films_few =
      omega (
        arith,
        length_sum (shelf_films (records_in c)),
        shelf_sum (records_in c) one,
        length_sum (records_in c),
        records_length c.list,
      )

  module _ {last : List Item} (left_are : last ≡ left_in c) where
    -- What is left fits 32 bits in sum,
    pub left_small : total last < 4294967296
    left_small = omega (arith, formed.unserved_most, sum_by_by_film amount_of (left_in c), ap total left_are)

    -- its films are distinct,
    pub left_films_lem : Distinct last
    left_films_lem = subst Distinct (sym left_are) (left_distinct c.rack (records_in c) usable formed.accepted)

    -- and no more than the records.
    pub left_count : length last ≤ record_count c.list
    left_count = omega (arith, formed.left_most, by_film_length (left_in c), ap length left_are)

    -- Tables that hold the steps' results hold the plan of the call.
    pub steps_tables :
        (exit t : Tables) → exit.copies ≡ written (places c.rack (layout_in c)) t.copies
        → exit.counts ≡ written (map length (layout_in c)) t.counts
        → exit.left ≡ written (padded (record_count c.list) (map entry_of (by_film last))) t.left
        → exit ≡ holding_call c t
    steps_tables exit t copies counts left =
        tables_same
        (copies ∙ ap (λ (l : List (List Item)). written (places c.rack l) t.copies) (sym (marked_none (layout_in c))))
        (counts ∙ ap (λ (l : List (List Item)). written (map length l) t.counts) (sym (marked_none (layout_in c))))
        (left ∙ ap (λ (l : List Item). written (padded (record_count c.list) (map entry_of (by_film l))) t.left) left_are)

    -- The steps' numbers are the numbers of the plan.
    pub steps_numbers :
        {s u n : ℕ} → s ≡ served (placed_in c) → u ≡ total last → n ≡ length last → sums s u n ≡ sums_in c
    steps_numbers {s} {u} {n} serves lacks count =
        ap₂ (λ (a b : ℕ). sums a b n)
        (serves ∙ sym (shelved_served c.rack (shelf_films (records_in c)) (placed_in c) (shelf_unwanted (records_in c))))
        (lacks ∙ ap total left_are ∙ left_total c.rack (records_in c) usable formed.accepted)
        ∙ ap (λ (m : ℕ). sums (served (layout_in c)) (unserved (filling c.rack) (list_of (records_in c))) m)
        (count ∙ ap length left_are ∙ sym (by_film_length (left_in c)))
