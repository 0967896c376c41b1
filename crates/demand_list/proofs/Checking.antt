-- The pass over the records: what holds before record i, and what its tests lead to.
use mathlib.Core.Path.{◌≡◌, sym, ap, ◌∙◌}
use mathlib.Core.Bool.{Bool, true, false}
use mathlib.Core.List.{List}
use Prim.Native.Nat.{ℕ, suc, ◌+◌, ◌*◌, ◌/◌, ◌≤◌, ◌<◌}
use native.Mathlib.Numerals.{add-one}
use native.Mathlib.Omega.{arith}
use borrow.Author.Tests.{not-true, not-false, le-leb, lt-leb}
use lib.Dec.{leb}
use lib.ListN.{length, get_or, set, replicate, length-replicate, length-set}
use Rattle.placement.specs.Rack.{in_range, most_film, most_plan_film, most_demand}
use Rattle.refusal.specs.Verdict.{Verdict, given, refused}
use Rattle.placement.specs.Records.{number32, records_judged}
use Rattle.demand_list.proofs.Judging.{earlier, verdict_from, verdict_from_all, verdict_from_end, film_refused, clip_refused, demand_refused, film_repeated, record_passed}
use Rattle.demand_list.proofs.Seen.{Marks, marks_none, marks_record, marks_read}

-- The verdict on all records.
abbrev pub judged_records : List ℕ → Verdict (Unit {0})
judged_records list = records_judged list (given tt)

-- The records before i have no fault, and the table marks their films.
pub record Checked (list : List ℕ) (seen : List Bool) (i : ℕ) : Type 0 where
  pub within : i ≤ length list / 8
  pub verdict : judged_records list ≡ verdict_from list i
  pub marks : Marks seen (earlier list i)
  pub films : length seen ≡ 65536

-- So it is before the first record, with no film marked.
pub checked_none : (list : List ℕ) (seen : List Bool) → seen ≡ replicate 65536 false → Checked list seen 0
checked_none list seen e = record {
  within = omega arith;
  verdict = verdict_from_all list;
  marks = λ f. ap (λ (l : List Bool). get_or l f false) e ∙ marks_none 65536 f;
  films = ap (λ (l : List Bool). length l) e ∙ length-replicate 65536 false;
}

-- Past the last record nothing is refused.
pub checked_all : (list : List ℕ) (seen : List Bool) (i : ℕ) → Checked list seen i → length list / 8 ≤ i → given tt ≡ judged_records list
checked_all list seen i s h = sym (s.verdict ∙ verdict_from_end list i h)

-- Record i is read, with its film and its demand.
pub record Reading (list : List ℕ) (seen : List Bool) (i film demand : ℕ) : Type 0 where
  pub checked : Checked list seen i
  pub here : i < length list / 8
  pub film_is : film ≡ number32 list (8 * i)
  pub demand_is : demand ≡ number32 list (8 * i + 4)

-- The tests on what was read are those of the record.
module _ {list : List ℕ} {seen : List Bool} {i film demand : ℕ} (checked : Checked list seen i) (here : i < length list / 8)
    (film_is : film ≡ number32 list (8 * i)) (demand_is : demand ≡ number32 list (8 * i + 4)) where
  film_test : (b : Bool) → in_range most_plan_film film ≡ b → in_range most_plan_film (number32 list (8 * i)) ≡ b
  film_test b e = ap (λ (n : ℕ). in_range most_plan_film n) (sym film_is) ∙ e

  listed_test : (b : Bool) → leb film most_film ≡ b → leb (number32 list (8 * i)) most_film ≡ b
  listed_test b e = ap (λ (n : ℕ). leb n most_film) (sym film_is) ∙ e

  demand_test : (b : Bool) → leb demand most_demand ≡ b → leb (number32 list (8 * i + 4)) most_demand ≡ b
  demand_test b e = ap (λ (n : ℕ). leb n most_demand) (sym demand_is) ∙ e

  -- A refusal of record i is the refusal of the list.
  refuses : (number : ℕ) → verdict_from list i ≡ refused number (suc i) → refused number (i + 1) ≡ judged_records list
  refuses number e = ap (λ (n : ℕ). refused number n) (add-one i) ∙ sym (checked.verdict ∙ e)

  pub refuses_film : false ≡ in_range most_plan_film film → refused 4 (i + 1) ≡ judged_records list
  refuses_film e = refuses 4 (film_refused list i here (film_test false (sym e)))

  module _ (film_passed : true ≡ in_range most_plan_film film) where
    passed : in_range most_plan_film (number32 list (8 * i)) ≡ true
    passed = film_test true (sym film_passed)

    pub refuses_clip : most_film < film → refused 16 (i + 1) ≡ judged_records list
    refuses_clip h = refuses 16 (clip_refused list i here passed (listed_test false (lt-leb film most_film h)))

    module _ (film_listed : film ≤ most_film) where
      listed : leb (number32 list (8 * i)) most_film ≡ true
      listed = listed_test true (le-leb film most_film film_listed)

      pub refuses_demand : most_demand < demand → refused 5 (i + 1) ≡ judged_records list
      refuses_demand h = refuses 5 (demand_refused list i here passed listed (demand_test false (lt-leb demand most_demand h)))

      -- The film has a place in the table.
      pub film_placed : film < length seen
      film_placed = omega (arith, film_listed, checked.films)

      module _ (demand_passed : demand ≤ most_demand) where
        wanted : leb (number32 list (8 * i + 4)) most_demand ≡ true
        wanted = demand_test true (le-leb demand most_demand demand_passed)

        pub refuses_repeated : get_or seen film false ≡ true → refused 6 (i + 1) ≡ judged_records list
        refuses_repeated e =
            refuses 6
            (film_repeated list i here passed listed wanted (not-true _ (marks_read seen list i film true film_is checked.marks e)))

        -- A record without a fault is checked, with its film marked.
        pub checked_more : get_or seen film false ≡ false → Checked list (set seen film true) (i + 1)
        checked_more e = record {
          within = omega (arith, here);
          verdict = checked.verdict
              ∙ record_passed list i here passed listed wanted (not-false _ (marks_read seen list i film false film_is checked.marks e))
              ∙ ap (λ (k : ℕ). verdict_from list k) (sym (add-one i));
          marks = marks_record seen list i film film_is film_placed checked.marks;
          films = length-set seen film true ∙ checked.films;
        }
