-- What it says of demand records that none of them has a fault, and the numbers of the list's refusals.
use mathlib.Core.Path.{◌≡◌, refl, ap}
use mathlib.Core.List.{List, [], ◌∷◌}
use Prim.Native.Nat.{ℕ, zero, suc, ◌+◌, ◌%◌, ◌≤◌}
use native.Mathlib.Omega.{arith}
use borrow.Author.Tests.{leb-true, eqb-true}
use lib.Dec.{leb, eqb}
use lib.ListN.{length}
use Rattle.refusal.specs.Verdict.{Verdict, given, unless}
use Rattle.refusal.proofs.Verdicts.{Numbered, unless_given, unless_numbered}
use Rattle.placement.specs.Items.{Item, occurrences}
use Rattle.placement.specs.Rack.{in_range, most_film, most_plan_film, most_demand, most_records}
use Rattle.placement.specs.Records.{records_from, record_count, records_of, shape_judged, record_judged, records_judged_from}
use Rattle.placement.specs.Promise.{Distinct}
use Rattle.placement.specs.WellFormed.{Each, Demanded, RecordsAccepted}
use Rattle.placement.proofs.Tests.{in_range_bounds}
use Rattle.placement.proofs.Films.{distinct_new}

-- n records from a place on are n.
records_from_length : (bytes : List ℕ) (i n : ℕ) → length (records_from bytes i n) ≡ n
records_from_length bytes i zero = refl
records_from_length bytes i (suc n) = ap suc (records_from_length bytes (suc i) n)

-- A list has a record for each eight bytes.
pub records_length : (bytes : List ℕ) → length (records_of bytes) ≡ record_count bytes
records_length bytes = records_from_length bytes 0 (record_count bytes)

module _ {A : Type 0} where
  -- A list whose shape leads to a value has at most 1,024 records, and what comes next gives the value.
  pub shape_given :
      (bytes : List ℕ) (following : Verdict A) (a : A) → shape_judged bytes following ≡ given a
      → (record_count bytes ≤ most_records) × (following ≡ given a)
  shape_given bytes following a e =
      let count = unless_given (leb (record_count bytes) most_records) 3 0 following a
      (unless_given (eqb (length bytes % 8) 0) 2 0 (unless (leb (record_count bytes) most_records) 3 0 following) a e).1 in
      (leb-true (record_count bytes) most_records count.0, count.1)

  -- A record that leads to a value is in range, its film is new, and what comes next gives the value.
  record_given :
      (earlier : List Item) (position : ℕ) (x : Item) (following : Verdict A) (a : A)
      → record_judged earlier position x following ≡ given a
      → Demanded x × (occurrences x.film earlier ≡ 0) × (following ≡ given a)
  record_given earlier position x following a e =
      let new = unless (eqb (occurrences x.film earlier) 0) 6 position following in
      let fits = unless (leb x.amount most_demand) 5 position new in
      let film = unless_given (in_range most_plan_film x.film) 4 position (unless (leb x.film most_film) 16 position fits) a e in
      let listed = unless_given (leb x.film most_film) 16 position fits a film.1 in
      let demand = unless_given (leb x.amount most_demand) 5 position new a listed.1 in
      let seen = unless_given (eqb (occurrences x.film earlier) 0) 6 position following a demand.1 in (
        record {
          film_least = (in_range_bounds most_plan_film x.film film.0).0;
          film_most = leb-true x.film most_film listed.0;
          amount_most = leb-true x.amount most_demand demand.0;
        },
        eqb-true (occurrences x.film earlier) 0 seen.0,
        seen.1,
      )

  module _ (following : Verdict A) (a : A) where
    -- Records that lead to a value are in range, no film of them stands in an earlier one, and what comes next gives the value.
    records_given :
        (earlier : List Item) (position : ℕ) (xs : List Item) → records_judged_from earlier position xs following ≡ given a
        → Distinct earlier
        → Each Demanded xs × ((f : ℕ) → occurrences f earlier + occurrences f xs ≤ 1) × (following ≡ given a)
    records_given earlier position [] e distinct = (tt, λ f. omega (arith, distinct f), e)
    records_given earlier position (x ∷ xs) e distinct =
        let here = record_given earlier position x (records_judged_from (x ∷ earlier) (suc position) xs following) a e in
        let later = records_given (x ∷ earlier) (suc position) xs here.2 (distinct_new x earlier here.1 distinct) in
        ((here.0, later.0), λ f. omega (arith, later.1 f), later.2)

    -- Records without a fault are distinct and in range.
    pub records_accepted :
        (records : List Item) → records_judged_from [] 1 records following ≡ given a → RecordsAccepted records
    records_accepted records e =
        let all = records_given [] 1 records e (λ f. omega arith) in
        record { distinct = λ f. omega (arith, all.1 f); demanded = all.0 }

  -- The list's refusals are numbered.
  pub shape_numbered : (bytes : List ℕ) (following : Verdict A) → Numbered following → Numbered (shape_judged bytes following)
  shape_numbered bytes following rest =
      unless_numbered (eqb (length bytes % 8) 0) 2 0 _ (omega arith)
      (unless_numbered (leb (record_count bytes) most_records) 3 0 following (omega arith) rest)

  pub records_numbered :
      (earlier : List Item) (position : ℕ) (xs : List Item) (following : Verdict A) → Numbered following
      → Numbered (records_judged_from earlier position xs following)
  records_numbered earlier position [] following rest = rest
  records_numbered earlier position (x ∷ xs) following rest =
      unless_numbered (in_range most_plan_film x.film) 4 position _ (omega arith)
      (unless_numbered (leb x.film most_film) 16 position _ (omega arith)
      (unless_numbered (leb x.amount most_demand) 5 position _ (omega arith)
      (unless_numbered (eqb (occurrences x.film earlier) 0) 6 position _ (omega arith)
      (records_numbered (x ∷ earlier) (suc position) xs following rest))))
