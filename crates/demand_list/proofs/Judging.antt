-- The verdict on the records, one record at a time.
use mathlib.Core.Path.{◌≡◌, refl, ap, ◌∙◌}
use mathlib.Core.Bool.{Bool, true, false}
use mathlib.Core.List.{List, [], ◌∷◌}
use Prim.Native.Nat.{ℕ, zero, suc, ◌+◌, ◌*◌, ◌-◌, ◌/◌, ◌≤◌, ◌<◌}
use native.Mathlib.Omega.{arith}
use lib.Dec.{leb, eqb}
use lib.ListN.{length}
use Rattle.placement.specs.Items.{Item, occurrences}
use Rattle.placement.specs.Rack.{in_range, most_film, most_plan_film, most_demand}
use Rattle.refusal.specs.Verdict.{Verdict, given, refused, unless}
use Rattle.placement.specs.Records.{number32, record_at, records_from, record_judged, records_judged_from, records_judged}

-- The records before record i, last one first.
abbrev pub earlier : List ℕ → ℕ → List Item
earlier bytes zero = []
earlier bytes (suc i) = record_at bytes i ∷ earlier bytes i

-- The verdict on the records from i on.
abbrev pub verdict_from : List ℕ → ℕ → Verdict (Unit {0})
verdict_from bytes i = records_judged_from (earlier bytes i) (suc i) (records_from bytes i (length bytes / 8 - i)) (given tt)

-- From 0 on, it is the verdict on all records.
pub verdict_from_all : (bytes : List ℕ) → records_judged bytes (given tt) ≡ verdict_from bytes 0
verdict_from_all bytes = ap (λ (n : ℕ). records_judged_from [] 1 (records_from bytes 0 n) (given tt)) all
  where
    all : length bytes / 8 ≡ length bytes / 8 - 0
    all = omega arith

-- Past the last record nothing is refused.
pub verdict_from_end : (bytes : List ℕ) (i : ℕ) → length bytes / 8 ≤ i → verdict_from bytes i ≡ given tt
verdict_from_end bytes i h =
    ap (λ (n : ℕ). records_judged_from (earlier bytes i) (suc i) (records_from bytes i n) (given tt)) over
  where
    over : length bytes / 8 - i ≡ 0
    over = omega arith

module _ (bytes : List ℕ) (i : ℕ) (here : i < length bytes / 8) where
  -- The tests of record i, then those of the records behind it.
  verdict_from_step :
      verdict_from bytes i ≡ record_judged (earlier bytes i) (suc i) (record_at bytes i) (verdict_from bytes (suc i))
  verdict_from_step = ap (λ (n : ℕ). records_judged_from (earlier bytes i) (suc i) (records_from bytes i n) (given tt)) more
    where
      more : length bytes / 8 - i ≡ suc (length bytes / 8 - suc i)
      more = omega arith

  -- The verdict by the four tests of record i.
  by_tests : Bool → Bool → Bool → Bool → Verdict (Unit {0})
  by_tests film listed demand new =
      unless film 4 (suc i)
      (unless listed 16 (suc i) (unless demand 5 (suc i) (unless new 6 (suc i) (verdict_from bytes (suc i)))))

  verdict_from_tests :
      (film listed demand new : Bool) → in_range most_plan_film (number32 bytes (8 * i)) ≡ film
      → leb (number32 bytes (8 * i)) most_film ≡ listed → leb (number32 bytes (8 * i + 4)) most_demand ≡ demand
      → eqb (occurrences (number32 bytes (8 * i)) (earlier bytes i)) 0 ≡ new → verdict_from bytes i ≡ by_tests film listed demand new
  unfolding by_tests
  verdict_from_tests film listed demand new e f g h =
      verdict_from_step
      ∙ ap (λ (b : Bool). by_tests b (leb (number32 bytes (8 * i)) most_film) (leb (number32 bytes (8 * i + 4)) most_demand) (eqb (occurrences (number32 bytes (8 * i)) (earlier bytes i)) 0)) e
      ∙ ap (λ (b : Bool). by_tests film b (leb (number32 bytes (8 * i + 4)) most_demand) (eqb (occurrences (number32 bytes (8 * i)) (earlier bytes i)) 0)) f
      ∙ ap (λ (b : Bool). by_tests film listed b (eqb (occurrences (number32 bytes (8 * i)) (earlier bytes i)) 0)) g
      ∙ ap (λ (b : Bool). by_tests film listed demand b) h

  -- A film number out of range is refused.
  pub film_refused : in_range most_plan_film (number32 bytes (8 * i)) ≡ false → verdict_from bytes i ≡ refused 4 (suc i)
  unfolding by_tests
  film_refused e = verdict_from_tests false _ _ _ e refl refl refl

  -- A service clip is refused.
  pub clip_refused :
      in_range most_plan_film (number32 bytes (8 * i)) ≡ true → leb (number32 bytes (8 * i)) most_film ≡ false
      → verdict_from bytes i ≡ refused 16 (suc i)
  unfolding by_tests
  clip_refused film e = verdict_from_tests true false _ _ film e refl refl

  module _ (film : in_range most_plan_film (number32 bytes (8 * i)) ≡ true) (listed : leb (number32 bytes (8 * i)) most_film ≡ true) where
    -- A demand out of range is refused.
    pub demand_refused : leb (number32 bytes (8 * i + 4)) most_demand ≡ false → verdict_from bytes i ≡ refused 5 (suc i)
    unfolding by_tests
    demand_refused e = verdict_from_tests true true false _ film listed e refl

    module _ (demand : leb (number32 bytes (8 * i + 4)) most_demand ≡ true) where
      -- A film that was seen is refused.
      pub film_repeated :
          eqb (occurrences (number32 bytes (8 * i)) (earlier bytes i)) 0 ≡ false → verdict_from bytes i ≡ refused 6 (suc i)
      unfolding by_tests
      film_repeated e = verdict_from_tests true true true false film listed demand e

      -- A record without a fault leaves the verdict to those behind it.
      pub record_passed :
          eqb (occurrences (number32 bytes (8 * i)) (earlier bytes i)) 0 ≡ true → verdict_from bytes i ≡ verdict_from bytes (suc i)
      unfolding by_tests
      record_passed e = verdict_from_tests true true true true film listed demand e
