-- Chains of refusals: each is its own tests, then what comes next.
use mathlib.Core.Path.{◌≡◌, refl, ◌∙◌}
use mathlib.Core.Bool.{Bool, true, false}
use mathlib.Core.List.{List, [], ◌∷◌}
use Prim.Native.Nat.{ℕ, suc, ◌%◌}
use native.Mathlib.Omega.{arith}
use lib.Dec.{leb, eqb}
use lib.ListN.{length}
use Rattle.refusal.specs.Verdict.{Verdict, given, unless}
use Rattle.refusal.proofs.Verdicts.{Numbered, and_then, unless_then, unless_passes, unless_given, unless_numbered}
use Rattle.placement.specs.Rack.{Disk, first_slots, first_load, disks_in_range, same_ratio, all_same_ratio, rack_accepted, most_records}
use Rattle.placement.specs.Records.{record_count, shape_judged}
use Rattle.placement.specs.Planning.{ratio_judged_from, rack_judged}
use Rattle.placement.proofs.Conjunctions.{both_true, and_holds}

-- Two tests one after the other, then what comes next.
two_then :
    {A : Type 0} (first second : Bool) (number next : ℕ) (following : Verdict A)
    → unless first number 0 (unless second next 0 following)
    ≡ and_then (unless first number 0 (unless second next 0 (given tt))) following
two_then true second number next following = unless_then second next 0 following
two_then false second number next following = refl

-- The shape of a list, then what comes next.
pub shape_then :
    {A : Type 0} (bytes : List ℕ) (following : Verdict A)
    → shape_judged bytes following ≡ and_then (shape_judged bytes (given tt)) following
shape_then bytes following = two_then (eqb (length bytes % 8) 0) (leb (record_count bytes) most_records) 2 3 following

-- The ratios of disks, then what comes next.
ratio_then :
    {A : Type 0} (slots load position : ℕ) (ds : List Disk) (following : Verdict A)
    → ratio_judged_from slots load position ds following ≡ and_then (ratio_judged_from slots load position ds (given tt)) following
ratio_then slots load position [] following = refl
ratio_then slots load position (d ∷ ds) following = go (same_ratio slots load d) (ratio_then slots load (suc position) ds following)
  where
    go : (b : Bool)
        → ratio_judged_from slots load (suc position) ds following ≡ and_then (ratio_judged_from slots load (suc position) ds (given tt)) following
        → unless b 13 position (ratio_judged_from slots load (suc position) ds following)
        ≡ and_then (unless b 13 position (ratio_judged_from slots load (suc position) ds (given tt))) following
    go true e = e
    go false e = refl

-- The rack, then what comes next.
pub rack_then : {A : Type 0} (rack : List Disk) (following : Verdict A) → rack_judged rack following ≡ and_then (rack_judged rack (given tt)) following
rack_then rack following = go (disks_in_range rack)
  where
    go : (b : Bool)
        → unless b 12 0 (ratio_judged_from (first_slots rack) (first_load rack) 1 rack following)
        ≡ and_then (unless b 12 0 (ratio_judged_from (first_slots rack) (first_load rack) 1 rack (given tt))) following
    go true = ratio_then (first_slots rack) (first_load rack) 1 rack following
    go false = refl

module _ {A : Type 0} where
  -- Disks whose ratios lead to a value are of one ratio, and what comes next gives the value.
  ratio_given :
      (slots load position : ℕ) (ds : List Disk) (following : Verdict A) (a : A) → ratio_judged_from slots load position ds following ≡ given a
      → (all_same_ratio slots load ds ≡ true) × (following ≡ given a)
  ratio_given slots load position [] following a e = (refl, e)
  ratio_given slots load position (d ∷ ds) following a e =
      let here = unless_given (same_ratio slots load d) 13 position (ratio_judged_from slots load (suc position) ds following) a e in
      let later = ratio_given slots load (suc position) ds following a here.1 in
      (and_holds (same_ratio slots load d) _ here.0 later.0, later.1)

  -- A rack that leads to a value is accepted.
  pub rack_given_lem :
      (rack : List Disk) (following : Verdict A) (a : A) → rack_judged rack following ≡ given a → (rack_accepted rack ≡ true) × (following ≡ given a)
  rack_given_lem rack following a e =
      let ranges = unless_given (disks_in_range rack) 12 0 (ratio_judged_from (first_slots rack) (first_load rack) 1 rack following) a e in
      let ratios = ratio_given (first_slots rack) (first_load rack) 1 rack following a ranges.1 in
      (and_holds (disks_in_range rack) _ ranges.0 ratios.0, ratios.1)

  -- Its refusals are numbered.
  ratio_numbered :
      (slots load position : ℕ) (ds : List Disk) (following : Verdict A) → Numbered following
      → Numbered (ratio_judged_from slots load position ds following)
  ratio_numbered slots load position [] following rest = rest
  ratio_numbered slots load position (d ∷ ds) following rest =
      unless_numbered (same_ratio slots load d) 13 position _ (omega arith) (ratio_numbered slots load (suc position) ds following rest)

  pub rack_numbered : (rack : List Disk) (following : Verdict A) → Numbered following → Numbered (rack_judged rack following)
  rack_numbered rack following rest =
      unless_numbered (disks_in_range rack) 12 0 _ (omega arith) (ratio_numbered (first_slots rack) (first_load rack) 1 rack following rest)

-- An accepted rack leads to what comes next.
ratio_passes :
    {A : Type 0} (slots load position : ℕ) (ds : List Disk) (following : Verdict A) → all_same_ratio slots load ds ≡ true
    → ratio_judged_from slots load position ds following ≡ following
ratio_passes slots load position [] following e = refl
ratio_passes slots load position (d ∷ ds) following e =
    let both = both_true (same_ratio slots load d) (all_same_ratio slots load ds) e in
    unless_passes (same_ratio slots load d) 13 position (ratio_judged_from slots load (suc position) ds following) both.0
    ∙ ratio_passes slots load (suc position) ds following both.1

pub rack_passes : {A : Type 0} (rack : List Disk) (following : Verdict A) → rack_accepted rack ≡ true → rack_judged rack following ≡ following
rack_passes rack following e =
    let both = both_true (disks_in_range rack) (all_same_ratio (first_slots rack) (first_load rack) rack) e in
    unless_passes (disks_in_range rack) 12 0 (ratio_judged_from (first_slots rack) (first_load rack) 1 rack following) both.0
    ∙ ratio_passes (first_slots rack) (first_load rack) 1 rack following both.1
