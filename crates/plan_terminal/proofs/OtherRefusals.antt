-- Chains of refusals that never give one number: 17 in the office, and 7 on the terminal with tables of its own size.
use mathlib.Core.Path.{◌≡◌, refl, sym, subst}
use mathlib.Core.Bool.{Bool, true, false}
use mathlib.Core.List.{List, [], ◌∷◌}
use Prim.Native.Nat.{ℕ, suc, ◌*◌, ◌%◌, ◌≤◌}
use native.Mathlib.Omega.{arith}
use borrow.Author.Tests.{leb-true, le-leb}
use lib.Dec.{leb, eqb}
use lib.ListN.{length}
use Rattle.refusal.specs.Verdict.{Verdict, given, refused, unless}
use Rattle.refusal.proofs.Verdicts.{unless_passes}
use Rattle.placement.specs.Items.{Item, occurrences}
use Rattle.placement.specs.Rack.{Disk, first_slots, first_load, in_range, all_in_range, disks_in_range, same_ratio, most_disks, most_slots, most_records, most_film, most_plan_film, most_demand}
use Rattle.placement.specs.Records.{record_count, shape_judged, records_judged_from}
use Rattle.placement.specs.Tables.{Tables, room_for}
use Rattle.placement.specs.Planning.{Call, records_in, ratio_judged_from, rack_judged, verdict, planning, answer_for}
use Rattle.placement.proofs.Conjunctions.{both_true, and_holds}
use Rattle.placement.proofs.Racks.{range_slots}
use Rattle.plan_terminal.specs.Terminal.{terminal_disks, terminal_records, fits_terminal, terminal_verdict}

-- The verdict is not the refusal of a number.
abbrev pub Other : ℕ → Verdict (Unit {0}) → Type 0
Other m (given u) = Unit {0}
Other m (refused number second) = number ≡ m → ⊥

module _ (m : ℕ) where
  -- A chain whose numbers are others, behind each test that holds.
  other_unless :
      (test : Bool) (number second : ℕ) (following : Verdict (Unit {0})) → (number ≡ m → ⊥) → (test ≡ true → Other m following)
      → Other m (unless test number second following)
  other_unless true number second following differs rest = rest refl
  other_unless false number second following differs rest = differs

  other_ratios :
      (slots load position : ℕ) (ds : List Disk) (following : Verdict (Unit {0})) → (13 ≡ m → ⊥) → Other m following
      → Other m (ratio_judged_from slots load position ds following)
  other_ratios slots load position [] following differs rest = rest
  other_ratios slots load position (d ∷ ds) following differs rest =
      other_unless (same_ratio slots load d) 13 position _ differs (λ same. other_ratios slots load (suc position) ds following differs rest)

  other_rack :
      (rack : List Disk) (following : Verdict (Unit {0})) → (12 ≡ m → ⊥) → (13 ≡ m → ⊥) → (all_in_range rack ≡ true → Other m following)
      → Other m (rack_judged rack following)
  other_rack rack following twelve thirteen rest =
      other_unless (disks_in_range rack) 12 0 _ twelve
      (λ ranges. other_ratios (first_slots rack) (first_load rack) 1 rack following thirteen
      (rest (both_true (in_range most_disks (length rack)) (all_in_range rack) ranges).1))

  other_shape :
      (bytes : List ℕ) (following : Verdict (Unit {0})) → (2 ≡ m → ⊥) → (3 ≡ m → ⊥) → Other m following → Other m (shape_judged bytes following)
  other_shape bytes following two three rest =
      other_unless (eqb (length bytes % 8) 0) 2 0 _ two
      (λ whole. other_unless (leb (record_count bytes) most_records) 3 0 following three (λ few. rest))

  module _ (four : 4 ≡ m → ⊥) (sixteen : 16 ≡ m → ⊥) (five : 5 ≡ m → ⊥) (six : 6 ≡ m → ⊥) where
    other_records : (earlier : List Item) (position : ℕ) (xs : List Item) → Other m (records_judged_from earlier position xs (given tt))
    other_records earlier position [] = tt
    other_records earlier position (x ∷ xs) =
        other_unless (in_range most_plan_film x.film) 4 position _ four
        (λ film. other_unless (leb x.film most_film) 16 position _ sixteen
        (λ listed. other_unless (leb x.amount most_demand) 5 position _ five
        (λ demand. other_unless (eqb (occurrences x.film earlier) 0) 6 position _ six
        (λ new. other_records (x ∷ earlier) (suc position) xs))))

-- A refusal that a verdict is not is not its answer's.
other_answer : (m : ℕ) (c : Call) (v : Verdict (Unit {0})) → 1 ≤ m → Other m v → (answer_for c v).refusal ≡ m → ⊥
other_answer m c (given u) some other e = omega (arith, some, e)
other_answer m c (refused number second) some other e = other e

module _ (c : Call) (t : Tables) where
  -- "17, only on the terminal."
  pub office_other : Other 17 (verdict c t)
  office_other =
      other_rack 17 c.rack _ (λ e. omega arith) (λ e. omega arith)
      (λ ranges. other_shape 17 c.list _ (λ e. omega arith) (λ e. omega arith)
      (other_unless 17 (room_for c.rack (record_count c.list) t) 7 0 _ (λ e. omega arith)
      (λ room. other_records 17 (λ e. omega arith) (λ e. omega arith) (λ e. omega arith) (λ e. omega arith) [] 1 (records_in c))))

  pub office_never : (planning c t).refusal ≡ 17 → ⊥
  unfolding planning
  office_never = other_answer 17 c (verdict c t) (omega arith) office_other

  module _
      (copies : terminal_disks * most_slots ≤ length t.copies) (counts : terminal_disks ≤ length t.counts) (left : terminal_records ≤ length t.left)
    where
      -- Tables of the terminal's size have room for what fits.
      fits_room : all_in_range c.rack ≡ true → fits_terminal c ≡ true → room_for c.rack (record_count c.list) t ≡ true
      fits_room ranges fits =
          let both = both_true (leb (length c.rack) terminal_disks) (leb (record_count c.list) terminal_records) fits in
          let disks = leb-true (length c.rack) terminal_disks both.0 in
          and_holds _ _ (le-leb _ (length t.copies) (omega (arith, range_slots c.rack ranges, disks, copies)))
          (and_holds _ _ (le-leb (length c.rack) (length t.counts) (omega (arith, disks, counts)))
          (le-leb (record_count c.list) (length t.left) (omega (arith, leb-true (record_count c.list) terminal_records both.1, left))))

      -- So 7 is never given.
      pub terminal_enough : Other 7 (terminal_verdict c t)
      terminal_enough =
          other_rack 7 c.rack _ (λ e. omega arith) (λ e. omega arith)
          (λ ranges. other_shape 7 c.list _ (λ e. omega arith) (λ e. omega arith)
          (other_unless 7 (fits_terminal c) 17 0 _ (λ e. omega arith)
          (λ fits. subst (Other 7) (sym (unless_passes (room_for c.rack (record_count c.list) t) 7 0 _ (fits_room ranges fits)))
          (other_records 7 (λ e. omega arith) (λ e. omega arith) (λ e. omega arith) (λ e. omega arith) [] 1 (records_in c)))))
