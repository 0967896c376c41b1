-- The numbers of a refusal of planning are small, and so what is printed for a call is never long, nor empty.
use mathlib.Core.Path.{◌≡◌, refl}
use mathlib.Core.Bool.{Bool, true, false}
use mathlib.Core.List.{List, [], ◌∷◌}
use Prim.Native.Nat.{ℕ, zero, suc, ◌+◌, ◌%◌, ◌≤◌, ◌<◌}
use native.Mathlib.Omega.{arith}
use borrow.Author.Tests.{leb-true}
use lib.Dec.{leb, eqb}
use lib.ListN.{length, length-append}
use Rattle.refusal.specs.Verdict.{Verdict, given, refused, unless}
use Rattle.placement.specs.Items.{Item, occurrences}
use Rattle.placement.specs.Rack.{Disk, first_slots, first_load, in_range, disks_in_range, same_ratio, all_equal, most_disks, most_film, most_plan_film, most_demand, most_records}
use Rattle.placement.specs.Records.{record_count, records_judged_from}
use Rattle.placement.specs.Tables.{Tables, room_for, own_tables}
use Rattle.placement.specs.Plan.{Plan, served_of, unserved_of}
use Rattle.placement.specs.Planning.{Call, ratio_judged_from, verdict, layout_in, plan_in, records_in}
use Rattle.placement.proofs.Conjunctions.{both_true}
use Rattle.placement.proofs.Tests.{in_range_bounds}
use Rattle.placement.proofs.Records.{records_length}
use Rattle.placement.proofs.Calls.{call_well_formed}
use Rattle.plan_text.specs.Decimal.{decimal}
use Rattle.plan_text.specs.Text.{closed, line_feed, first_line, left_line, served_line, lines, disks_then, text_of}
use Rattle.plan_text.specs.RefusalLine.{refusal_end, refusal_line, refusal_text}
use Rattle.plan_text.proofs.Lengths.{length_5}
use Rattle.plan_text.proofs.Lengths.{without_marks_none}
use Rattle.plan_text.proofs.LongestText.{text_length_unmarked}
use Rattle.plan_output.specs.Output.{printed, printed_for}
use Rattle.plan_output.specs.OutputPromise.{most_output}

-- The number is 1 to 16, and the second number at most that of the last record.
abbrev pub Small : Verdict (Unit {0}) → Type 0
Small (given u) = Unit {0}
Small (refused number second) = (1 ≤ number) × (number ≤ 16) × (second ≤ most_records)

small_unless :
    (test : Bool) (number second : ℕ) (following : Verdict (Unit {0})) → 1 ≤ number → number ≤ 16 → second ≤ most_records
    → (test ≡ true → Small following) → Small (unless test number second following)
small_unless true number second following some few place rest = rest refl
small_unless false number second following some few place rest = (some, few, place)

small_records :
    (earlier : List Item) (position : ℕ) (xs : List Item) → position + length xs ≤ 1025
    → Small (records_judged_from earlier position xs (given tt))
small_records earlier position [] h = tt
small_records earlier position (x ∷ xs) h =
    small_unless (in_range most_plan_film x.film) 4 position _ (omega arith) (omega arith) (omega arith)
    (λ film. small_unless (leb x.film most_film) 16 position _ (omega arith) (omega arith) (omega arith)
    (λ listed. small_unless (leb x.amount most_demand) 5 position _ (omega arith) (omega arith) (omega arith)
    (λ demand. small_unless (eqb (occurrences x.film earlier) 0) 6 position _ (omega arith) (omega arith) (omega arith)
    (λ new. small_records (x ∷ earlier) (suc position) xs (omega arith)))))

small_ratios :
    (slots load position : ℕ) (ds : List Disk) (following : Verdict (Unit {0})) → position + length ds ≤ 1025 → Small following
    → Small (ratio_judged_from slots load position ds following)
small_ratios slots load position [] following h rest = rest
small_ratios slots load position (d ∷ ds) following h rest =
    small_unless (same_ratio slots load d) 13 position _ (omega arith) (omega arith) (omega arith)
    (λ same. small_ratios slots load (suc position) ds following (omega arith) rest)

-- Whatever planning refuses, its numbers are small.
pub small_verdict : (c : Call) (t : Tables) → Small (verdict c t)
small_verdict c t =
    small_unless (disks_in_range c.rack) 12 0 _ (omega arith) (omega arith) (omega arith)
    (λ ranges. small_ratios (first_slots c.rack) (first_load c.rack) 1 c.rack _
    (omega (arith, (in_range_bounds most_disks (length c.rack) (both_true (in_range most_disks (length c.rack)) _ ranges).0).1))
    (small_unless (eqb (length c.list % 8) 0) 2 0 _ (omega arith) (omega arith) (omega arith)
    (λ whole. small_unless (leb (record_count c.list) most_records) 3 0 _ (omega arith) (omega arith) (omega arith)
    (λ few. small_unless (room_for c.rack (record_count c.list) t) 7 0 _ (omega arith) (omega arith) (omega arith)
    (λ room. small_records [] 1 (records_in c)
    (omega (arith, records_length c.list, leb-true (record_count c.list) most_records few)))))))

-- The line of a refusal with small numbers has at most 22 bytes.
end_short : (second : ℕ) → second < 100000 → length (refusal_end second) ≤ 7
end_short zero near = omega arith
end_short (suc n) near = omega (arith, length-append (decimal (suc n)) (closed ∷ []), length_5 (suc n) near)

pub refusal_short : (number second : ℕ) → number < 100000 → second < 100000 → length (refusal_text number second) ≤ 22
unfolding refusal_text
refusal_short number second few near =
    omega (
      arith,
      length-append (refusal_line number second) (line_feed ∷ []),
      length-append (decimal number) (refusal_end second),
      length_5 number few,
      end_short second near,
    )

-- Neither a plan's text nor a refusal's is empty.
text_some : (p : Plan) → 1 ≤ length (text_of p)
unfolding text_of
text_some p = omega (arith, length-append (first_line p.rack) (line_feed ∷ lines (disks_then 1 p.copies (left_line p.left ∷ served_line (served_of p) (unserved_of p) ∷ []))))

pub refusal_some : (number second : ℕ) → 1 ≤ length (refusal_text number second)
unfolding refusal_text
refusal_some number second = omega arith

module _ (c : Call) where
  -- What is printed for a call of equal disks is never longer than the longest text of a well-formed plan of such disks without marks.
  pub printed_short : all_equal c.rack ≡ true → length (printed_for c) ≤ most_output
  printed_short equal = go (verdict c own_tables) refl (small_verdict c own_tables)
    where
      go : (v : Verdict (Unit {0})) → verdict c own_tables ≡ v → Small v → length (printed c v) ≤ most_output
      go (given u) e small =
          text_length_unmarked (plan_in c) (call_well_formed c own_tables e).plan (without_marks_none (layout_in c)) equal
      go (refused number second) e small = omega (arith, refusal_short number second (omega arith) (omega arith))

  pub printed_some : 1 ≤ length (printed_for c)
  printed_some = go (verdict c own_tables)
    where
      go : (v : Verdict (Unit {0})) → 1 ≤ length (printed c v)
      go (given u) = text_some (plan_in c)
      go (refused number second) = refusal_some number second
