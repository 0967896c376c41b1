-- The part of an input that is kept stands for the whole: the program prints the same for it.
use mathlib.Core.Path.{◌≡◌, refl, sym, ap, ap₂, ◌∙◌}
use mathlib.Core.Bool.{Bool, true, false, cond}
use mathlib.Core.List.{List}
use Prim.Native.Nat.{ℕ, ◌+◌, ◌-◌, ◌%◌, ◌≤◌, ◌<◌}
use native.Mathlib.Omega.{arith}
use borrow.Author.Tests.{le-leb, lt-leb}
use lib.Dec.{leb, eqb}
use lib.ListN.{length, take, length-take, length-drop}
use lib.Seq.{get_or-take, take-length}
use Rattle.refusal.specs.Verdict.{refused, unless}
use Rattle.placement.specs.Rack.{sizes_in_range, rack_accepted, most_records}
use Rattle.placement.specs.Records.{number32, record_count}
use Rattle.placement.specs.Planning.{Call}
use Rattle.placement.proofs.Conjunctions.{cond_true, cond_false}
use Rattle.placement.proofs.Tests.{by_test, by_order}
use Rattle.placement.proofs.Racks.{rack_accepted_lem}
use Rattle.placement.proofs.Chains.{rack_passes}
use Rattle.plan_text.specs.RefusalLine.{refusal_text}
use Rattle.plan_output.specs.Input.{head_bytes, sizes_in, call_in, most_kept, kept}
use Rattle.plan_output.specs.KeepPromise.{KeepPromise}
use Rattle.plan_output.specs.Output.{printed, printed_for, sized_output, output_of}
use Rattle.plan_output.proofs.Inputs.{sized_output_lem}

-- What is printed for a list of too many records: it depends on N, k and L and on its odd bytes alone.
abbrev shape_text : ℕ → List ℕ
shape_text odd = cond (eqb odd 0) (refusal_text 3 0) (refusal_text 2 0)

abbrev long_text : Bool → ℕ → List ℕ
long_text sizes odd = cond sizes (shape_text odd) (refusal_text 1 0)

long_printed : (c : Call) → rack_accepted c.rack ≡ true → most_records < record_count c.list → printed_for c ≡ shape_text (length c.list % 8)
long_printed c accepted more =
    ap (printed c) (rack_passes c.rack _ accepted)
    ∙ rw (lt-leb (record_count c.list) most_records more) (go (eqb (length c.list % 8) 0))
  where
    go : (whole : Bool) → printed c (unless whole 2 0 (refused 3 0)) ≡ cond whole (refusal_text 3 0) (refusal_text 2 0)
    go true = refl
    go false = refl

long_sized : (input : List ℕ) → most_records < record_count (call_in input).list → sized_output input ≡ long_text (sizes_in input) (length (call_in input).list % 8)
long_sized input more =
    by_test (sizes_in input)
    (λ inside.
    cond_true (sizes_in input) (printed_for (call_in input)) (refusal_text 1 0) inside
    ∙ long_printed (call_in input) (rack_accepted_lem (number32 input 0) (number32 input 4) (number32 input 8) ∙ inside) more
    ∙ sym (cond_true (sizes_in input) (shape_text (length (call_in input).list % 8)) (refusal_text 1 0) inside))
    (λ outside.
    cond_false (sizes_in input) (printed_for (call_in input)) (refusal_text 1 0) outside
    ∙ sym (cond_false (sizes_in input) (shape_text (length (call_in input).list % 8)) (refusal_text 1 0) outside))

-- A number of the head is in the kept part.
number32_take : (m i : ℕ) (input : List ℕ) → i + 3 < m → number32 (take m input) i ≡ number32 input i
number32_take m i input inside =
    omega (
      arith,
      get_or-take m input i 0 (omega arith),
      get_or-take m input (i + 1) 0 (omega arith),
      get_or-take m input (i + 2) 0 (omega arith),
      get_or-take m input (i + 3) 0 (omega arith),
    )

-- The kept length of a short input, and of a long one: more records than planning accepts, and as many odd bytes as the whole.
pub kept_short : (n : ℕ) → n ≤ most_kept → kept n ≡ n
kept_short n short = cond_true (leb n most_kept) n _ (le-leb n most_kept short)

kept_long : (n : ℕ) → most_kept < n → kept n ≡ 8212 + (n - head_bytes) % 8
kept_long n long = cond_false (leb n most_kept) n _ (lt-leb n most_kept long)

module _ (input : List ℕ) (long : most_kept < length input) where
  abbrev part : List ℕ
  part = take (kept (length input)) input

  part_length : length part ≡ 8212 + (length input - head_bytes) % 8
  part_length = omega (arith, length-take (kept (length input)) input, kept_long (length input) long)

  same_number : (i : ℕ) → i ≤ 8 → number32 part i ≡ number32 input i
  same_number i head = number32_take (kept (length input)) i input (omega (arith, kept_long (length input) long))

  same_sizes : sizes_in part ≡ sizes_in input
  same_sizes =
      ap₂ (λ (n k : ℕ). sizes_in_range n k (number32 part 8)) (same_number 0 (omega arith)) (same_number 4 (omega arith))
      ∙ ap (λ (l : ℕ). sizes_in_range (number32 input 0) (number32 input 4) l) (same_number 8 (omega arith))

  same_odd : length (call_in part).list % 8 ≡ length (call_in input).list % 8
  same_odd = omega (arith, length-drop head_bytes part, length-drop head_bytes input, part_length)

  same_output : output_of part ≡ output_of input
  same_output =
      sized_output_lem part (omega (arith, part_length))
      ∙ long_sized part (omega (arith, length-drop head_bytes part, part_length))
      ∙ ap₂ long_text same_sizes same_odd
      ∙ sym (long_sized input (omega (arith, length-drop head_bytes input)))
      ∙ sym (sized_output_lem input (omega arith))

-- The program prints for the kept part what it prints for the whole input.
pub kept_output : (input : List ℕ) → output_of (take (kept (length input)) input) ≡ output_of input
kept_output input =
    by_order most_kept (length input) (same_output input)
    (λ short. ap output_of (ap (λ (n : ℕ). take n input) (kept_short (length input) short) ∙ take-length input))

-- The kept length of what is kept and more bytes is that of the whole and those bytes.
pub kept_more : (n more : ℕ) → kept (kept n + more) ≡ kept (n + more)
kept_more n more =
    by_order most_kept n
    (λ long. by_order most_kept (kept n + more)
    (λ over. omega (arith, kept_long n long, kept_long (kept n + more) over, kept_long (n + more) (omega arith)))
    (λ under. omega (arith, kept_long n long, kept_short (kept n + more) under, kept_long (n + more) (omega arith))))
    (λ short. ap (λ (m : ℕ). kept (m + more)) (kept_short n short))

-- Never more than the most is kept.
pub kept_most : (n : ℕ) → kept n ≤ most_kept
kept_most n = by_order most_kept n (λ long. omega (arith, kept_long n long)) (λ short. omega (arith, kept_short n short))

-- The kept length of two parts that are long together, from their odd bytes.
pub kept_parts : (a b : ℕ) → most_kept < a + b → 8212 + (a % 8 + b % 8 + 4) % 8 ≡ kept (a + b)
kept_parts a b over = omega (arith, kept_long (a + b) over)

-- The kept length keeps its whole promise.
pub keep_promise : (before more answer : ℕ) → answer ≡ kept (before + more) → KeepPromise before more answer
keep_promise before more answer e = record {
  number = e;
  most = omega (arith, e, kept_most (before + more));
  counted = counted;
  stands = λ n part input whole. ap (λ (m : ℕ). output_of (take m input)) (counted n part ∙ ap kept (sym whole)) ∙ kept_output input;
}
  where
    counted : (n : ℕ) → before ≡ kept n → answer ≡ kept (n + more)
    counted n part = e ∙ ap (λ (m : ℕ). kept (m + more)) part ∙ kept_more n more
