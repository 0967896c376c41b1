-- The promise of the whole output, from what was shown for a short input and for a call.
use mathlib.Core.Path.{◌≡◌, sym, ap, ap₂, subst, ◌∙◌}
use mathlib.Core.Bool.{true, false}
use mathlib.Core.List.{List}
use Prim.Native.Nat.{ℕ, ◌≤◌, ◌<◌}
use native.Mathlib.Omega.{arith}
use borrow.Author.Tests.{le-leb, lt-leb}
use lib.Dec.{leb}
use lib.ListN.{length, take, drop, length-append}
use lib.Seq.{take-append_seam}
use Rattle.placement.specs.Rack.{all_equal}
use Rattle.placement.specs.Records.{number32}
use Rattle.placement.specs.Tables.{written}
use Rattle.placement.specs.Planning.{Call}
use Rattle.placement.proofs.Conjunctions.{cond_true, cond_false}
use Rattle.placement.proofs.Tests.{by_order}
use Rattle.placement.proofs.Racks.{rack_equal}
use Rattle.plan_text.specs.RefusalLine.{refusal_text}
use Rattle.writer.specs.RefusalPromise.{RefusalPromise}
use Rattle.plan_output.specs.Input.{head_bytes, sizes_in, call_in}
use Rattle.plan_output.specs.Output.{printed_for, output_of}
use Rattle.plan_output.specs.OutputPromise.{OutputPromise, most_output}
use Rattle.writer.specs.Shown.{Shown}
use Rattle.plan_output.proofs.Inputs.{short_output, sizes_output, long_output}
use Rattle.plan_output.proofs.Small.{refusal_short, refusal_some, printed_short, printed_some}

module _ {text entry exit : List ℕ} {answer : ℕ} (shown : Shown text entry exit answer) where
  -- What is shown of an equal text.
  pub shown_as : {other : List ℕ} → text ≡ other → Shown other entry exit answer
  shown_as same = subst (λ (t : List ℕ). Shown t entry exit answer) same shown

  -- A text that fits stands at the front of the space, and the answer is its length.
  module _ (fits : length text ≤ length entry) where
    test : leb (length text) (length entry) ≡ true
    test = le-leb (length text) (length entry) fits

    shown_count : answer ≡ length text
    shown_count = shown.count ∙ cond_true _ _ _ test

    shown_bytes : exit ≡ written text entry
    shown_bytes = shown.bytes ∙ cond_true _ _ _ test

    shown_front : take answer exit ≡ text
    shown_front = ap₂ take shown_count shown_bytes ∙ take-append_seam text (drop (length text) entry)

  -- The answer never passes the space.
  shown_fits : answer ≤ length exit
  shown_fits =
      by_order (length entry) (length text)
      (λ short. let none : answer ≡ 0 = shown.count ∙ cond_false _ _ _ (lt-leb (length text) (length entry) short) in omega arith)
      (λ fits. omega (arith, shown_count fits, ap length (shown_bytes fits), length-append text (drop (length text) entry)))

-- The line of a refusal is shown by the promise of its writer.
pub refusal_shown :
    {n m number second : ℕ} {entry exit : List ℕ} {answer : ℕ} → n ≡ number → m ≡ second → RefusalPromise n m entry exit answer
    → Shown (refusal_text number second) entry exit answer
refusal_shown first last promise = shown_as promise (ap₂ refusal_text first last)

module _ {input entry exit : List ℕ} {answer : ℕ} where
  -- What is shown for an input keeps the promise.
  promised :
      length (output_of input) ≤ most_output → 1 ≤ length (output_of input) → Shown (output_of input) entry exit answer
      → OutputPromise input entry exit answer
  promised enough some shown = record {
    count = shown.count;
    bytes = shown.bytes;
    enough = enough;
    some = some;
    whole = λ room. shown_front shown (omega (arith, enough, room));
  }

  -- The refusal of a short input does.
  pub short_promise : length input < head_bytes → Shown (refusal_text 2 0) entry exit answer → OutputPromise input entry exit answer
  short_promise short shown =
      promised (omega (arith, refusal_short 2 0 (omega arith) (omega arith), ap length (short_output input short)))
      (omega (arith, refusal_some 2 0, ap length (short_output input short)))
      (shown_as shown (sym (short_output input short)))

  -- So does that of a longer one with N, k or L outside its range,
  pub sizes_promise :
      head_bytes ≤ length input → sizes_in input ≡ false → Shown (refusal_text 1 0) entry exit answer → OutputPromise input entry exit answer
  sizes_promise long outside shown =
      promised (omega (arith, refusal_short 1 0 (omega arith) (omega arith), ap length (sizes_output input long outside)))
      (omega (arith, refusal_some 1 0, ap length (sizes_output input long outside)))
      (shown_as shown (sym (sizes_output input long outside)))

  -- and what is shown for the call of any other.
  pub long_promise :
      {c : Call} → c ≡ call_in input → head_bytes ≤ length input → sizes_in input ≡ true → Shown (printed_for c) entry exit answer
      → OutputPromise input entry exit answer
  long_promise same long inside shown =
      promised (omega (arith, printed_short (call_in input) equal, ap length (long_output input long inside)))
      (omega (arith, printed_some (call_in input), ap length (long_output input long inside)))
      (shown_as shown (ap printed_for same ∙ sym (long_output input long inside)))
    where
      equal : all_equal (call_in input).rack ≡ true
      equal = rack_equal (number32 input 0) (number32 input 4) (number32 input 8)

  module _ (promise : OutputPromise input entry exit answer) where
    all : Shown (output_of input) entry exit answer
    all = record { count = promise.count; bytes = promise.bytes }

    -- The answer never passes the space.
    pub output_fits : answer ≤ length exit
    output_fits = shown_fits all

    -- In a space that is long enough the output stands at the front.
    pub output_front : most_output ≤ length entry → take (length (output_of input)) exit ≡ output_of input
    output_front room =
        ap (λ (n : ℕ). take n exit) (sym (shown_count all (omega (arith, promise.enough, room)))) ∙ promise.whole room
