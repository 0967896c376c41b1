-- The line of a refusal as its runs, its length, and what storing it comes to.
use Rattle.std.proofs.Common.{◌≡◌, ℕ, zero, suc, ◌^◌, ◌<◌, ◌≤◌, List, [], ◌∷◌, ◌++◌, length, sym, refl, ap, ◌∙◌, append_assoc, arith, length-append, le-leb}
use borrow.Author.Tests.{lt-leb}
use Rattle.placement.proofs.Conjunctions.{cond_true, cond_false}
use Rattle.plan_text.specs.Ascii.{ascii}
use Rattle.plan_text.specs.Decimal.{decimal}
use Rattle.plan_text.specs.Text.{space, closed, line_feed}
use Rattle.plan_text.specs.RefusalLine.{refusal_end, refusal_text}
use Rattle.plan_text.proofs.Lengths.{length_10}
use Rattle.writer.specs.Space.{Put}
use Rattle.writer.specs.RefusalPromise.{RefusalPromise}
use Rattle.writer.proofs.Spaces.{put_first}

-- Without a second number there is the closing bracket alone.
pub end_none : (second : ℕ) → second ≡ 0 → (closed ∷ []) ≡ refusal_end second
end_none zero e = refl
end_none (suc n) e = absurd (omega arith)

-- A second number stands between a space and the bracket.
pub end_some : (second : ℕ) → (second ≡ 0 → ⊥) → (space ∷ []) ++ (decimal second ++ (closed ∷ [])) ≡ refusal_end second
end_some zero some = absurd (some refl)
end_some (suc n) some = refl

-- What follows the number has at most 12 bytes.
end_short : (second : ℕ) → second < 2 ^ 32 → length (refusal_end second) ≤ 12
end_short zero few = omega arith
end_short (suc n) few = omega (arith, length-append (decimal (suc n)) (closed ∷ []), length_10 (suc n) (omega (arith, few)))

-- The line is a word, a number, its end and a line feed.
pub refusal_runs :
    (number second : ℕ) → ascii "(refused " ++ (decimal number ++ (refusal_end second ++ (line_feed ∷ []))) ≡ refusal_text number second
unfolding refusal_text
refusal_runs number second = simp append_assoc

-- The line of numbers of 32 bits is short.
pub refusal_few : (number second : ℕ) → number < 2 ^ 32 → second < 2 ^ 32 → length (refusal_text number second) < 2 ^ 64
refusal_few number second few few' =
    omega (
      arith,
      sym (ap length (refusal_runs number second)),
      length-append (decimal number) (refusal_end second ++ (line_feed ∷ [])),
      length-append (refusal_end second) (line_feed ∷ []),
      length_10 number (omega (arith, few)),
      end_short second few',
    )

module _ (number second : ℕ) (entry : List ℕ) where
  -- A space that is too short keeps its bytes.
  pub refusal_short : length entry < length (refusal_text number second) → RefusalPromise number second entry entry 0
  refusal_short short =
      let tested = lt-leb (length (refusal_text number second)) (length entry) short in
      record { count = sym (cond_false _ _ _ tested); bytes = sym (cond_false _ _ _ tested) }

  -- The line is stored in one that is long enough.
  pub refusal_written :
      {stored exit : List ℕ} {next count : ℕ} → length (refusal_text number second) < 2 ^ 64 → length (refusal_text number second) ≤ length entry
      → Put 0 (refusal_text number second) entry stored next → exit ≡ stored → count ≡ length (refusal_text number second)
      → RefusalPromise number second entry exit count
  refusal_written few room put same counted =
      let tested = le-leb (length (refusal_text number second)) (length entry) room in
      record { count = counted ∙ sym (cond_true _ _ _ tested); bytes = put_first put few room same ∙ sym (cond_true _ _ _ tested) }
