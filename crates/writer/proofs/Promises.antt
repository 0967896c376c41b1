-- The whole promise of `write` follows from the verdict on the call.
use Rattle.std.proofs.Common.{◌≡◌, ℕ, ◌≤◌, true, List, ◌++◌, length, take, drop, sym, refl, ap, ◌∙◌, arith}
use lib.Seq.{take-append_seam, drop-append_seam}
use Rattle.refusal.specs.Verdict.{Verdict, given, refused, Numbers}
use Rattle.placement.proofs.Tests.{by_test, by_order}
use Rattle.plan_text.specs.WriteCall.{WriteCall, plan_of, room_stated, well_formed_call, write_verdict, write_answer, space_given, writing, space_after}
use Rattle.writer.specs.WritePromise.{WritePromise, text_held}
use Rattle.writer.proofs.Calls.{formed_plan}
use Rattle.writer.proofs.Verdicts.{by_rack, refused_rack, refused_ratio, refused_other, refused_tables, refused_plan, refused_space, given_text}

-- What follows whether a call is refused or its text is written.
by_end :
    {P : Type 0} (c : WriteCall) (room : List ℕ)
    → ((number second : ℕ) → 1 ≤ number → ((number ≡ 13 → ⊥) → second ≡ 0) → write_verdict c room ≡ refused number second → P)
    → (well_formed_call c ≡ true → write_verdict c room ≡ given (length (text_held c)) → P)
    → P
by_end c room refusal text =
    by_rack c room
    (λ rack.
    by_test (room_stated c)
    (λ stated.
    by_test (well_formed_call c)
    (λ formed.
    by_order (length room) (length (text_held c))
    (λ short. refusal 11 0 (omega arith) (λ other. refl) (refused_space c room rack stated formed short))
    (λ fits. text formed (given_text c room rack stated formed fits)))
    (λ formed. refusal 10 0 (omega arith) (λ other. refl) (refused_plan c room rack stated formed)))
    (λ stated. refusal 7 0 (omega arith) (λ other. refl) (refused_tables c room rack stated)))
    refusal

-- The answer and the bytes of a verdict.
definition_answers : (c : WriteCall) (room : List ℕ) (v : Verdict ℕ) → write_verdict c room ≡ v → writing c room ≡ write_answer v
unfolding writing
definition_answers c room v e = ap write_answer e

definition_leaves : (c : WriteCall) (room : List ℕ) (v : Verdict ℕ) → write_verdict c room ≡ v → space_after c room ≡ space_given c room v
unfolding space_after
definition_leaves c room v e = ap (space_given c room) e

module _ (c : WriteCall) (room exit : List ℕ) (answer : Numbers ℕ) (same : answer ≡ writing c room) (left : exit ≡ space_after c room) where
  -- They are those of this call.
  answers : {v : Verdict ℕ} → write_verdict c room ≡ v → answer ≡ write_answer v
  answers {v} e = same ∙ definition_answers c room v e

  leaves : {v : Verdict ℕ} → write_verdict c room ≡ v → exit ≡ space_given c room v
  leaves {v} e = left ∙ definition_leaves c room v e

  -- The numbers of the answer are those of the verdict.
  refusal_of : {v : Verdict ℕ} → write_verdict c room ≡ v → answer.refusal ≡ (write_answer v).refusal
  refusal_of e = ap (λ (n : Numbers ℕ). n.refusal) (answers e)

  second_of : {v : Verdict ℕ} → write_verdict c room ≡ v → answer.second ≡ (write_answer v).second
  second_of e = ap (λ (n : Numbers ℕ). n.second) (answers e)

  length_of : {v : Verdict ℕ} → write_verdict c room ≡ v → answer.values ≡ (write_answer v).values
  length_of e = ap (λ (n : Numbers ℕ). n.values) (answers e)

  -- Writing has a second number only with 13.
  second_zero : (answer.refusal ≡ 13 → ⊥) → answer.second ≡ 0
  second_zero other =
      by_end c room (λ number second some zero e. second_of e ∙ zero (λ same. other (refusal_of e ∙ same))) (λ formed e. second_of e)

  -- A refusal has no length and changes no byte.
  module _ (some : 1 ≤ answer.refusal) where
    length_zero : answer.values ≡ 0
    length_zero = by_end c room (λ number second more zero e. length_of e) (λ formed e. absurd (omega (arith, refusal_of e)))

    byte_kept : exit ≡ room
    byte_kept = by_end c room (λ number second more zero e. leaves e) (λ formed e. absurd (omega (arith, refusal_of e)))

  module _ (none : answer.refusal ≡ 0) where
    -- Without refusal the tables hold a well-formed plan.
    plan_formed : well_formed_call c ≡ true
    plan_formed = by_end c room (λ number second some zero e. absurd (omega (arith, refusal_of e))) (λ formed e. formed)

    -- The answer is the length of the text.
    text_counted : answer.values ≡ length (text_held c)
    text_counted = by_end c room (λ number second some zero e. absurd (omega (arith, refusal_of e))) (λ formed e. length_of e)

    -- The space is the text, then what stood behind it.
    text_stored : exit ≡ text_held c ++ drop (length (text_held c)) room
    text_stored = by_end c room (λ number second some zero e. absurd (omega (arith, refusal_of e))) (λ formed e. leaves e)

    -- The first bytes are the text.
    text_first : take answer.values exit ≡ text_held c
    text_first =
        ap (λ (n : ℕ). take n exit) text_counted
        ∙ ap (take (length (text_held c))) text_stored
        ∙ take-append_seam (text_held c) (drop (length (text_held c)) room)

    -- The bytes after the text are untouched.
    after_kept : drop answer.values exit ≡ drop answer.values room
    after_kept =
        ap (λ (n : ℕ). drop n exit) text_counted
        ∙ ap (drop (length (text_held c))) text_stored
        ∙ drop-append_seam (text_held c) (drop (length (text_held c)) room)
        ∙ sym (ap (λ (n : ℕ). drop n room) text_counted)

  -- The whole promise.
  promise : WritePromise c room exit answer
  promise = record {
    numbers = same;
    bytes = left;
    refuses_rack = λ ranges. refusal_of (refused_rack c room ranges);
    refuses_ratio = λ ranges d other. (refusal_of (refused_ratio c room ranges d other), second_of (refused_ratio c room ranges d other));
    refuses_other = λ ranges unaccepted. refused_other c room ranges unaccepted (λ second e. refusal_of e);
    refuses_tables = λ rack stated. refusal_of (refused_tables c room rack stated);
    refuses_plan = λ rack stated formed. refusal_of (refused_plan c room rack stated formed);
    refuses_space = λ rack stated formed short. refusal_of (refused_space c room rack stated formed short);
    writes = λ rack stated formed fits. refusal_of (given_text c room rack stated formed fits);
    no_second = second_zero;
    no_length = length_zero;
    no_byte = byte_kept;
    formed = plan_formed;
    text_length = text_counted;
    text = text_first;
    accepted = λ none. record { plan = plan_of c; formed = formed_plan c (plan_formed none); same = sym (text_first none) };
    after = after_kept;
  }

-- At each end of a call: an answer and bytes that are those of its verdict have the promise.
pub promise_at :
    {c : WriteCall} {room exit : List ℕ} {answer : Numbers ℕ} {v : Verdict ℕ} → write_verdict c room ≡ v → answer ≡ write_answer v
    → exit ≡ space_given c room v → WritePromise c room exit answer
promise_at {c} {room} {exit} {answer} {v} e same left =
    promise c room exit answer (same ∙ sym (definition_answers c room v e)) (left ∙ sym (definition_leaves c room v e))
