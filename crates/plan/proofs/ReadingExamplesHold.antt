-- Examples of reads that keep the promises, and of reads that break one field of them.
use mathlib.Core.Path.{◌≡◌, refl, ap}
use mathlib.Core.List.{map}
use Prim.Native.Nat.{ℕ, zero, suc, ◌+◌}
use native.Mathlib.Omega.{arith}
use borrow.Author.Tests.{leb-true, leb-false}
use lib.Dec.{leb}
use lib.IntN.{pos, negsuc}
use Rattle.plan_output.specs.Input.{kept, most_kept}
use Rattle.plan_output.proofs.Kept.{kept_short, kept_parts, kept_most}
use Rattle.plan.specs.Answers.{goes_on, is_end, bytes_of}
use Rattle.plan.specs.AnswerExamples.{Reply, replies}
use Rattle.plan.specs.Reading.{OneRead, SpaceRead, Counted, Settled, ReadOn, InputRead}
use Rattle.plan.proofs.OneReads.{torn}
use Rattle.plan.proofs.WholeReads.{by_test}

-- Every answer says what is expected.
pub goes_hold : map (λ (r : Reply). goes_on r.answer) replies ≡ map (λ (r : Reply). r.goes) replies
goes_hold = refl

pub end_hold : map (λ (r : Reply). is_end r.answer) replies ≡ map (λ (r : Reply). r.end) replies
end_hold = refl

pub bytes_hold : map (λ (r : Reply). bytes_of r.answer) replies ≡ map (λ (r : Reply). r.bytes) replies
bytes_hold = refl

-- One read: 8 bytes behind 12, and one byte behind as many as are kept.
pub one_read : OneRead 8 12 20 (pos 8)
one_read = record { moved = omega arith; counted = refl }

pub one_beyond : OneRead 65536 8219 8212 (pos 1)
one_beyond = record { moved = omega arith; counted = refl }

pub one_too_large : ¬ OneRead 7 12 20 (pos 8)
one_too_large read = omega (arith, read.moved)

pub one_not_counted : ¬ OneRead 8 12 12 (pos 8)
one_not_counted read = omega (arith, read.counted)

-- At the end, and where a read fails, the count stays; -2 is no answer.
pub one_end_counted : ¬ OneRead 8 12 11 (pos 0)
one_end_counted read = omega (arith, read.counted)

pub one_failed_counted : ¬ OneRead 8 12 11 (negsuc 0)
one_failed_counted read = omega (arith, read.counted)

pub one_not_answered : ¬ OneRead 8 12 12 (negsuc 1)
one_not_answered read = omega (arith, read.moved)

-- A space of 12 bytes: full with more to come, short where the input ends or fails.
pub space_full : SpaceRead 12 12 (pos 4)
space_full = record { full = λ _. refl; short = λ over. torn refl over }

pub space_short : SpaceRead 12 11 (pos 0)
space_short = record { full = λ more. torn more refl; short = λ _. omega arith }

pub space_failed : SpaceRead 12 11 (negsuc 0)
space_failed = record { full = λ more. torn more refl; short = λ _. omega arith }

pub space_not_full : ¬ SpaceRead 12 11 (pos 4)
space_not_full read = omega (arith, read.full refl)

pub space_no_room : ¬ SpaceRead 12 12 (pos 0)
space_no_room read = omega (arith, read.short refl)

pub space_overfull : ¬ SpaceRead 12 13 (pos 4)
space_overfull read = omega (arith, read.full refl)

pub space_failed_full : ¬ SpaceRead 12 12 (negsuc 0)
space_failed_full read = omega (arith, read.short refl)

-- 8,219 bytes and 5 more have 8,216 for them. However many come, never 5.
pub counted_five : Counted 8219 8216
counted_five = record { more = 5; number = refl }

pub counted_not_five : ¬ Counted 8219 5
counted_not_five counted = go counted.more counted.number
  where
    go : (more : ℕ) → 5 ≡ kept (8219 + more) → ⊥
    go zero number = omega (arith, number)
    go (suc more) number = omega (arith, number, kept_parts 8219 (suc more) (omega arith))

pub counted_not_more : ¬ Counted 8219 8220
counted_not_more counted = omega (arith, counted.number, kept_most (8219 + counted.more))

pub counted_not_fewer : ¬ Counted 12 11
counted_not_fewer counted =
    let all = 12 + counted.more in
    by_test (leb all most_kept)
    (λ short. omega (arith, counted.number, kept_short all (leb-true all most_kept short)))
    (λ long. omega (arith, counted.number, kept_parts 12 counted.more (leb-false all most_kept long)))

-- Reading is over at the end, and without it only when no turn is left.
pub settled_end : Settled (pos 0) 7
settled_end more = torn more refl

pub settled_turns : Settled (pos 5) 0
settled_turns more = refl

pub settled_not : ¬ Settled (pos 5) 1
settled_not settled = omega (arith, settled refl)

-- The choice: 11 bytes that ended are all; 8,219 with more to come are not.
pub choice_all : ReadOn 11 11 (pos 0) (pos 0) 7
choice_all = record { all = λ _. (refl, refl); counted = λ more. torn more refl; settled = settled_end }

pub choice_counted : ReadOn 8219 8216 (pos 5) (pos 0) 7
choice_counted = record { all = λ over. torn refl over; counted = λ _. counted_five; settled = settled_end }

pub choice_not_all : ¬ ReadOn 11 12 (pos 0) (pos 0) 7
choice_not_all read = omega (arith, (read.all refl).0)

pub choice_other_end : ¬ ReadOn 11 11 (negsuc 0) (pos 0) 7
choice_other_end read = torn refl (ap is_end (read.all refl).1)

pub choice_not_counted : ¬ ReadOn 8219 5 (pos 5) (pos 0) 7
choice_not_counted read = counted_not_five (read.counted refl)

pub choice_not_over : ¬ ReadOn 8219 8219 (pos 5) (pos 5) 1
choice_not_over read = settled_not read.settled

-- An input that was read is kept in the space, and over.
pub input_read_whole : InputRead 8219 (pos 0) 7
input_read_whole = record { within = omega arith; settled = settled_end }

pub input_too_long : ¬ InputRead 8220 (pos 0) 7
input_too_long read = omega (arith, read.within)

pub input_not_over : ¬ InputRead 8219 (pos 5) 1
input_not_over read = settled_not read.settled
