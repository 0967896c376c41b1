-- What an answer of a run says: whether the end of the input was seen, and what a writer holds after a run that failed.
use Rattle.std.specs.Prelude.{ℕ, Bool, true, false, List, Option, Result, Ok, Err}
use Rattle.std.specs.Io.KnownBytes.{Keeps}
use Rattle.plan.specs.declared.failure.Failure.{Failure}
use Rattle.plan.specs.declared.failure.Failure.TheVariants.{Unread, Unwritten}
use Rattle.plan.specs.Writing.{AppendsPart}

-- Nothing more where the end of the input was not seen, and a beginning of the output where a write failed.
abbrev pub AfterFailure : Failure → Option (List ℕ) → Option (List ℕ) → List ℕ → Type 0
AfterFailure (Unread e) old new output = Keeps old new
AfterFailure (Unwritten e) old new output = AppendsPart old new output

-- Only a run that could not read on has not seen the end.
abbrev pub saw_end : {A : Type 0} → Result A Failure → Bool
saw_end (Ok a) = true
saw_end (Err (Unread e)) = false
saw_end (Err (Unwritten e)) = true
