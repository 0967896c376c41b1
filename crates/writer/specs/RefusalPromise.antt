-- What the writer of a refusal's line promises, for every space.
use Rattle.std.specs.Prelude.{ℕ, List}
use Rattle.plan_text.specs.RefusalLine.{refusal_text}
use Rattle.writer.specs.Shown.{Shown}

-- The line goes to the front of the space and the answer is its length. A space that is too short keeps its bytes, and the
-- answer is 0; the line itself is never empty.
abbrev pub RefusalPromise : (number second : ℕ) (entry exit : List ℕ) (answer : ℕ) → Type 0
RefusalPromise number second entry exit answer = Shown (refusal_text number second) entry exit answer
