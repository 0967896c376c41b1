-- What the function from input to output promises, for every input and every space.
use Rattle.std.specs.Prelude.{ℕ, ◌≤◌, ◌≡◌, cond, List, leb, length, take}
use Rattle.placement.specs.Tables.{written}
use Rattle.plan_output.specs.Output.{output_of}

-- No output is longer than the longest text of a well-formed plan of equal disks.
abbrev pub most_output : ℕ
most_output = 43885

-- The output goes to the front of the space and the answer is its length. A space that is too short keeps its bytes, and
-- the answer is 0.
pub record OutputPromise (input entry exit : List ℕ) (answer : ℕ) : Type 0 where
  pub count : answer ≡ cond (leb (length (output_of input)) (length entry)) (length (output_of input)) 0
  pub bytes : exit ≡ cond (leb (length (output_of input)) (length entry)) (written (output_of input) entry) entry
  -- this much space is always enough
  pub enough : length (output_of input) ≤ most_output
  -- the output is never empty, so an answer of 0 says that the space was too short
  pub some : 1 ≤ length (output_of input)
  -- in a space of that much the first bytes are the output
  pub whole : most_output ≤ length entry → take answer exit ≡ output_of input
