-- What the program `plan` prints, as bytes, for every input.
use Rattle.std.specs.Prelude.{ℕ, cond, List, ltb, length}
use Rattle.refusal.specs.Verdict.{Verdict, given, refused}
use Rattle.placement.specs.Tables.{own_tables}
use Rattle.placement.specs.Planning.{Call, verdict, plan_in}
use Rattle.plan_text.specs.Text.{text_of}
use Rattle.plan_text.specs.RefusalLine.{refusal_text}
use Rattle.plan_output.specs.Input.{head_bytes, sizes_in, call_in}

-- The plan text of a plan, the refusal line of a refusal.
abbrev pub printed : Call → Verdict (Unit {0}) → List ℕ
printed c (given u) = text_of (plan_in c)
printed c (refused number second) = refusal_text number second

-- What is printed for a call. The program brings its own tables.
abbrev pub printed_for : Call → List ℕ
printed_for c = printed c (verdict c own_tables)

-- What is printed for an input with a whole head: `(refused 1)` where N, k or L is outside its range.
abbrev pub sized_output : List ℕ → List ℕ
sized_output input =
    let answer = printed_for (call_in input) in
    cond (sizes_in input) answer (refusal_text 1 0)

-- "Input shorter than 12 bytes prints `(refused 2)`."
unfoldable pub output_of : List ℕ → List ℕ
output_of input =
    let answer = sized_output input in
    cond (ltb (length input) head_bytes) (refusal_text 2 0) answer
