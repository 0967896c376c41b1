-- The numbers of `write`'s answer: the text's length, or the refusal.
use Rattle.std.specs.Prelude.{ℕ, Result}
use Rattle.refusal.specs.Verdict.{Numbers}
use Rattle.refusal.specs.Numbers.{verdict_of}
use Rattle.refusal.specs.declared.Refusal.{Refusal}
use Rattle.plan_text.specs.WriteCall.{write_answer}

abbrev pub written_numbers : Result ℕ Refusal → Numbers ℕ
written_numbers w = write_answer (verdict_of w)
