-- What an answer's variant says of its verdict.
use mathlib.Core.Path.{◌≡◌, refl}
use Rattle.std.specs.Prelude.{Result, Ok, Err, IsOk, IsErr}
use Rattle.std.proofs.lemmas.Bool.{false≢true}
use Rattle.refusal.specs.Verdict.{Verdict, given}
use Rattle.refusal.specs.Numbers.{verdict_of}
use Rattle.refusal.specs.declared.Refusal.{Refusal}
use Rattle.refusal.proofs.Verdicts.{and_then}

-- An answer that is no refusal refuses nothing.
pub passes : (j : Result (Unit {0}) Refusal) → IsOk j → verdict_of j ≡ given tt
passes (Ok u) ok = refl
passes (Err r) ok = absurd (false≢true ok)

-- A refusal settles the verdict, whatever would come next.
pub refuses : (j : Result (Unit {0}) Refusal) (following : Verdict (Unit {0})) → IsErr j → verdict_of j ≡ and_then (verdict_of j) following
refuses (Ok u) following err = absurd (false≢true err)
refuses (Err r) following err = refl
