-- `reader::first::mixed_accepted` meets its contract: the rack is refused, or its disks are compared.
use Rattle.std.specs.Prelude.{◌≡◌, true, false, Result, Ok, Err, is_err}
use mathlib.Core.Path.{refl, sym, ◌∙◌}
use Rattle.refusal.specs.Verdict.{given, refused}
use Rattle.refusal.specs.Numbers.{verdict_of}
use Rattle.refusal.specs.declared.Refusal.{Refusal}
use Rattle.refusal.proofs.Verdicts.{and_then}
use Rattle.placement.proofs.Conjunctions.{false_true}
use Rattle.reader.proofs.FirstLines.{mixed_refused, mixed_passed}
use Rattle.reader.proofs.first.mixed_accepted.Goals as goal

settles : (j : Result (Unit {0}) Refusal) → is_err j ≡ true → verdict_of j ≡ and_then (verdict_of j) (refused 7 0)
settles (Ok u) e = false_true e
settles (Err r) e = refl

passes : (j : Result (Unit {0}) Refusal) → is_err j ≡ false → verdict_of j ≡ given tt
passes (Ok u) e = refl
passes (Err r) e = false_true (sym e)

pub returns-then-is_err : goal.returns-then-is_err
returns-then-is_err c =
    let j = c.judge_rack in mixed_refused c.args.rack.now (verdict_of j.result) j.ensures (settles j.result (sym c.is_err.ensures.value ∙ c.if-is_err.true))

pub returns : goal.returns
returns c =
    let j = c.judge_rack in
    mixed_passed c.args.rack.now (verdict_of j.result) j.ensures (passes j.result (sym c.is_err.ensures.value ∙ c.if-is_err.false)) c.all_equal.result
    c.all_equal.ensures
