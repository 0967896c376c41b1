-- The proof of `keep`.
use Rattle.std.proofs.Common.{◌≡◌, ◌+◌, sym, ◌∙◌, arith}
use Rattle.plan_output.proofs.Kept.{kept_short, keep_promise}
use Rattle.plan_output.proofs.input.keep.Goals as goal

pub returns-in-Some : goal.returns-in-Some
returns-in-Some c =
    let whole : c.in-Some.whole ≡ c.args.before + c.args.more = omega (arith, c.in-Some.ensures) in
    keep_promise _ _ _ (whole ∙ sym (kept_short _ (omega (arith, whole))))

pub returns-in_default : goal.returns-in_default
returns-in_default c = keep_promise _ _ _ c.long.ensures
