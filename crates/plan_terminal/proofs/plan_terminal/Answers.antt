-- `plan_terminal::plan_terminal` keeps the terminal's whole promise.
use mathlib.Core.Path.{sym}
use Rattle.std.proofs.lemmas.Result.{err_from_is_err_and}
use Rattle.placement.specs.Packed.{disks_in}
use Rattle.placement.specs.Tables.{Tables, tables}
use Rattle.placement.specs.Planning.{Call, call}
use Rattle.plan_terminal.proofs.TerminalPromise.{size_passes, fits_promise, large_promise}
use Rattle.plan_terminal.proofs.plan_terminal.Goals as goal

pub returns-in_err-judge_size-clause-promise : goal.returns-in_err-judge_size-clause-promise
returns-in_err-judge_size-clause-promise c =
    let called : Call = (let a = c.args in call (disks_in a.rack.now) a.list.now) in
    let entry : Tables = (let a = c.args in tables a.copies.now a.counts.now a.left.now) in
    let p = err_from_is_err_and c.from_residual.result c.from_residual.ensures.1 in
    rw (p.1, p.2) (large_promise called entry _ c.in_err-judge_size.ensures)

pub returns-clause-promise : goal.returns-clause-promise
returns-clause-promise c =
    let called : Call = (let a = c.args in call (disks_in a.rack.now) a.list.now) in
    let entry : Tables = (let a = c.args in tables a.copies.now a.counts.now a.left.now) in
    fits_promise called entry (size_passes called entry c.in_ok-judge_size.ensures) c.plan.ensures.promise
