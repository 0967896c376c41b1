-- `reader::read` meets its contract: the text is refused, what is lent is too short, or the plan is stored.
use Rattle.std.proofs.Common.{rules, ◌∙◌, sym}
use Rattle.std.proofs.lemmas.Result.{err_from_is_err_and}
use Rattle.placement.specs.Packed.{disks_in}
use Rattle.placement.specs.Tables.{tables}
use Rattle.reader.proofs.Calls.{work_few, work_slots, work_left, call_refused, call_short, call_stored}
use Rattle.reader.proofs.read.Goals as goal

pub returns-in_err-read-clause-promise : goal.returns-in_err-read-clause-promise
returns-in_err-read-clause-promise c =
    let a = c.args in
    let entry = tables a.copies.now a.counts.now a.left.now in
    let p = err_from_is_err_and c.from_residual.result c.from_residual.ensures.1 in
    rw (p.1, p.2) (call_refused a.text.now (disks_in a.rack.now) entry _ _ _ _ c.in_err-read.ensures)

pub fits-requires : goal.fits-requires
fits-requires c = work_few c.args.text.now c.judge.new.self.rack c.in_ok-read.ensures

pub returns-then-not-fits-clause-promise : goal.returns-then-not-fits-clause-promise
returns-then-not-fits-clause-promise c =
    let a = c.args in
    let entry = tables a.copies.now a.counts.now a.left.now in
    call_short a.text.now c.judge.new.self.rack c.in_ok-read.ensures a.rack.now entry (sym c.fits.ensures ∙ c.if-not-fits.true)

pub store-requires-clause-disks : goal.store-requires-clause-disks
store-requires-clause-disks c = work_few c.args.text.now c.judge.new.self.rack c.in_ok-read.ensures

pub store-requires-clause-slots : goal.store-requires-clause-slots
store-requires-clause-slots c = work_slots c.args.text.now c.judge.new.self.rack c.in_ok-read.ensures

pub store-requires-clause-films : goal.store-requires-clause-films
store-requires-clause-films c = work_left c.args.text.now c.judge.new.self.rack c.in_ok-read.ensures

pub returns-clause-promise : goal.returns-clause-promise
returns-clause-promise c =
    let a = c.args in
    let entry = tables a.copies.now a.counts.now a.left.now in
    call_stored a.text.now c.judge.new.self.rack c.in_ok-read.ensures a.rack.now entry c.store.new.rack _
    (sym c.fits.ensures ∙ c.if-not-fits.false) c.store.ensures.rack (search rules)
