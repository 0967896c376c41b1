-- `refusal_line::put_end` meets its contract: one run, or three, one behind the other.
use Rattle.writer.proofs.Refusals.{end_none, end_some}
use Rattle.writer.proofs.refusal_line.put_end.Goals as goal

pub returns-then-second-eq0 : goal.returns-then-second-eq0
returns-then-second-eq0 g c = rw (← end_none _ c.if-second-eq0.true) c.put_byte.ensures

pub returns : goal.returns
returns g c =
    let more = g.met.S.Sink.more in
    let number = rw c.from.ensures at c.put_number.ensures in
    rw (← end_some _ c.if-second-eq0.false)
    (more _ _ _ _ _ c.put_byte-2.ensures (more _ _ _ _ _ number c.put_byte-3.ensures))
