-- `refusal_line::put_refusal` meets its contract: four runs, one behind the other.
use Rattle.writer.proofs.Refusals.{refusal_runs}
use Rattle.writer.proofs.refusal_line.put_refusal.Goals as goal

pub returns : goal.returns
returns g c =
    let more = g.met.S.Sink.more in
    let number = rw c.from.ensures at c.put_number.ensures in
    rw (← refusal_runs _ _)
    (more _ _ _ _ _ c.put_word.ensures
    (more _ _ _ _ _ number (more _ _ _ _ _ c.put_end.ensures c.put_byte.ensures)))
