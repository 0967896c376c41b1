-- `line::put_rack` meets its contract: five runs, one behind the other.
use Rattle.writer.proofs.Runs.{rack_runs}
use Rattle.writer.proofs.line.put_rack.Goals as goal

pub returns : goal.returns
returns g c =
    let more = g.met.S.Sink.more in
    let number = rw c.from.ensures at c.put_number.ensures in
    let two = rw (c.from-2.ensures, c.from-3.ensures) at c.put_two.ensures in
    rw (← rack_runs _ _ _)
    (more _ _ _ _ _ c.put_word.ensures
    (more _ _ _ _ _ number (more _ _ _ _ _ c.put_byte.ensures (more _ _ _ _ _ two c.put_byte-2.ensures))))
