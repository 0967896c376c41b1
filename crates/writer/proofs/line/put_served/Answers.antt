-- `line::put_served` meets its contract: three runs, one behind the other.
use Rattle.writer.proofs.line.put_served.Goals as goal

pub returns : goal.returns
returns g c =
    let more = g.met.S.Sink.more in
    more _ _ _ _ _ c.put_word.ensures (more _ _ _ _ _ c.put_two.ensures c.put_byte.ensures)
