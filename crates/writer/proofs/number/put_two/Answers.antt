-- `number::put_two` meets its contract: four runs, one behind the other.
use Rattle.writer.proofs.number.put_two.Goals as goal

pub returns : goal.returns
returns g c =
    let more = g.met.S.Sink.more in
    more _ _ _ _ _ c.put_number.ensures
    (more _ _ _ _ _ c.put_byte.ensures (more _ _ _ _ _ c.put_number-2.ensures c.put_byte-2.ensures))
