-- `line::put_pairs` meets its contract: three runs, one behind the other.
use Rattle.writer.proofs.Runs.{pairs_runs}
use Rattle.writer.proofs.line.put_pairs.Goals as goal

pub returns : goal.returns
returns g c =
    let more = g.met.S.Sink.more in
    let pairs = rw (pairs_runs _) at c.put_entries.ensures in
    more _ _ _ _ _ c.put_word.ensures (more _ _ _ _ _ pairs c.put_byte.ensures)
