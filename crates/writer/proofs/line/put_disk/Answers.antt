-- `line::put_disk` meets its contract: four runs, one behind the other.
use Rattle.writer.proofs.Runs.{disk_runs, copies_runs}
use Rattle.writer.proofs.line.put_disk.Goals as goal

pub returns : goal.returns
returns g c =
    let more = g.met.S.Sink.more in
    let copies = rw (copies_runs _) at c.put_entries.ensures in
    rw (← disk_runs _ _)
    (more _ _ _ _ _ c.put_word.ensures
    (more _ _ _ _ _ c.put_number.ensures (more _ _ _ _ _ copies c.put_byte.ensures)))
