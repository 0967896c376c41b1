-- `entries::put_entries` meets its contract: behind the last entry stands the closing bracket.
use Rattle.writer.proofs.Runs.{spaced_more, spaced_end}
use Rattle.writer.proofs.entries.put_entries.Goals as goal

pub loop-entry-preserved : goal.loop-entry-preserved
loop-entry-preserved g c =
    let more = g.met.S.Sink.more in
    rw (← spaced_more g.E.EntryText.text _ _ c.loop-entry-test.true)
    (more _ _ _ _ _ c.loop-entry.invariant (more _ _ _ _ _ c.put_byte.ensures c.put.ensures))

pub returns : goal.returns
returns g c =
    rw (← spaced_end g.E.EntryText.text _ _ c.loop-entry-test.false) (g.met.S.Sink.more _ _ _ _ _ c.loop-entry.invariant c.put_byte-2.ensures)
