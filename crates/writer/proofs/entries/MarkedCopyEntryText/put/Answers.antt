-- A copy is a bracket, the two numbers with a space between, and the end by the mark.
use Rattle.writer.proofs.entries.MarkedCopyEntryText.put.Goals as goal

pub returns : goal.returns
returns g c =
    let more = g.met.S.Sink.more in
    let film = rw (c.from.ensures, c.copy_film.ensures) at c.put_number.ensures in
    let viewers = rw (c.from-2.ensures, c.entry_amount.ensures) at c.put_number-2.ensures in
    let mark = rw c.copy_mark.ensures at c.put_mark.ensures in
    more _ _ _ _ _ c.put_byte.ensures
    (more _ _ _ _ _ film (more _ _ _ _ _ c.put_byte-2.ensures (more _ _ _ _ _ viewers mark)))
