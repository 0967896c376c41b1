-- A pair is a bracket and its two numbers.
use Rattle.writer.proofs.entries.PairEntryText.put.Goals as goal

pub returns : goal.returns
returns g c =
    let two = rw (c.from.ensures, c.entry_film.ensures, c.from-2.ensures, c.entry_amount.ensures) at c.put_two.ensures in
    g.met.S.Sink.more _ _ _ _ _ c.put_byte.ensures two
