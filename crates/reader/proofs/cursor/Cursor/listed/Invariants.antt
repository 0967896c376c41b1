-- `reader::cursor::Cursor::listed` meets its contract. The invariant: the pairs so far, before what the rest reads, are what the whole reads.
use Rattle.std.proofs.Common.{◌≡◌, ◌-◌, length}
use Rattle.placement.specs.Held.{front}
use Rattle.plan_text.specs.Parse.{spaced_read}
use Rattle.reader.specs.Pairs.{Stored}
use Rattle.reader.proofs.PairLists.{reads_on}
use Rattle.reader.proofs.cursor.Cursor.listed.Given as goal

abbrev pub invariant-loop-n : goal.invariant-loop-n
invariant-loop-n g l = (length l.entries ≡ length l.fn.entries)
    × Stored l.n l.fn.entries l.entries
    × (reads_on g.L.Listed.reads (front l.n l.entries) (length l.fn.entries - l.n) l.here
    ≡ spaced_read g.L.Listed.reads (length l.fn.entries) l.fn.self)
