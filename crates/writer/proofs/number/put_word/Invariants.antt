-- The bytes of the word so far are put.
use Rattle.std.proofs.Common.{take}
use Rattle.writer.proofs.number.put_word.Given as goal

abbrev pub invariant-loop-byte : goal.invariant-loop-byte
invariant-loop-byte g l = g.S.Sink.takes l.initial.sink (take l.byte-index l.word) l.sink
