-- `reader::cursor::Cursor::eat_all` meets its contract. The invariant: what the bytes behind those read leave of the text is what all leave of it.
use Rattle.std.proofs.Common.{◌≡◌, drop, true}
use Rattle.plan_text.specs.Parse.{literal}
use Rattle.reader.specs.Class.{none_foreign}
use Rattle.reader.proofs.cursor.Cursor.eat_all.Given as goal

abbrev pub invariant-loop-b : goal.invariant-loop-b
invariant-loop-b l =
    (literal (drop l.b-index l.expected) l.self ≡ literal l.fn.expected l.fn.self)
    × (none_foreign (drop l.b-index l.expected) ≡ true)
