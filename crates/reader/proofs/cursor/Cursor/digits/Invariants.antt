-- `reader::cursor::Cursor::digits` meets its contract. The invariant: the digits from `i` on continue `value` to the same number.
use Rattle.std.proofs.Common.{◌≡◌, drop}
use Rattle.plan_text.specs.Parse.{digits}
use Rattle.plan_text.specs.Capped.{saturated}
use Rattle.reader.proofs.cursor.Cursor.digits.Given as goal

abbrev pub invariant-loop-i : goal.invariant-loop-i
invariant-loop-i l = (l.text ≡ l.fn.self) × (digits saturated l.value (drop l.i l.text) ≡ digits saturated l.first l.fn.self)
