-- `transfers::stands_at` meets its contract: the key stands at the place, another one does, or it is the end.
use mathlib.Core.Path.{sym, ◌∙◌}
use borrow.Author.Tests.{le-ltb}
use Rattle.transfers.proofs.Passing.{passed_stands, passed_end}
use Rattle.transfers.proofs.lacking.stands_at.Goals as goal

pub returns-then-at-old : goal.returns-then-at-old
returns-then-at-old c = passed_stands _ _ _ c.requires.1 c.requires.0 c.if-at-old.true

pub returns-else-at-old : goal.returns-else-at-old
returns-else-at-old c = le-ltb _ _ c.if-at-old.false ∙ sym (passed_end _ _ _ c.requires.1 c.if-at-old.false)
