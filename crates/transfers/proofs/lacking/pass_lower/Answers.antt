-- `transfers::pass_lower` meets its contract: the place is the first where a key is not below, or the end.
use mathlib.Core.Path.{sym, ◌∙◌}
use Rattle.transfers.proofs.Passing.{passed_some, passed_none}
use Rattle.transfers.proofs.lacking.pass_lower.Goals as goal

pub returns-in-Some : goal.returns-in-Some
returns-in-Some c = passed_some _ _ _ _ c.requires.0 c.requires.1 (sym c.in-Some.is ∙ c.first_not_below.ensures)

pub returns-in-None : goal.returns-in-None
returns-in-None c = passed_none _ _ _ c.requires.0 c.requires.1 (sym c.in-None.is ∙ c.first_not_below.ensures)
