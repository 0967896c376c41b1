-- `Sources::source_of` meets its contract: no copy before the start has the film.
use mathlib.Core.Path.{sym, ◌∙◌}
use Rattle.transfers.proofs.Looks.{source_found, source_later}
use Rattle.transfers.proofs.Starting.{source_left}
use Rattle.transfers.proofs.sources.Sources.source_of.Goals as goal

pub loop-key-init : goal.loop-key-init
loop-key-init c = source_left c.args.self.now.old.now c.args.film _ _ c.min.ensures (c.args.self.now.none_before c.args.film)

pub returns-then-key-film : goal.returns-then-key-film
returns-then-key-film c =
    sym (c.loop-key.invariant ∙ source_found _ c.loop-key.key-index c.loop-key-test.true c.args.film c.if-key-film.true)

pub loop-key-preserved : goal.loop-key-preserved
loop-key-preserved c =
    c.loop-key.invariant ∙ source_later _ c.loop-key.key-index c.loop-key-test.true c.args.film c.if-key-film.false
