-- The test of every entry from the place on, as a count of the copies with the film.
use Rattle.std.proofs.Common.{◌∙◌, not, eqb, drop, rules}
use Rattle.std.proofs.lemmas.Iterator.{YieldsList-from_slice}
use Rattle.std.proofs.lemmas.Iterator.Adapters.{YieldsList-from_skip}
use Rattle.std.proofs.lemmas.Iterator.Search.{all_from_yields_List}
use borrow.Author.Tests.{tests}
use Rattle.placement.specs.Tables.{copy_in}
use Rattle.well_formed.proofs.Walks.{absent_all}
use Rattle.well_formed.proofs.copies.absent.Goals as goal

pub returns : goal.returns
returns c =
    all_from_yields_List (λ n. not (eqb c.args.film (copy_in n).film)) _ _ _ c.all.ensures.ran
    (YieldsList-from_skip c.args.from (YieldsList-from_slice c.args.copies.now cc) c.skip.ensures.count) (λ x b q k. search (rules, tests))
    ∙ absent_all c.args.film (drop c.args.from c.args.copies.now)
