-- The test of every entry, as a test of the left films.
use Rattle.std.proofs.Common.{◌∙◌, rules}
use Rattle.std.proofs.lemmas.Iterator.{YieldsList-from_slice}
use Rattle.std.proofs.lemmas.Iterator.Search.{all_from_yields_List}
use borrow.Author.Tests.{tests}
use Rattle.placement.specs.Tables.{item_in}
use Rattle.placement.specs.Plan.{left_film_accepted}
use Rattle.well_formed.proofs.Walks.{every_all}
use Rattle.well_formed.proofs.left.every_left_film_accepted.Goals as goal

pub returns : goal.returns
returns c =
    all_from_yields_List (λ n. left_film_accepted (item_in n)) _ _ _ c.all.ensures.ran
    (YieldsList-from_slice c.args.left.now cc) (λ x b q k. search (rules, tests))
    ∙ every_all left_film_accepted c.args.left.now
