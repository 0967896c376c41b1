-- The test of every entry, as a test of the copies.
use Rattle.std.proofs.Common.{◌∙◌, rules}
use Rattle.std.proofs.lemmas.Iterator.{YieldsList-from_slice}
use Rattle.std.proofs.lemmas.Iterator.Search.{all_from_yields_List}
use borrow.Author.Tests.{tests}
use Rattle.placement.specs.Copies.{unmarked}
use Rattle.placement.specs.Tables.{copy_in}
use Rattle.placement.specs.Plan.{copy_accepted}
use Rattle.well_formed.proofs.Walks.{every_copy_all}
use Rattle.well_formed.proofs.copies.every_copy_accepted.Goals as goal

pub returns : goal.returns
returns c =
    all_from_yields_List (λ n. copy_accepted (unmarked (copy_in n))) _ _ _ c.all.ensures.ran
    (YieldsList-from_slice c.args.copies.now cc) (λ x b q k. search (rules, tests))
    ∙ every_copy_all copy_accepted c.args.copies.now
