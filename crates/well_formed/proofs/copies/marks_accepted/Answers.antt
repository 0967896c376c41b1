-- The test of every entry, as a test of the copies.
use Rattle.std.proofs.Common.{◌∙◌, rules}
use Rattle.std.proofs.lemmas.Iterator.{YieldsList-from_slice}
use Rattle.std.proofs.lemmas.Iterator.Search.{all_from_yields_List}
use borrow.Author.Tests.{tests}
use lib.Dec.{leb}
use Rattle.placement.specs.Tables.{copy_in}
use Rattle.well_formed.proofs.Walks.{marks_all}
use Rattle.well_formed.proofs.copies.marks_accepted.Goals as goal

pub returns : goal.returns
returns c =
    all_from_yields_List (λ n. leb (copy_in n).mark 1) _ _ _ c.all.ensures.ran
    (YieldsList-from_slice c.args.copies.now cc) (λ x b q k. search (rules, tests))
    ∙ marks_all c.args.copies.now
