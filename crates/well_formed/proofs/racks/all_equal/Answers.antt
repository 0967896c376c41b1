-- The test of every disk behind the first.
use Rattle.std.proofs.Common.{◌≡◌, ◌∙◌, ◌-◌, rules, arith, eqb, length, take, drop, get_or}
use Rattle.std.proofs.lemmas.Iterator.{YieldsList-from_slice}
use Rattle.std.proofs.lemmas.Iterator.Search.{all_from_yields_List}
use borrow.Author.Tests.{tests}
use Rattle.placement.specs.Rack.{all_equal}
use Rattle.placement.specs.Packed.{disks_in}
use Rattle.well_formed.proofs.EqualDisks.{equal_all}
use Rattle.well_formed.proofs.racks.all_equal.Goals as goal

pub returns : goal.returns
returns c =
    let rack = c.args.rack.now in
    let all : c.all.result ≡ all_equal (disks_in rack) =
    all_from_yields_List (λ n. eqb n (get_or rack 0 0)) _ _ _ c.all.ensures.ran
    (YieldsList-from_slice (take (length rack - 1) (drop 1 rack)) cc) (λ x b q k. search (rules, tests))
    ∙ equal_all rack (omega arith) in
    rw (← all) (search rules)
