-- The test of every number, as a test of the disks.
use Rattle.std.proofs.Common.{◌∙◌, rules}
use Rattle.std.proofs.lemmas.Iterator.{YieldsList-from_slice}
use Rattle.std.proofs.lemmas.Iterator.Search.{all_from_yields_List}
use borrow.Author.Tests.{tests}
use Rattle.placement.specs.Rack.{disk_in_range}
use Rattle.placement.specs.Packed.{disk_in}
use Rattle.placement.proofs.PackedRacks.{all_disks_in_range}
use Rattle.placement.proofs.mixed.all_in_range.Goals as goal

pub returns : goal.returns
returns c =
    all_from_yields_List (λ number. disk_in_range (disk_in number)) _ _ _ c.all.ensures.ran
    (YieldsList-from_slice c.args.rack.now cc) (λ x b q k. search (rules, tests))
    ∙ all_disks_in_range c.args.rack.now
