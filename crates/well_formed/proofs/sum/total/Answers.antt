-- The amounts of every entry added up, as those of the items.
use Rattle.std.proofs.Common.{◌≡◌, ◌+◌, map, min, rules, arith}
use Rattle.std.specs.List.{fold}
use Rattle.placement.specs.Tables.{item_in}
use Rattle.well_formed.proofs.Sums.{summed}
use Rattle.well_formed.proofs.sum.total.Goals as goal

pub returns : goal.returns
returns c =
    let sum : c.fold.result ≡ fold (λ sum amount. min (sum + amount) 18446744073709551615) 0 (map (λ n. (item_in n).amount) c.args.entries.now) = search rules in
    summed c.args.entries.now c.fold.result (λ i. omega (arith, c.type_inv.entries i)) sum
