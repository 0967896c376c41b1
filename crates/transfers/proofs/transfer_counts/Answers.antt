-- `transfers::transfer_counts` meets its contract: its own list is long enough, so that the table has the counts of the texts.
use mathlib.Core.Path.{refl}
use mathlib.Core.List.{[]}
use lib.ListN.{replicate}
use Rattle.transfer_schedule.specs.Counts.{count_table}
use Rattle.transfer_schedule.proofs.CountsPromise.{counts_promise}
use Rattle.transfer_schedule.proofs.Own.{own_list}
use Rattle.transfers.proofs.transfer_counts.Goals as goal

pub returns : goal.returns
returns c =
    let a = c.args in
    counts_promise a.old.now a.new.now (own_list a.old.now a.new.now (replicate 256 0) (count_table []) refl refl refl c.transfers_counted.ensures.promise.counts)
