-- `transfers::count_transfers` meets its contract. The invariant: the transfers so far are counted.
use mathlib.Core.Path.{◌≡◌}
use mathlib.Core.List.{map}
use lib.ListN.{take}
use Rattle.transfer_schedule.specs.Counts.{count_table}
use Rattle.transfer_schedule.specs.Transfers.{transfer_in}
use Rattle.transfers.proofs.count.count_transfers.Given as goal

abbrev pub invariant-loop-entry : goal.invariant-loop-entry
invariant-loop-entry l = l.counts ≡ count_table (map transfer_in (take l.entry-index l.entries))
