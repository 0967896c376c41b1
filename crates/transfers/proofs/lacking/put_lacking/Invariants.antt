-- `transfers::put_lacking` meets its contract. The invariant: the keys so far are looked up, and what stands before `at` is below the next one.
use mathlib.Core.Path.{◌≡◌}
use mathlib.Core.List.{map}
use Prim.Native.Nat.{◌≤◌, ◌<◌}
use lib.ListN.{length, take, get_or}
use Rattle.placement.specs.WellFormed.{Each}
use Rattle.transfer_schedule.specs.Schedule.{lacking}
use Rattle.transfers.specs.Keys.{stored_in, stored_at}
use Rattle.transfers.proofs.lacking.put_lacking.Given as goal

abbrev pub invariant-loop-key : goal.invariant-loop-key
invariant-loop-key l = record {
  few : l.n ≤ l.key-index;
  found : stored_at l.n l.keys ≡ lacking (map stored_in l.old) (map stored_in (take l.key-index l.new));
  within : l.at ≤ length l.old;
  below : l.key-index < length l.new → Each (λ k. k < get_or l.new l.key-index 0) (take l.at l.old);
}
