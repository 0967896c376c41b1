-- `transfers::place_all` meets its contract. The invariant: the transfers of the copies before `i` are placed.
use mathlib.Core.Path.{◌≡◌}
use mathlib.Core.List.{List, [], ◌++◌, map}
use Prim.Native.Nat.{ℕ}
use lib.ListN.{take, drop}
use Rattle.transfer_schedule.specs.Schedule.{Transfer, place_all, rounds_of}
use Rattle.transfer_schedule.specs.Transfers.{transfer_entry}
use Rattle.transfers.specs.Keys.{stored_in, BusyTable}
use Rattle.transfers.proofs.schedule.place_all.Given as goal

-- The transfers of the first i copies.
abbrev pub placed_to : (old keys : List ℕ) → ℕ → List Transfer
placed_to old keys i = place_all (map stored_in old) [] (map stored_in (take i keys))

abbrev pub invariant-loop-key : goal.invariant-loop-key
invariant-loop-key l = record {
  keys : l.keys ≡ map transfer_entry (placed_to l.sources.old.now l.fn.keys l.key-index) ++ drop l.key-index l.fn.keys;
  busy : BusyTable l.rounds.busy (placed_to l.sources.old.now l.fn.keys l.key-index);
  placed : l.rounds.placed ≡ l.key-index;
  last : l.last ≡ rounds_of (placed_to l.sources.old.now l.fn.keys l.key-index);
}
