-- `Rounds::earliest` meets its contract. The invariant: the earliest of all rounds is the earliest of those from r + 1 on.
use mathlib.Core.Path.{◌≡◌}
use mathlib.Core.List.{List}
use Prim.Native.Nat.{ℕ, suc, ◌-◌}
use Rattle.transfer_schedule.specs.Schedule.{Transfer, earliest_from}
use Rattle.transfers.specs.Keys.{BusyTable}
use Rattle.transfers.proofs.rounds.Rounds.earliest.Given as goal

-- The first r rounds are passed, for all transfers that the table says.
abbrev pub RoundsPassed : (busy : List ℕ) → (source destination n r : ℕ) → Type 0
RoundsPassed busy source destination n r = (placed : List Transfer) → BusyTable busy placed
    → earliest_from n placed source destination 1 ≡ earliest_from (n - r) placed source destination (suc r)

abbrev pub invariant-loop-r : goal.invariant-loop-r
invariant-loop-r l = RoundsPassed l.self.busy l.source l.destination l.self.placed l.r
