-- `Rounds::new` meets its contract: without transfers no end is busy, and none is known to be.
use mathlib.Core.Path.{refl}
use mathlib.Core.List.{[]}
use Prim.Native.Nat.{ℕ, ◌+◌, ◌*◌}
use native.Mathlib.Omega.{arith}
use lib.ListN.{replicate, length-replicate, get_or-replicate}
use Rattle.transfer_schedule.specs.Counts.{ends}
use Rattle.transfers.specs.Keys.{row_length, busy_places, BusyTable, FullTable}
use Rattle.transfers.proofs.rounds.Rounds.new.Goals as goal

free_table : BusyTable (replicate busy_places 0) []
free_table = record {
  wide = length-replicate {A = ℕ} busy_places 0;
  rows = λ end r few within. get_or-replicate {A = ℕ} busy_places (end * row_length + r) 0 0 (omega (arith, few, within));
}

no_rounds : FullTable (replicate busy_places 0) (replicate ends 0) 0
no_rounds = record {
  wide = refl;
  few = λ end few. omega (arith, get_or-replicate {A = ℕ} ends end 0 0 few);
  ones = λ end few r less. absurd (omega (arith, less, get_or-replicate {A = ℕ} ends end 0 0 few));
}

pub returns-clause-busy : goal.returns-clause-busy
returns-clause-busy c = free_table

pub invariant_of-result : goal.invariant_of-result
invariant_of-result c = record { full_table = no_rounds }
