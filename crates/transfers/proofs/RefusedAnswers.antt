-- What the answer of transfers says of its refusal.
use Prim.Native.Nat.{◌≤◌}
use Rattle.std.specs.Prelude.{Err}
use Rattle.refusal.proofs.Refusals.{number_some}
use Rattle.refusal.specs.declared.Refusal.{Refusal}
use Rattle.transfers.specs.Answers.{transfer_numbers}

-- It has a number.
pub refused_some : (r : Refusal) → 1 ≤ (transfer_numbers (Err r)).refusal
refused_some r = number_some r
