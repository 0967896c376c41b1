-- Planning for the disks that a packed rack holds: what is promised for the numbers that are lent on is promised for the disks.
use mathlib.Core.Path.{◌≡◌, sym, subst}
use mathlib.Core.List.{List}
use Prim.Native.Nat.{ℕ}
use Rattle.refusal.specs.Verdict.{Numbers}
use Rattle.placement.specs.Rack.{Disk}
use Rattle.placement.specs.Packed.{disks_in}
use Rattle.placement.specs.Tables.{Tables}
use Rattle.placement.specs.Planning.{Call, call, PlanSums}
use Rattle.disk_entries.specs.Entries.{held_disks}
use Rattle.disk_entries.specs.declared.PackedDisks.{PackedDisks}

module _ (p : PackedDisks) (numbers : List ℕ) (held : disks_in numbers ≡ held_disks p) where
  -- A promise for them, with the numbers of the answer that is given.
  pub held_promise :
      (Promise : Call → Tables → Tables → Numbers PlanSums → Type 0) {list : List ℕ} {entry exit : Tables} {told answer : Numbers PlanSums}
      → answer ≡ told → Promise (call (disks_in numbers) list) entry exit told → Promise (call (held_disks p) list) entry exit answer
  held_promise Promise {list} {entry} {exit} {told} {answer} same promise =
      subst (λ (rack : List Disk). Promise (call rack list) entry exit answer) held
      (subst (Promise (call (disks_in numbers) list) entry exit) (sym same) promise)
