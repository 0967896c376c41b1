-- A C function that plans packs the entries and calls the function over packed disks. Whatever is promised of planning, if a rack's first 65 disks keep it for the rack, what that
-- function ensures of the packed disks holds of the entries' disks.
use mathlib.Core.Path.{◌≡◌, subst}
use mathlib.Core.List.{List}
use Prim.Native.Nat.{ℕ}
use lib.ListN.{take}
use Rattle.refusal.specs.Verdict.{Numbers}
use Rattle.placement.specs.Rack.{Disk}
use Rattle.placement.specs.Packed.{disks_in}
use Rattle.placement.specs.Tables.{Tables}
use Rattle.placement.specs.Planning.{Call, call, PlanSums}
use Rattle.disk_entries.specs.Entries.{disks_of_entries, held_disks}
use Rattle.disk_entries.specs.declared.DiskEntry.{DiskEntry}
use Rattle.disk_entries.specs.declared.PackedDisks.{PackedDisks}
use Rattle.jugfjord.proofs.planning.HeldDisks.{held_promise}

module _ (Promise : Call → Tables → Tables → Numbers PlanSums → Type 0) where
  -- A rack's first 65 disks keep the promise for the rack.
  abbrev pub Cut : Type 0
  Cut =
      (rack : List Disk) (list : List ℕ) (entry exit : Tables) (answer : Numbers PlanSums)
      → Promise (call (take 65 rack) list) entry exit answer → Promise (call rack list) entry exit answer

  pub plan_meets :
      Cut → (entries : List DiskEntry) (packed : PackedDisks) → held_disks packed ≡ take 65 (disks_of_entries entries)
      → {list : List ℕ} {entry exit : Tables} {answer : Numbers PlanSums}
      → Promise (call (held_disks packed) list) entry exit answer → Promise (call (disks_of_entries entries) list) entry exit answer
  plan_meets cut entries packed held {list} {entry} {exit} {answer} promise =
      cut (disks_of_entries entries) list entry exit answer
      (subst (λ (rack : List Disk). Promise (call rack list) entry exit answer) held promise)

  -- The same of the numbers that are lent on, those of the disks held, and with the numbers of the answer that is given.
  pub packed_meets :
      Cut → (entries : List DiskEntry) (packed : PackedDisks) → held_disks packed ≡ take 65 (disks_of_entries entries)
      → (numbers : List ℕ) → disks_in numbers ≡ held_disks packed → {list : List ℕ} {entry exit : Tables} {told answer : Numbers PlanSums} → answer ≡ told
      → Promise (call (disks_in numbers) list) entry exit told → Promise (call (disks_of_entries entries) list) entry exit answer
  packed_meets cut entries packed all numbers held same promise =
      plan_meets cut entries packed all (held_promise packed numbers held Promise same promise)
