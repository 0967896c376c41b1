-- An operation's own tables have room for every plan.
use mathlib.Core.Path.{◌≡◌}
use mathlib.Core.Bool.{true}
use mathlib.Core.List.{List}
use Prim.Native.Nat.{ℕ, ◌*◌, ◌≤◌}
use native.Mathlib.Omega.{arith}
use borrow.Author.Tests.{le-leb}
use lib.ListN.{length, length-replicate}
use Rattle.placement.specs.Rack.{Disk, all_slots, rack_accepted, most_disks, most_slots, most_records}
use Rattle.placement.specs.Tables.{room_for, own_tables}
use Rattle.placement.proofs.Conjunctions.{and_holds}
use Rattle.placement.proofs.Racks.{accepted_disks, accepted_all_slots}

-- No operation that brings them is refused 7.
pub own_room : (rack : List Disk) (n : ℕ) → rack_accepted rack ≡ true → n ≤ most_records → room_for rack n own_tables ≡ true
own_room rack n e few =
    and_holds _ _ (le-leb (all_slots rack) _ (omega (arith, length-replicate {A = ℕ} (most_disks * most_slots) 0, accepted_all_slots rack e)))
    (and_holds _ _ (le-leb (length rack) _ (omega (arith, length-replicate {A = ℕ} most_disks 0, (accepted_disks rack e).1)))
    (le-leb n _ (omega (arith, length-replicate {A = ℕ} most_records 0, few))))
