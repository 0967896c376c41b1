-- What the method may leave on disks of one ratio: nothing, or all disks are full, or some full disks and then others whose slots are
-- all taken.
use mathlib.Core.Path.{◌≡◌}
use mathlib.Core.List.{List}
use Prim.Native.Nat.{ℕ, ◌+◌, ◌*◌, ◌≤◌, ◌<◌}
use lib.ListN.{length}
use Rattle.placement.specs.Items.{Item, total}
use Rattle.placement.specs.Rack.{Disk, all_slots, all_loads}
use Rattle.placement.specs.Method.{placement, remaining, served}
use Rattle.placement.proofs.Order.{largest}

-- `full` disks are full, with these slots and this load; the others' slots are all taken by films no smaller than the largest one left.
pub record Mixed (k l disks slots loads films s : ℕ) (left : List Item) : Type 0 where
  pub full : ℕ
  pub full_slots : ℕ
  pub full_load : ℕ
  pub other_slots : ℕ
  pub other_load : ℕ
  pub all_slots : full_slots + other_slots ≡ slots
  pub all_loads : full_load + other_load ≡ loads
  pub full_ratio : full_load * k ≡ l * full_slots
  pub other_ratio : other_load * k ≡ l * other_slots
  pub enough : k * full ≤ full_slots
  pub some : full < disks
  pub count : length left + slots ≤ films + full
  pub serves : full_load + largest left * other_slots ≤ s
  pub low : largest left * k ≤ l

pub data Result (k l : ℕ) (ds : List Disk) (list : List Item) : Type 0 where
  nothing_left : total (remaining ds list) ≡ 0 → Result k l ds list
  all_full : served (placement ds list) ≡ all_loads ds → Result k l ds list
  mixed :
      Mixed k l (length ds) (all_slots ds) (all_loads ds) (length list) (served (placement ds list)) (remaining ds list)
      → Result k l ds list
