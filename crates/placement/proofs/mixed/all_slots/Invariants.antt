-- The sum is the slots of the disks passed, at most 2,048.
use Rattle.std.proofs.Common.{◌≡◌, ◌+◌, ◌≤◌, drop}
use Rattle.placement.specs.Rack.{all_slots}
use Rattle.placement.specs.Packed.{disks_in}
use Rattle.placement.proofs.mixed.all_slots.Given as goal

abbrev pub invariant-loop-disk : goal.invariant-loop-disk
invariant-loop-disk l = (l.sum ≤ 2048) × (all_slots (disks_in l.rack) ≡ l.sum + all_slots (disks_in (drop l.disk-index l.rack)))
