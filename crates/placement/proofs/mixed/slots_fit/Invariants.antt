-- The slots of the disks passed are the places that are taken.
use Rattle.std.proofs.Common.{◌≡◌, ◌+◌, drop}
use Rattle.placement.specs.Rack.{all_slots}
use Rattle.placement.specs.Packed.{disks_in}
use Rattle.placement.proofs.mixed.slots_fit.Given as goal

abbrev pub invariant-loop-disk : goal.invariant-loop-disk
invariant-loop-disk l = all_slots (disks_in l.rack) + l.free ≡ l.places + all_slots (disks_in (drop l.disk-index l.rack))
