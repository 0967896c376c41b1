-- `planner::fill::fill_all` meets its contract: it lends the filling order and the first places.
use native.Mathlib.Omega.{arith}
use Rattle.placement.specs.Packed.{disks_in}
use Rattle.placement.proofs.Racks.{accepted_disks, accepted_all_slots}
use Rattle.placement.proofs.PackedRacks.{disks_length}
use Rattle.planner.proofs.fill.fill_all.Goals as goal

pub first_places-requires : goal.first_places-requires
first_places-requires c =
    let few = accepted_disks (disks_in c.args.rack.now) c.requires.rack_value.0 in (
      omega (arith, few.1, disks_length c.args.rack.now),
      omega (arith, accepted_all_slots (disks_in c.args.rack.now) c.requires.rack_value.0),
    )
