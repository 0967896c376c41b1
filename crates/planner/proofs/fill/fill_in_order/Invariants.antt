-- `planner::fill::fill_in_order` meets its contract. The invariant: the first disks of the filling order are filled from the list.
use mathlib.Core.Path.{◌≡◌}
use Prim.Native.Nat.{◌-◌, ◌*◌, ◌≤◌}
use lib.ListN.{length}
use Rattle.placement.specs.Rack.{most_demand}
use Rattle.placement.specs.Packed.{disks_in}
use Rattle.placement.specs.WellFormed.{Each, Entry}
use Rattle.planner.specs.Keys.{items_of}
use Rattle.planner.proofs.FilledTo.{FilledTo}
use Rattle.planner.proofs.fill.fill_in_order.Given as goal

abbrev pub invariant-loop-filled : goal.invariant-loop-filled
invariant-loop-filled l = (l.filled ≤ length l.rack) × (l.left ≤ l.n) × (length l.keys ≡ length l.initial.keys) × (l.served ≤ l.filled * 65535) × Each (Entry most_demand) (items_of l.left l.keys)
    × FilledTo (disks_in l.rack) (items_of l.n l.initial.keys) l.initial.copies l.initial.counts l.copies l.counts (items_of l.left l.keys) l.filled l.served

abbrev pub decreases-loop-filled : goal.decreases-loop-filled
decreases-loop-filled l = length l.rack - l.filled
