-- What holds of a call that is not refused: the plan is well formed, and the lent tables have the places.
use Rattle.std.specs.Prelude.{◌≤◌, length}
use Rattle.placement.specs.Rack.{all_slots}
use Rattle.placement.specs.Records.{record_count}
use Rattle.placement.specs.Tables.{Tables}
use Rattle.placement.specs.Planning.{Call}
use Rattle.placement.specs.WellFormed.{CallWellFormed}

pub record Plannable (c : Call) (t : Tables) : Type 0 where
  pub formed : CallWellFormed c
  pub copies : all_slots c.rack ≤ length t.copies
  pub counts : length c.rack ≤ length t.counts
  pub left : record_count c.list ≤ length t.left
