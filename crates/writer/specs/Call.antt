-- What the steps of `write` judge of a call, and what they ask of it.
use Rattle.std.specs.Prelude.{◌≡◌, ℕ, ◌≤◌, Bool, true, ◌&&◌, List, length}
use Rattle.placement.specs.Copies.{layout_of}
use Rattle.placement.specs.Rack.{Disk, all_slots, rack_accepted}
use Rattle.placement.specs.Held.{marked_from}
use Rattle.placement.specs.Plan.{disks_accepted, all_marks_accepted}
use Rattle.plan_text.specs.Held.{unused_zero_from}
use Rattle.plan_text.specs.WriteCall.{WriteCall, room_stated}

-- Every disk has zero entries behind at most k copies, and its copies and their marks are accepted.
abbrev pub disks_formed : List Disk → (copies counts : List ℕ) → Bool
disks_formed rack copies counts =
    unused_zero_from rack copies counts
    && (disks_accepted rack (layout_of (marked_from rack copies counts)) && all_marks_accepted (marked_from rack copies counts))

-- The copy table has a place for each slot, and the count table one for each disk.
pub record CopyRoom (rack : List Disk) (copies counts : List ℕ) : Type 0 where
  pub copy_places : all_slots rack ≤ length copies
  pub count_places : length rack ≤ length counts

-- The rack is accepted, and the tables have room for it and the stated left films: none of the refusals 12, 13 and 7 applies.
pub record Stated (call : WriteCall) : Type 0 where
  pub accepted : rack_accepted call.rack ≡ true
  pub room : room_stated call ≡ true
