-- What the stored copies and transfers of a rack of at most 8 disks fit into.
use Rattle.std.specs.Prelude.{ℕ, ◌≤◌, ◌<◌}
use Rattle.transfer_schedule.specs.Stored.{StoredCopy}
use Rattle.transfer_schedule.specs.Schedule.{Transfer}
use Rattle.transfer_schedule.specs.Counts.{ends}

-- "A rack of up to 8 disks."
abbrev pub most_transfer_disks : ℕ
most_transfer_disks = 8

-- The most stored copies of it, and so the most transfers and rounds: 32 slots each.
abbrev pub most_transfers : ℕ
most_transfers = 256

-- A stored copy on one of its disks, with a film of 16 bits.
pub record CopyFits (c : StoredCopy) : Type 0 where
  pub disk : c.disk ≤ most_transfer_disks
  pub film : c.film < 65536

-- A transfer whose numbers have room in its entry.
pub record TransferFits (t : Transfer) : Type 0 where
  pub source : t.source < ends
  pub destination : t.destination < ends
  pub film : t.film < 65536
  pub round : t.round ≤ most_transfers
