-- What reading with packed disks says of every list of entries of one length.
use Rattle.std.specs.Prelude.{◌≡◌, List, ◌++◌, ℕ, length, take, drop}
use Rattle.refusal.specs.Verdict.{Numbers}
use Rattle.placement.specs.Rack.{Disk}
use Rattle.placement.specs.Tables.{Tables}
use Rattle.plan_text.specs.ReadCall.{Told}
use Rattle.reader.specs.Promise.{ReadPromise}

-- With the disks put into the front of so many entries, whatever they held, reading keeps its promise.
abbrev pub ReadInto : List ℕ → ℕ → (entry exit : Tables) → Numbers Told → List Disk → Type 0
ReadInto text entries entry exit answer disks =
    (lent : List Disk) → length lent ≡ entries
    → ReadPromise text lent entry (take entries disks ++ drop (length disks) lent) exit answer
