-- `jugfjord_read` meets its contract: reading is lent the first places of an array, as many as there are entries, and its disks are put
-- into the front of the entries.
use mathlib.Core.Path.{sym, subst}
use mathlib.Core.List.{List}
use lib.ListN.{length, length-map}
use Rattle.placement.specs.Rack.{Disk}
use Rattle.placement.specs.Tables.{Tables, tables}
use Rattle.disk_entries.specs.Entries.{disk_of, disks_of_entries}
use Rattle.reader.specs.Promise.{ReadPromise}
use Rattle.jugfjord.specs.Numbers.{read_fields}
use Rattle.jugfjord.proofs.ReadInto.{array_into}
use Rattle.jugfjord.proofs.reading.jugfjord_read.Goals as goal

pub returns : goal.returns
returns c =
    let a = c.args in
    let entry : Tables = tables a.copies.now a.counts.now a.left.now in
    let exit : Tables = tables c.read.new.copies c.read.new.counts c.read.new.left in
    let lent = disks_of_entries a.rack.now in
    subst (λ (rack : List Disk). ReadPromise a.text.now lent entry rack exit (read_fields c.from-plan.result)) (sym c.unpack.ensures)
    (array_into a.text.now (length a.rack.now) c.min-places.result c.read.new.rack c.min-places.ensures c.from-plan.ensures
    c.read.ensures.promise lent (length-map a.rack.now disk_of))
