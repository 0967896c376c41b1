-- `jugfjord_write` meets its contract: the first 65 disks of a rack, which are those that are lent on, keep the promise for it.
use mathlib.Core.Path.{◌∙◌, sym, subst}
use mathlib.Core.List.{List}
use Rattle.placement.specs.Rack.{Disk}
use Rattle.placement.specs.Tables.{Tables, tables}
use Rattle.plan_text.specs.WriteCall.{write_call}
use Rattle.disk_entries.specs.Entries.{disks_of_entries}
use Rattle.writer.specs.WritePromise.{WritePromise}
use Rattle.jugfjord.specs.Numbers.{written_fields}
use Rattle.jugfjord.proofs.LongRacks.{cut_written}
use Rattle.jugfjord.proofs.writing.jugfjord_write.Goals as goal

pub returns : goal.returns
returns c =
    let a = c.args in
    let entry : Tables = tables a.copies.now a.counts.now a.left.now in
    let exit = c.write.new.text in
    cut_written (disks_of_entries a.rack.now) entry a.left_films a.text.now
    (subst (λ (rack : List Disk). WritePromise (write_call rack entry a.left_films) a.text.now exit (written_fields c.from.result))
    (c.held-disks.ensures ∙ c.pack-packed.ensures)
    (subst (WritePromise _ a.text.now exit) (sym c.from.ensures) c.write.ensures.promise))
