-- `transfers::count_transfers` meets its contract: each entry is of a transfer, whose count is at most 256.
use mathlib.Core.Path.{◌≡◌, sym, ap, ◌∙◌}
use mathlib.Core.List.{List, [], map}
use Prim.Native.Nat.{ℕ, ◌+◌, ◌≤◌, ◌<◌}
use native.Mathlib.Omega.{arith}
use lib.ListN.{length, take, get_or, set, length-map}
use lib.Seq.{length-take-le}
use Rattle.placement.specs.WellFormed.{Each}
use Rattle.transfer_schedule.specs.Schedule.{Transfer}
use Rattle.transfer_schedule.specs.Counts.{ends, goes, count_table, count_at}
use Rattle.transfer_schedule.specs.Transfers.{transfer_in}
use Rattle.transfer_schedule.specs.Fits.{TransferFits}
use Rattle.transfer_schedule.proofs.Mapped.{each_mapped, mapped_more}
use Rattle.transfer_schedule.proofs.TableSum.{table_more, count_at_lem, count_few}
use Rattle.transfers.proofs.count.count_transfers.Goals as goal

-- The transfer of an entry.
abbrev at_place : List ℕ → ℕ → Transfer
at_place entries i = transfer_in (get_or entries i 0)

-- It fits.
fits : (entries : List ℕ) (i : ℕ) → Each TransferFits (map transfer_in entries) → i < length entries → TransferFits (at_place entries i)
fits entries i each less = each_mapped transfer_in 0 TransferFits entries i each less

-- Fewer than 256 transfers are counted so far.
few :
    (entries : List ℕ) (i source destination : ℕ) (counts : List (List ℕ)) → i < length entries → length entries ≤ 256
    → counts ≡ count_table (map transfer_in (take i entries)) → source < ends → destination < ends → count_at counts source destination ≤ 256
few entries i source destination counts less most counted s d =
    let ts = map transfer_in (take i entries) in
    omega (
      arith,
      ap (λ (table : List (List ℕ)). count_at table source destination) counted ∙ count_at_lem ts source destination s d,
      count_few (goes source destination) ts,
      length-map (take i entries) transfer_in,
      length-take-le i entries (omega (arith, less)),
    )

pub bounds-counts-source : goal.bounds-counts-source
bounds-counts-source c = (fits c.args.entries.now c.loop-entry.entry-index c.requires.1 c.loop-entry-test.true).source

pub bounds-counts-destination : goal.bounds-counts-destination
bounds-counts-destination c = (fits c.args.entries.now c.loop-entry.entry-index c.requires.1 c.loop-entry-test.true).destination

pub bounds-counts-source-in-loop-entry : goal.bounds-counts-source-in-loop-entry
bounds-counts-source-in-loop-entry c = (fits c.args.entries.now c.loop-entry.entry-index c.requires.1 c.loop-entry-test.true).source

pub bounds-counts-destination-in-loop-entry : goal.bounds-counts-destination-in-loop-entry
bounds-counts-destination-in-loop-entry c = (fits c.args.entries.now c.loop-entry.entry-index c.requires.1 c.loop-entry-test.true).destination

pub overflow_add-counts : goal.overflow_add-counts
overflow_add-counts c =
    let entries = c.args.entries.now in
    let i = c.loop-entry.entry-index in
    let less = c.loop-entry-test.true in
    let fit = fits entries i c.requires.1 less in
    let t = at_place entries i in
    omega (
      arith,
      few entries i t.source t.destination c.loop-entry.counts less c.requires.2 c.loop-entry.invariant fit.source fit.destination,
      few entries i t.destination t.source c.loop-entry.counts less c.requires.2 c.loop-entry.invariant fit.destination fit.source,
    )

pub loop-entry-preserved : goal.loop-entry-preserved
loop-entry-preserved c =
    let entries = c.args.entries.now in
    let i = c.loop-entry.entry-index in
    let t = at_place entries i in
    let fit = fits entries i c.requires.1 c.loop-entry-test.true in
    ap (λ (table : List (List ℕ)). set table t.source (set (get_or table t.source []) t.destination (count_at table t.source t.destination + 1)))
    c.loop-entry.invariant
    ∙ table_more (map transfer_in (take i entries)) t fit.source fit.destination
    ∙ ap count_table (sym (mapped_more transfer_in 0 entries i c.loop-entry-test.true))
