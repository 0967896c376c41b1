-- `plan_after::mark_disks` meets its contract. The invariant: what marking the disks that are left leaves is what marking all disks leaves.
use mathlib.Core.Path.{◌≡◌}
use mathlib.Core.Bool.{true}
use mathlib.Core.List.{List}
use Prim.Native.Nat.{ℕ, ◌+◌, ◌≤◌}
use lib.ListN.{length, drop}
use Rattle.std.specs.Slice.Iter.{iter_rest}
use Rattle.placement.specs.Copies.{layout_of}
use Rattle.placement.specs.Packed.{disks_in}
use Rattle.placement.specs.Rack.{all_slots}
use Rattle.placement.specs.Tables.{written}
use Rattle.placement.specs.Held.{marked_from}
use Rattle.plan_text.specs.Held.{unused_zero_from}
use Rattle.writer.specs.Call.{CopyRoom}
use Rattle.plan_after.specs.Marking.{marked_places}
use Rattle.plan_after.proofs.Marks.{marks_on}
use Rattle.plan_after.proofs.mark.mark_disks.Given as goal

-- Of racks, counts and copies from the first disk that is left on: the places are in the tables, and marking them gives the whole.
pub record MarksLeft (whole rack held counts : List ℕ) (first : ℕ) (now heldcopies : List ℕ) : Type 0 where
  pub room : first + all_slots (disks_in rack) ≤ length now
  pub held_room : CopyRoom (disks_in held) heldcopies counts
  pub unused : unused_zero_from (disks_in held) heldcopies counts ≡ true
  pub marks : marks_on (disks_in rack) now (layout_of (marked_from (disks_in held) heldcopies counts)) first ≡ whole

abbrev pub invariant-loop-disk : goal.invariant-loop-disk
invariant-loop-disk l =
    (l.held_first ≤ length l.held.copies.now)
    × MarksLeft (written (marked_places (disks_in l.rack) l.initial.copies (layout_of (marked_from (disks_in l.held.rack.now) l.held.copies.now l.held.counts.now))) l.initial.copies)
    (iter_rest l.disk-iterator.a.a) (iter_rest l.disk-iterator.a.b) (iter_rest l.disk-iterator.b) l.first l.copies (drop l.held_first l.held.copies.now)
