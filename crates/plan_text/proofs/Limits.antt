-- What passes the tests of a line has numbers of at most 1,000,000.
use mathlib.Core.Path.{◌≡◌}
use mathlib.Core.Bool.{true, not}
use mathlib.Core.List.{List, [], ◌∷◌, map}
use Prim.Native.Nat.{ℕ, ◌≤◌}
use native.Mathlib.Omega.{arith}
use borrow.Author.Tests.{leb-true}
use lib.Dec.{leb}
use lib.ListN.{length-map}
use Rattle.placement.specs.Items.{Item}
use Rattle.placement.specs.Copies.{Copy, unmarked}
use Rattle.placement.specs.Rack.{Disk, in_range, most_disks, most_slots, most_load, most_demand, rack_accepted, all_equal}
use Rattle.placement.specs.Plan.{disk_accepted, marks_accepted, copies_accepted, left_accepted, most_left}
use Rattle.placement.specs.WellFormed.{Each, Entry}
use Rattle.placement.proofs.Conjunctions.{both_true}
use Rattle.placement.proofs.Tests.{in_range_bounds}
use Rattle.placement.proofs.Racks.{accepted_disks}
use Rattle.placement.proofs.DiskRanges.{DiskInRange, accepted_range}
use Rattle.placement.proofs.Formed.{disk_count, disk_entries, left_count, left_entries}
use Rattle.plan_text.specs.Reading.{Sizes, sizes_accepted, item_disk, mixed_accepted}
use Rattle.plan_text.proofs.Numbers.{most}
use Rattle.plan_text.proofs.Pairs.{SmallItems}
use Rattle.plan_text.proofs.CopyTexts.{SmallCopies}
use Rattle.plan_text.proofs.Bodies.{FewItems, FewCopies}

-- Accepted numbers of a rack are at most 64 disks, 32 slots a disk and load 65,535.
module _ (z : Sizes) (e : sizes_accepted z ≡ true) where
  pub sizes_disks : z.disks ≤ most_disks
  sizes_disks = (in_range_bounds most_disks z.disks (both_true (in_range most_disks z.disks) _ e).0).1

  behind : (in_range most_slots z.slots ≡ true) × (in_range most_load z.streams ≡ true)
  behind = both_true (in_range most_slots z.slots) _ (both_true (in_range most_disks z.disks) _ e).1

  pub sizes_slots : z.slots ≤ most_slots
  sizes_slots = (in_range_bounds most_slots z.slots behind.0).1

  pub sizes_streams : z.streams ≤ most_load
  sizes_streams = (in_range_bounds most_load z.streams behind.1).1

-- The pairs of disks in range have small numbers.
disks_small : (xs : List Item) → Each DiskInRange (map item_disk xs) → SmallItems xs
disks_small [] each = tt
disks_small (x ∷ xs) each =
    let slots : x.film ≤ most = omega (arith, each.0.slots) in
    let load : x.amount ≤ most = omega (arith, each.0.load) in
    ((slots, load), disks_small xs each.1)

-- Accepted pairs of a mixed line are at most 64, with small numbers.
pub mixed_few : (xs : List Item) → mixed_accepted xs ≡ true → FewItems most_disks xs
mixed_few xs e =
    let rack = (both_true (rack_accepted (map item_disk xs)) (not (all_equal (map item_disk xs))) e).0 in (
      omega (arith, length-map xs item_disk, (accepted_disks (map item_disk xs) rack).1),
      disks_small xs (accepted_range (map item_disk xs) rack),
    )

-- Entries have small numbers.
entries_small : (limit : ℕ) → limit ≤ most → (xs : List Item) → Each (Entry limit) xs → SmallItems xs
entries_small limit h [] entries = tt
entries_small limit h (x ∷ xs) entries =
    let film : x.film ≤ most = omega (arith, entries.0.film_most) in
    let amount : x.amount ≤ most = omega (arith, entries.0.amount_most) in
    ((film, amount), entries_small limit h xs entries.1)

-- Copies that are entries with accepted marks are small.
copies_small : (limit : ℕ) → limit ≤ most → (cs : List Copy) → Each (Entry limit) (map unmarked cs) → marks_accepted cs ≡ true → SmallCopies cs
copies_small limit h [] entries e = tt
copies_small limit h (c ∷ cs) entries e =
    let both = both_true (leb c.mark 1) (marks_accepted cs) e in
    let viewers : c.viewers ≤ most = omega (arith, entries.0.amount_most) in
    ((entries.0.film_most, leb-true c.mark 1 both.0, viewers), copies_small limit h cs entries.1 both.1)

-- An accepted disk has at most k copies, with small numbers.
pub disk_few : (d : Disk) → d.load ≤ most → (cs : List Copy) → copies_accepted d cs ≡ true → FewCopies d.slots cs
disk_few d h cs e =
    let both = both_true (disk_accepted d (map unmarked cs)) (marks_accepted cs) e in (
      omega (arith, length-map cs unmarked, disk_count d (map unmarked cs) both.0),
      copies_small d.load h cs (disk_entries d (map unmarked cs) both.0) both.1,
    )

-- Accepted left films are at most 1,024, with small numbers.
pub left_few : (xs : List Item) → left_accepted xs ≡ true → FewItems most_left xs
left_few xs e = (left_count xs e, entries_small most_demand (omega arith) xs (left_entries xs e))
