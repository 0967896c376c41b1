-- How long the first line is.
use mathlib.Core.Path.{◌≡◌, ap}
use mathlib.Core.Bool.{true, false}
use mathlib.Core.List.{List, [], ◌∷◌, ◌++◌, map}
use Prim.Native.Nat.{ℕ, ◌≤◌, ◌<◌}
use native.Mathlib.Omega.{arith}
use lib.ListN.{length, length-append}
use Rattle.placement.specs.Rack.{Disk, first_slots, first_load, rack_accepted, all_equal}
use Rattle.placement.proofs.Conjunctions.{cond_true, cond_false}
use Rattle.placement.proofs.Racks.{accepted_disks, accepted_slots, accepted_load}
use Rattle.placement.proofs.DiskRanges.{accepted_range}
use Rattle.plan_text.specs.Decimal.{decimal}
use Rattle.plan_text.specs.Text.{space, closed, rack_line, disk_item, mixed_head, mixed_line, first_line, pairs_text}
use Rattle.plan_text.proofs.Lengths.{length_2, length_5, length_mixed}

-- The rack's line has at most 18 bytes.
length_rack : (n k l : ℕ) → n < 100 → k < 100 → l < 100000 → length (rack_line n k l) ≤ 18
length_rack n k l g h i =
    omega (
      arith,
      length-append (decimal n) (space ∷ (decimal k ++ (space ∷ (decimal l ++ (closed ∷ []))))),
      length-append (decimal k) (space ∷ (decimal l ++ (closed ∷ []))),
      length-append (decimal l) (closed ∷ []),
      length_2 n g,
      length_2 k h,
      length_5 l i,
    )

-- The first line of an accepted rack has at most 18 bytes where the disks are equal, and at most 711 where they are not.
pub length_equal : (rack : List Disk) → rack_accepted rack ≡ true → all_equal rack ≡ true → length (first_line rack) ≤ 18
length_equal rack e equal =
    let line : length (first_line rack) ≡ length (rack_line (length rack) (first_slots rack) (first_load rack)) =
    ap length (cond_true (all_equal rack) _ _ equal) in
    omega (
      arith,
      length_rack (length rack) (first_slots rack) (first_load rack) (omega (arith, (accepted_disks rack e).1))
          (omega (arith, (accepted_slots rack e).1)) (omega (arith, (accepted_load rack e).1)),
    )

pub length_unequal : (rack : List Disk) → rack_accepted rack ≡ true → all_equal rack ≡ false → length (first_line rack) ≤ 711
length_unequal rack e unequal =
    let line : length (first_line rack) ≡ length (mixed_line rack) = ap length (cond_false (all_equal rack) _ _ unequal) in
    omega (
      arith,
      length-append mixed_head (pairs_text (map disk_item rack)),
      length_mixed rack (accepted_range rack e),
      (accepted_disks rack e).1,
    )
