-- The longest text of a well-formed plan has 54,800 bytes, and of equal disks 54,125.
use mathlib.Core.Path.{◌≡◌}
use mathlib.Core.Bool.{true}
use mathlib.Core.List.{List, [], ◌∷◌, ◌++◌, map}
use Prim.Native.Nat.{ℕ, suc, ◌+◌, ◌-◌, ◌*◌, ◌≤◌, ◌<◌}
use native.Mathlib.Omega.{arith}
use lib.ListN.{length, length-append}
use Rattle.placement.specs.Copies.{Copy, unmarked, layout_of}
use Rattle.placement.specs.Rack.{Disk, rack_accepted, all_equal, most_demand}
use Rattle.placement.specs.Plan.{Plan, disk_accepted, disks_accepted, well_formed, served_of, unserved_of}
use Rattle.placement.specs.WellFormed.{Each, Entry}
use Rattle.placement.proofs.Tests.{by_test, by_order}
use Rattle.placement.proofs.Conjunctions.{both_true, false_true}
use Rattle.placement.proofs.Racks.{accepted_disks, accepted_all_loads}
use Rattle.placement.proofs.DiskRanges.{DiskInRange, accepted_range}
use Rattle.placement.proofs.Formed.{disk_count, disk_load, disk_entries, left_count, left_entries, plan_rack, plan_disks, plan_left, plan_lists, plan_served}
use Rattle.plan_text.specs.Decimal.{decimal}
use Rattle.plan_text.specs.Text.{space, closed, line_feed, first_line, disk_head, disk_line, copies_text, left_line, served_line, lines, disks_then, text_of}
use Rattle.plan_text.specs.ReadCall.{most_bytes}
use Rattle.plan_text.proofs.Lengths.{length_1, length_2, length_7, length_10, marks_in, marks_most, all_marks_in, length_copies, length_left, total_left}
use Rattle.plan_text.proofs.FirstLength.{length_equal, length_unequal}
use Rattle.plan_text.proofs.ShorterDisks.{shorter, shorter_disks, unequal_shorter}

-- A disk's line with its line feed: 427 bytes and the disk's number, 13 fewer with fewer than 32 slots, and 5 for each mark.
length_disk : (d : Disk) → DiskInRange d → (number : ℕ) (cs : List Copy) → disk_accepted d (map unmarked cs) ≡ true
    → suc (length (disk_line number cs)) + 13 * shorter d ≤ 427 + length (decimal number) + 5 * marks_in cs
length_disk d inside number cs e =
    omega (
      arith,
      length-append (disk_head number) (copies_text cs),
      length_copies d.load inside.load cs (disk_entries d (map unmarked cs) e),
      disk_count d (map unmarked cs) e,
      disk_load d (map unmarked cs) e,
      inside.slots,
      inside.load,
    )

-- A line, its line feed and the lines after it.
length_line : (line : List ℕ) (rest : List (List ℕ)) → length (lines (line ∷ rest)) ≡ length line + suc (length (lines rest))
length_line line rest = length-append line (line_feed ∷ lines rest)

-- 428 bytes a disk, one more for each whose number has two digits, 13 fewer for each with fewer than 32 slots, and 5 for each mark.
length_disks : (rack : List Disk) → Each DiskInRange rack → (number : ℕ) (copies : List (List Copy)) (after : List (List ℕ))
    → number + length copies ≤ 100 → disks_accepted rack (layout_of copies) ≡ true
    → length (lines (disks_then number copies after)) + (number - 10) + 13 * shorter_disks rack
    ≤ length (lines after) + 428 * length copies + (number + length copies - 10) + 5 * all_marks_in copies
length_disks [] each number [] after h e = omega arith
length_disks (d ∷ ds) each number [] after h e = false_true e
length_disks [] each number (xs ∷ copies) after h e = false_true e
length_disks (d ∷ ds) each number (xs ∷ copies) after h e =
    let parts = both_true (disk_accepted d (map unmarked xs)) (disks_accepted ds (layout_of copies)) e in
    let here : suc (length (disk_line number xs)) + 13 * shorter d ≤ 427 + length (decimal number) + 5 * marks_in xs = length_disk d each.0 number xs parts.0 in
    let later : length (lines (disks_then (suc number) copies after)) + (suc number - 10) + 13 * shorter_disks ds
    ≤ length (lines after) + 428 * length copies + (suc number + length copies - 10) + 5 * all_marks_in copies =
    length_disks ds each.1 (suc number) copies after (omega arith) parts.1 in
    by_order number 10
    (λ less. omega (arith, length_1 number less, length_line (disk_line number xs) (disks_then (suc number) copies after)))
    (λ more. omega (arith, length_2 number (omega arith), length_line (disk_line number xs) (disks_then (suc number) copies after)))

-- At most 32 copies a disk are marked, one fewer on each with fewer than 32 slots.
marks_few : (rack : List Disk) → Each DiskInRange rack → (copies : List (List Copy)) → disks_accepted rack (layout_of copies) ≡ true
    → all_marks_in copies + shorter_disks rack ≤ 32 * length rack
marks_few [] each [] e = omega arith
marks_few [] each (xs ∷ copies) e = false_true e
marks_few (d ∷ ds) each [] e = false_true e
marks_few (d ∷ ds) each (xs ∷ copies) e =
    let parts = both_true (disk_accepted d (map unmarked xs)) (disks_accepted ds (layout_of copies)) e in
    omega (
      arith,
      marks_most xs,
      disk_count d (map unmarked xs) parts.0,
      each.0.slots,
      marks_few ds each.1 copies parts.1,
    )

-- The served line has at most 27 bytes.
length_served : (s u : ℕ) → s < 10000000 → u < 10000000000 → length (served_line s u) ≤ 27
length_served s u g h =
    omega (
      arith,
      length-append (decimal s) (space ∷ (decimal u ++ (closed ∷ []))),
      length-append (decimal u) (closed ∷ []),
      length_7 s g,
      length_10 u h,
    )

module _ (p : Plan) (e : well_formed p ≡ true) where
  rack : rack_accepted p.rack ≡ true
  rack = plan_rack p e

  left : Each (Entry most_demand) p.left
  left = left_entries p.left (plan_left p e)

  abbrev ending : List (List ℕ)
  ending = left_line p.left ∷ served_line (served_of p) (unserved_of p) ∷ []

  -- What stands behind the first line has at most 43,866 bytes, 13 fewer for each disk with fewer than 32 slots, and 5 for each mark.
  length_behind : length (lines (disks_then 1 p.copies ending)) + 13 * shorter_disks p.rack ≤ 43866 + 5 * all_marks_in p.copies
  length_behind =
      omega (
        arith,
        length_disks p.rack (accepted_range p.rack rack) 1 p.copies ending
            (omega (arith, (accepted_disks p.rack rack).1, plan_lists p e)) (plan_disks p e),
        length_line (left_line p.left) (served_line (served_of p) (unserved_of p) ∷ []),
        length_line (served_line (served_of p) (unserved_of p)) [],
        length_left p.left left,
        length_served (served_of p) (unserved_of p) (omega (arith, plan_served p e, accepted_all_loads p.rack rack))
            (omega (arith, total_left p.left left, left_count p.left (plan_left p e))),
        left_count p.left (plan_left p e),
        (accepted_disks p.rack rack).1,
        plan_lists p e,
      )

  -- The text of a well-formed plan of equal disks without marks has at most 43,885 bytes.
  pub text_length_unmarked : all_marks_in p.copies ≡ 0 → all_equal p.rack ≡ true → length (text_of p) ≤ 43885
  unfolding text_of
  text_length_unmarked none equal =
      omega (
        arith,
        length_line (first_line p.rack) (disks_then 1 p.copies ending),
        length_equal p.rack rack equal,
        length_behind,
      )

  -- Not more than 2,048 copies are marked.
  marks : all_marks_in p.copies + shorter_disks p.rack ≤ 2048
  marks = omega (arith, marks_few p.rack (accepted_range p.rack rack) p.copies (plan_disks p e), (accepted_disks p.rack rack).1)

  -- With marks it has at most 54,125.
  pub text_length_equal : all_equal p.rack ≡ true → length (text_of p) ≤ 54125
  unfolding text_of
  text_length_equal equal =
      omega (
        arith,
        length_line (first_line p.rack) (disks_then 1 p.copies ending),
        length_equal p.rack rack equal,
        length_behind,
        marks,
      )

  -- The text of a well-formed plan has at most 54,800 bytes.
  pub text_length : length (text_of p) ≤ 54800
  unfolding text_of
  text_length =
      by_test (all_equal p.rack)
      (λ equal. omega (arith, text_length_equal equal))
      (λ unequal.
      omega (
        arith,
        length_line (first_line p.rack) (disks_then 1 p.copies ending),
        length_unequal p.rack rack unequal,
        length_behind,
        marks,
        unequal_shorter p.rack rack unequal,
      ))

-- So 8 never meets a text of a well-formed plan.
pub text_fits : (p : Plan) → well_formed p ≡ true → length (text_of p) ≤ most_bytes
text_fits p e = omega (arith, text_length p e)
