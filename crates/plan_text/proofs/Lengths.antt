-- How long decimal numbers and lines with pairs and copies are.
use mathlib.Core.Path.{◌≡◌, refl, ap, ◌∙◌}
use mathlib.Core.List.{List, [], ◌∷◌, ◌++◌, map}
use Prim.Native.Nat.{ℕ, zero, suc, ◌+◌, ◌*◌, ◌/◌, ◌%◌, ◌≤◌, ◌<◌, min}
use native.Mathlib.Omega.{arith}
use lib.ListN.{length, length-append}
use Rattle.placement.specs.Items.{Item, total}
use Rattle.placement.specs.Copies.{Copy, unmarked, marked_disk, marked}
use Rattle.placement.specs.Rack.{Disk, most_demand}
use Rattle.placement.specs.WellFormed.{Each, Entry}
use Rattle.placement.proofs.Tests.{by_order}
use Rattle.placement.proofs.DiskRanges.{DiskInRange}
use Rattle.plan_text.specs.Decimal.{digit, decimal}
use Rattle.plan_text.specs.Text.{space, closed, pair_text, pairs_text, mark_end, copy_text, copies_text, disk_item}
use Rattle.plan_text.proofs.Decimals.{decimal_small, decimal_large}

-- A number below 10 has one digit.
pub length_1 : (n : ℕ) → n < 10 → length (decimal n) ≤ 1
length_1 n h = let e : length (decimal n) ≡ 1 = ap length (decimal_small n h) in omega arith

-- One place more for ten times as large numbers.
length_step : (m d : ℕ) → ((n : ℕ) → n < m → length (decimal n) ≤ d) → 1 ≤ d → (n : ℕ) → n < m * 10 → length (decimal n) ≤ suc d
length_step m d fewer g n h =
    by_order n 10
    (λ less. omega (arith, length_1 n less))
    (λ more.
    let e : length (decimal n) ≡ length (decimal (n / 10)) + 1 = ap length (decimal_large n more) ∙ length-append (decimal (n / 10)) (digit (n % 10) ∷ []) in
    omega (arith, fewer (n / 10) (omega arith)))

-- A number below 10 to the d has at most d digits, for d up to 10.
pub length_2 : (n : ℕ) → n < 100 → length (decimal n) ≤ 2
length_2 = length_step 10 1 length_1 (omega arith)

length_3 : (n : ℕ) → n < 1000 → length (decimal n) ≤ 3
length_3 = length_step 100 2 length_2 (omega arith)

length_4 : (n : ℕ) → n < 10000 → length (decimal n) ≤ 4
length_4 = length_step 1000 3 length_3 (omega arith)

pub length_5 : (n : ℕ) → n < 100000 → length (decimal n) ≤ 5
length_5 = length_step 10000 4 length_4 (omega arith)

length_6 : (n : ℕ) → n < 1000000 → length (decimal n) ≤ 6
length_6 = length_step 100000 5 length_5 (omega arith)

pub length_7 : (n : ℕ) → n < 10000000 → length (decimal n) ≤ 7
length_7 = length_step 1000000 6 length_6 (omega arith)

length_8 : (n : ℕ) → n < 100000000 → length (decimal n) ≤ 8
length_8 = length_step 10000000 7 length_7 (omega arith)

length_9 : (n : ℕ) → n < 1000000000 → length (decimal n) ≤ 9
length_9 = length_step 100000000 8 length_8 (omega arith)

pub length_10 : (n : ℕ) → n < 10000000000 → length (decimal n) ≤ 10
length_10 = length_step 1000000000 9 length_9 (omega arith)

-- A digit more than four costs 9,000: the places of a number of viewers, in ninths of a thousand.
length_weighed : (v : ℕ) → v ≤ 65535 → 9000 * length (decimal v) ≤ 35000 + v
length_weighed v h =
    by_order v 1000 (λ less. omega (arith, length_3 v less))
    (λ a. by_order v 10000 (λ less. omega (arith, length_4 v less)) (λ b. omega (arith, length_5 v (omega arith))))

-- Two brackets and a space, and the two numbers.
length_pair : (x : Item) → length (pair_text x) ≡ 3 + length (decimal x.film) + length (decimal x.amount)
length_pair x =
    omega (
      arith,
      length-append (decimal x.film) (space ∷ (decimal x.amount ++ (closed ∷ []))),
      length-append (decimal x.amount) (closed ∷ []),
    )

-- The pairs of n disks.
pub length_mixed : (rack : List Disk) → Each DiskInRange rack → length (pairs_text (map disk_item rack)) ≤ 1 + 11 * length rack
length_mixed [] each = omega arith
length_mixed (d ∷ ds) each =
    omega (
      arith,
      length-append (pair_text (disk_item d)) (pairs_text (map disk_item ds)),
      length_pair (disk_item d),
      length_2 d.slots (omega (arith, each.0.slots)),
      length_5 d.load (omega (arith, each.0.load)),
      length_mixed ds each.1,
    )

-- A copy: the same, and five bytes more where it is marked.
length_mark : (m : ℕ) → length (mark_end m) ≤ 1 + 5 * min 1 m
length_mark zero = omega arith
length_mark (suc m) = omega arith

length_copy : (c : Copy) → length (copy_text c) ≤ 3 + length (decimal c.film) + length (decimal c.viewers) + 5 * min 1 c.mark
length_copy c =
    omega (
      arith,
      length-append (decimal c.film) (space ∷ (decimal c.viewers ++ mark_end c.mark)),
      length-append (decimal c.viewers) (mark_end c.mark),
      length_mark c.mark,
    )

-- How many copies are marked: of a disk, at most all of them,
abbrev pub marks_in : List Copy → ℕ
marks_in [] = 0
marks_in (c ∷ cs) = min 1 c.mark + marks_in cs

pub marks_most : (cs : List Copy) → marks_in cs ≤ length (map unmarked cs)
marks_most [] = omega arith
marks_most (c ∷ cs) = omega (arith, marks_most cs)

-- and of all disks.
abbrev pub all_marks_in : List (List Copy) → ℕ
all_marks_in [] = 0
all_marks_in (copies ∷ rest) = marks_in copies + all_marks_in rest

-- Without an earlier plan none is.
disk_without_marks : (copies : List Item) → marks_in (marked_disk [] copies) ≡ 0
disk_without_marks [] = refl
disk_without_marks (x ∷ xs) = omega (arith, disk_without_marks xs)

pub without_marks_none : (layout : List (List Item)) → all_marks_in (marked [] layout) ≡ 0
without_marks_none [] = refl
without_marks_none (copies ∷ rest) = omega (arith, disk_without_marks copies, without_marks_none rest)

-- The text of c copies with v viewers in sum.
pub length_copies : (limit : ℕ) → limit ≤ 65535 → (cs : List Copy) → Each (Entry limit) (map unmarked cs)
    → 9000 * length (copies_text cs) ≤ 9000 + 116000 * length (map unmarked cs) + total (map unmarked cs) + 45000 * marks_in cs
length_copies limit h [] entries = omega arith
length_copies limit h (c ∷ cs) entries =
    omega (
      arith,
      length-append (copy_text c) (copies_text cs),
      length_copy c,
      length_5 c.film (omega (arith, entries.0.film_most)),
      length_weighed c.viewers (omega (arith, entries.0.amount_most)),
      length_copies limit h cs entries.1,
    )

-- The pairs of c left films.
pub length_left : (xs : List Item) → Each (Entry most_demand) xs → length (pairs_text xs) ≤ 1 + 16 * length xs
length_left [] entries = omega arith
length_left (x ∷ xs) entries =
    omega (
      arith,
      length-append (pair_text x) (pairs_text xs),
      length_pair x,
      length_5 x.film (omega (arith, entries.0.film_most)),
      length_7 x.amount (omega (arith, entries.0.amount_most)),
      length_left xs entries.1,
    )

-- Left amounts sum to at most 1,000,000 for each film.
pub total_left : (xs : List Item) → Each (Entry most_demand) xs → total xs ≤ 1000000 * length xs
total_left [] entries = omega arith
total_left (x ∷ xs) entries = omega (arith, entries.0.amount_most, total_left xs entries.1)
