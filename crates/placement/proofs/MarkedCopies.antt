-- Copies with marks: without them they are the layout that was marked, and they are read back from the halves of their entries.
use mathlib.Core.Path.{◌≡◌, refl, ap, ap₂, ◌∙◌}
use mathlib.Core.Bool.{Bool, true, false, cond}
use mathlib.Core.List.{List, [], ◌∷◌, map}
use Prim.Native.Nat.{ℕ, ◌+◌, ◌*◌, ◌/◌, ◌%◌, ◌≤◌, ◌<◌}
use native.Mathlib.Omega.{arith}
use borrow.Author.Tests.{leb-true, le-leb}
use lib.Dec.{leb}
use lib.ListN.{length, length-map}
use Rattle.placement.specs.Items.{Item, item, total, occurrences}
use Rattle.placement.specs.Copies.{Copy, copy, unmarked, layout_of, marked_with, halves_of, copy_of, mark_for, marked_disk, marked}
use Rattle.placement.specs.Rack.{Disk}
use Rattle.placement.specs.Method.{served}
use Rattle.placement.specs.Plan.{disk_accepted, disks_accepted, marks_accepted, all_marks_accepted}
use Rattle.placement.specs.WellFormed.{Each, Entry}
use Rattle.placement.proofs.Conjunctions.{both_true, and_holds, false_true}
use Rattle.placement.proofs.Formed.{disk_entries}

-- A mark is at most 1.
pub mark_most : (held : List Item) (f : ℕ) → mark_for held f ≤ 1
mark_most held f = go (leb 1 (occurrences f held))
  where
    go : (b : Bool) → cond b 1 0 ≤ 1
    go true = omega arith
    go false = omega arith

-- Without its marks a marked disk, and a marked layout, is as it was.
disk_layout : (held copies : List Item) → map unmarked (marked_disk held copies) ≡ copies
disk_layout held [] = refl
disk_layout held (x ∷ xs) = ap (λ (r : List Item). x ∷ r) (disk_layout held xs)

pub marked_layout : (earlier layout : List (List Item)) → layout_of (marked earlier layout) ≡ layout
marked_layout earlier [] = refl
marked_layout [] (copies ∷ rest) = ap₂ (λ (x : List Item) (xs : List (List Item)). x ∷ xs) (disk_layout [] copies) (marked_layout [] rest)
marked_layout (held ∷ more) (copies ∷ rest) =
    ap₂ (λ (x : List Item) (xs : List (List Item)). x ∷ xs) (disk_layout held copies) (marked_layout more rest)

-- Its marks are accepted.
disk_marks : (held copies : List Item) → marks_accepted (marked_disk held copies) ≡ true
disk_marks held [] = refl
disk_marks held (x ∷ xs) =
    and_holds (leb (mark_for held x.film) 1) _ (le-leb (mark_for held x.film) 1 (mark_most held x.film)) (disk_marks held xs)

pub marked_accepted : (earlier layout : List (List Item)) → all_marks_accepted (marked earlier layout) ≡ true
marked_accepted earlier [] = refl
marked_accepted [] (copies ∷ rest) = and_holds (marks_accepted (marked_disk [] copies)) _ (disk_marks [] copies) (marked_accepted [] rest)
marked_accepted (held ∷ more) (copies ∷ rest) =
    and_holds (marks_accepted (marked_disk held copies)) _ (disk_marks held copies) (marked_accepted more rest)

-- A copy without a mark has film and viewers as its halves,
pub unmarked_halves : (x : Item) → halves_of (marked_with 0 x) ≡ x
unmarked_halves x = let film : 0 * 65536 + x.film ≡ x.film = omega arith in ap (λ (f : ℕ). item f x.amount) film

none_halves : (copies : List Item) → map halves_of (marked_disk [] copies) ≡ copies
none_halves [] = refl
none_halves (x ∷ xs) = ap₂ (λ (y : Item) (ys : List Item). y ∷ ys) (unmarked_halves x) (none_halves xs)

-- so that a plan without an earlier one has the layout's entries.
pub marked_none : (layout : List (List Item)) → map (map halves_of) (marked [] layout) ≡ layout
marked_none [] = refl
marked_none (copies ∷ rest) = ap₂ (λ (x : List Item) (xs : List (List Item)). x ∷ xs) (none_halves copies) (marked_none rest)

-- A copy is read back from its halves where its film has 16 bits.
pub copy_halves : (c : Copy) → c.film < 65536 → copy_of (halves_of c) ≡ c
copy_halves c small = ap₂ (λ (f m : ℕ). copy f m c.viewers) film mark
  where
    film : (c.mark * 65536 + c.film) % 65536 ≡ c.film
    film = omega (arith, small)

    mark : (c.mark * 65536 + c.film) / 65536 ≡ c.mark
    mark = omega (arith, small)

-- So are the copies of an accepted disk,
disk_halves : (most : ℕ) (copies : List Copy) → Each (Entry most) (map unmarked copies) → map copy_of (map halves_of copies) ≡ copies
disk_halves most [] entries = refl
disk_halves most (c ∷ cs) entries =
    ap₂ (λ (y : Copy) (ys : List Copy). y ∷ ys) (copy_halves c (omega (arith, entries.0.film_most))) (disk_halves most cs entries.1)

-- and of accepted disks.
pub layout_halves :
    (rack : List Disk) (copies : List (List Copy)) → disks_accepted rack (layout_of copies) ≡ true
    → map (map copy_of) (map (map halves_of) copies) ≡ copies
layout_halves [] [] e = refl
layout_halves [] (mine ∷ rest) e = false_true e
layout_halves (d ∷ ds) [] e = false_true e
layout_halves (d ∷ ds) (mine ∷ rest) e =
    let both = both_true (disk_accepted d (map unmarked mine)) (disks_accepted ds (layout_of rest)) e in
    ap₂ (λ (x : List Copy) (xs : List (List Copy)). x ∷ xs) (disk_halves d.load mine (disk_entries d (map unmarked mine) both.0))
    (layout_halves ds rest both.1)

-- The halves of a disk's copies are as many as the copies.
pub halves_length : (copies : List Copy) → length (map halves_of copies) ≡ length (map unmarked copies)
halves_length copies = let same : length (map halves_of copies) ≡ length copies = length-map copies halves_of in same ∙ back
  where
    back : length copies ≡ length (map unmarked copies)
    back = omega (arith, length-map copies unmarked)

pub halves_lengths : (copies : List (List Copy)) → map length (map (map halves_of) copies) ≡ map length (layout_of copies)
halves_lengths [] = refl
halves_lengths (mine ∷ rest) = ap₂ (λ (n : ℕ) (ns : List ℕ). n ∷ ns) (halves_length mine) (halves_lengths rest)

-- The halves of marked copies have 32 bits.
pub halves_small :
    (most : ℕ) (copies : List Copy) → Each (Entry most) (map unmarked copies) → marks_accepted copies ≡ true
    → Each (λ x. x.film < 4294967296) (map halves_of copies)
halves_small most [] entries e = tt
halves_small most (c ∷ cs) entries e =
    let both = both_true (leb c.mark 1) (marks_accepted cs) e in
    let low : c.mark * 65536 + c.film < 4294967296 = omega (arith, entries.0.film_most, leb-true c.mark 1 both.0) in
    (low, halves_small most cs entries.1 both.1)

-- Halves have the same viewers as copies and as items: on a disk,
pub copied_total : (halves : List Item) → total (map unmarked (map copy_of halves)) ≡ total halves
copied_total [] = refl
copied_total (x ∷ xs) = ap (λ (n : ℕ). x.amount + n) (copied_total xs)

-- and over all disks.
pub copied_served : (halves : List (List Item)) → served (layout_of (map (map copy_of) halves)) ≡ served halves
copied_served [] = refl
copied_served (mine ∷ rest) = ap₂ (λ (n m : ℕ). n + m) (copied_total mine) (copied_served rest)

-- Halves are those of their copy: on a disk,
copied_disk : (halves : List Item) → map halves_of (map copy_of halves) ≡ halves
copied_disk [] = refl
copied_disk (x ∷ xs) =
    let low : x.film / 65536 * 65536 + x.film % 65536 ≡ x.film = omega arith in
    ap₂ (λ (f : ℕ) (ys : List Item). item f x.amount ∷ ys) low (copied_disk xs)

-- and on all disks.
pub copied_halves : (halves : List (List Item)) → map (map halves_of) (map (map copy_of) halves) ≡ halves
copied_halves [] = refl
copied_halves (mine ∷ rest) = ap₂ (λ (x : List Item) (xs : List (List Item)). x ∷ xs) (copied_disk mine) (copied_halves rest)
