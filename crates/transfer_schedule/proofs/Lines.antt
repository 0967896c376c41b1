-- Lines and racks compared number by number, and when two racks have the same first line.
use mathlib.Core.Path.{◌≡◌, refl, sym, ap, ap₂, ◌∙◌}
use mathlib.Core.Bool.{Bool, true, false, ◌&&◌}
use mathlib.Core.List.{List, [], ◌∷◌, ◌++◌, map}
use Prim.Native.Nat.{ℕ, suc, ◌+◌, ◌<◌}
use native.Mathlib.Numerals.{add-one}
use borrow.Author.Tests.{eqb-true, eq-eqb, ne_eqb}
use lib.Dec.{eqb}
use lib.ListN.{length, get_or, drop}
use lib.Seq.{drop-cons}
use Rattle.placement.specs.Rack.{Disk, rack_accepted}
use Rattle.placement.specs.Packed.{packed_disk, disks_in}
use Rattle.placement.proofs.Tests.{by_test}
use Rattle.placement.proofs.EntryNumbers.{entry_item}
use Rattle.placement.proofs.Conjunctions.{both_true, and_holds, false_true}
use Rattle.plan_text.specs.Text.{line_feed, first_line}
use Rattle.plan_text.specs.Reading.{rack_read}
use Rattle.plan_text.proofs.Numbers.{none_faithful}
use Rattle.plan_text.proofs.Pieces.{parsed_value}
use Rattle.plan_text.proofs.FirstLine.{first_line_lem}
use Rattle.transfer_schedule.specs.Transfers.{same_numbers}

-- Lists of different lengths are not the same.
pub same_lengths : (xs ys : List ℕ) → (length xs ≡ length ys → ⊥) → false ≡ same_numbers xs ys
same_lengths [] [] other = absurd (other refl)
same_lengths [] (y ∷ ys) other = refl
same_lengths (x ∷ xs) [] other = refl
same_lengths (x ∷ xs) (y ∷ ys) other = go (eqb x y) (same_lengths xs ys (λ e. other (ap suc e)))
  where
    go : (b : Bool) → false ≡ same_numbers xs ys → false ≡ (b && same_numbers xs ys)
    go true later = later
    go false later = refl

module _ (xs ys : List ℕ) (i : ℕ) (h : i < length xs) (k : i < length ys) where
  here : same_numbers (drop i xs) (drop i ys) ≡ (eqb (get_or xs i 0) (get_or ys i 0) && same_numbers (drop (i + 1) xs) (drop (i + 1) ys))
  here = rw add-one (ap₂ same_numbers (drop-cons xs i 0 h) (drop-cons ys i 0 k))

  -- Different numbers at a place settle it,
  pub same_fails : (get_or xs i 0 ≡ get_or ys i 0 → ⊥) → false ≡ same_numbers (drop i xs) (drop i ys)
  same_fails other = sym (here ∙ ap (λ (b : Bool). b && same_numbers (drop (i + 1) xs) (drop (i + 1) ys)) (ne_eqb _ _ other))

  -- and behind equal ones the rest does.
  pub same_later : get_or xs i 0 ≡ get_or ys i 0 → same_numbers (drop i xs) (drop i ys) ≡ same_numbers (drop (i + 1) xs) (drop (i + 1) ys)
  same_later e = here ∙ ap (λ (b : Bool). b && same_numbers (drop (i + 1) xs) (drop (i + 1) ys)) (eq-eqb _ _ e)

-- A list is the same as itself, and the same lists are equal.
pub same_refl : (xs : List ℕ) → same_numbers xs xs ≡ true
same_refl [] = refl
same_refl (x ∷ xs) = and_holds (eqb x x) (same_numbers xs xs) (eq-eqb x x refl) (same_refl xs)

pub same_equal : (xs ys : List ℕ) → same_numbers xs ys ≡ true → xs ≡ ys
same_equal [] [] e = refl
same_equal [] (y ∷ ys) e = false_true e
same_equal (x ∷ xs) [] e = false_true e
same_equal (x ∷ xs) (y ∷ ys) e =
    let both = both_true (eqb x y) (same_numbers xs ys) e in
    ap₂ (λ (z : ℕ) (zs : List ℕ). z ∷ zs) (eqb-true x y both.0) (same_equal xs ys both.1)

-- Racks with the same first line are the same, since the line reads as both.
line_rack : (old new : List Disk) → rack_accepted old ≡ true → rack_accepted new ≡ true → first_line old ≡ first_line new → old ≡ new
line_rack old new ok_old ok_new same =
    parsed_value (sym ((first_line_lem none_faithful).complete old [] ok_old)
    ∙ ap (λ (line : List ℕ). rack_read (λ n. n) (line ++ (line_feed ∷ []))) same
    ∙ (first_line_lem none_faithful).complete new [] ok_new)

-- A disk's number is that of its disk.
packed_disks : (numbers : List ℕ) → map packed_disk (disks_in numbers) ≡ numbers
packed_disks [] = refl
packed_disks (n ∷ ns) = ap₂ (λ (m : ℕ) (ms : List ℕ). m ∷ ms) (entry_item n) (packed_disks ns)

-- So the first lines of racks are compared by their numbers.
pub line_numbers :
    (old new : List ℕ) → rack_accepted (disks_in old) ≡ true → rack_accepted (disks_in new) ≡ true
    → same_numbers (first_line (disks_in old)) (first_line (disks_in new)) ≡ same_numbers old new
line_numbers old new ok_old ok_new =
    by_test (same_numbers old new) (λ e. held e ∙ sym e) (λ e. by_test (same_numbers (first_line (disks_in old)) (first_line (disks_in new))) (λ f. absurd (differs e f)) (λ f. f ∙ sym e))
  where
    held : same_numbers old new ≡ true → same_numbers (first_line (disks_in old)) (first_line (disks_in new)) ≡ true
    held e =
        ap (λ (rack : List ℕ). same_numbers (first_line (disks_in old)) (first_line (disks_in rack))) (sym (same_equal old new e)) ∙ same_refl (first_line (disks_in old))

    differs : same_numbers old new ≡ false → same_numbers (first_line (disks_in old)) (first_line (disks_in new)) ≡ true → ⊥
    differs e f =
        let racks = line_rack (disks_in old) (disks_in new) ok_old ok_new (same_equal (first_line (disks_in old)) (first_line (disks_in new)) f) in
        let numbers : old ≡ new = sym (packed_disks old) ∙ ap (map packed_disk) racks ∙ packed_disks new in
        false_true (sym e ∙ ap (same_numbers old) (sym numbers) ∙ same_refl old)
