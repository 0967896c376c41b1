-- The stored copies of a well-formed plan: they fit, they ascend by disk, how many there are, and which disk holds which film.
use mathlib.Core.Path.{◌≡◌, refl, ap, ap₂, ◌∙◌}
use mathlib.Core.Bool.{Bool, true, false, cond, ◌||◌}
use mathlib.Core.List.{List, [], ◌∷◌, ◌++◌, map}
use Prim.Native.Nat.{ℕ, zero, suc, ◌+◌, ◌*◌, ◌≤◌, ◌<◌}
use native.Mathlib.Omega.{arith}
use lib.Dec.{leb, eqb}
use lib.ListN.{length, get_or, length-append, length-map}
use Rattle.placement.specs.Items.{occurrences}
use Rattle.placement.specs.Copies.{Copy, unmarked, layout_of}
use Rattle.placement.specs.Rack.{Disk, most_disks, most_slots, most_load, in_range, disk_in_range, all_in_range, disks_in_range}
use Rattle.placement.specs.Plan.{Plan, disk_accepted, disks_accepted, well_formed}
use Rattle.placement.specs.WellFormed.{Each, Entry}
use Rattle.placement.proofs.Conjunctions.{both_true, false_true}
use Rattle.placement.proofs.Tests.{by_test, in_range_bounds}
use Rattle.placement.proofs.Each.{each_append}
use Rattle.placement.proofs.Formed.{disk_count, disk_entries, plan_rack, plan_disks}
use Rattle.transfer_schedule.specs.Stored.{StoredCopy, stored_copy, ascending, films_of, stored_from, stored_copies, is_stored}
use Rattle.transfer_schedule.specs.Counts.{count_by}
use Rattle.transfer_schedule.specs.Fits.{CopyFits}
use Rattle.transfer_schedule.proofs.Sources.{DisksAscend, holds_from}
use Rattle.transfer_schedule.proofs.HeldFilms.{stored_append, same_disk, other_disk}
use Rattle.transfer_schedule.proofs.Inserted.{ascending_length, ascending_count, ascending_each}

-- Copies on a disk of number up to 8 with films of 16 bits.
copies_fit : (number : ℕ) (films : List ℕ) → number ≤ 8 → Each (λ f. f < 65536) films → Each CopyFits (map (stored_copy number) films)
copies_fit number [] few all = tt
copies_fit number (f ∷ films) few all = (record { disk = few; film = all.0 }, copies_fit number films few all.1)

-- The films of entries are of 16 bits.
films_fit : (most : ℕ) (copies : List Copy) → Each (Entry most) (map unmarked copies) → Each (λ f. f < 65536) (films_of copies)
films_fit most [] entries = tt
films_fit most (c ∷ cs) entries = (omega (arith, entries.0.film_most), films_fit most cs entries.1)

-- So for disks numbered from one on.
fits_from :
    (rack : List Disk) (copies : List (List Copy)) (number : ℕ) → disks_accepted rack (layout_of copies) ≡ true → number + length rack ≤ 9
    → Each CopyFits (stored_from number copies)
fits_from rack [] number e few = tt
fits_from [] (cs ∷ rest) number e few = false_true e
fits_from (d ∷ ds) (cs ∷ rest) number e few =
    let both = both_true (disk_accepted d (map unmarked cs)) (disks_accepted ds (layout_of rest)) e in
    each_append CopyFits (map (stored_copy number) (ascending (films_of cs))) (stored_from (suc number) rest)
    (copies_fit number (ascending (films_of cs)) (omega arith)
    (ascending_each (λ (f : ℕ). f < 65536) (films_of cs) (films_fit d.load cs (disk_entries d (map unmarked cs) both.0))))
    (fits_from ds rest (suc number) both.1 (omega arith))

-- The copies of a plan of at most 8 disks fit.
pub stored_fits : (p : Plan) → well_formed p ≡ true → length p.rack ≤ 8 → Each CopyFits (stored_copies p)
stored_fits p e few = fits_from p.rack p.copies 1 (plan_disks p e) (omega arith)

-- Disks that ascend from a number on ascend from a lower one.
ascend_lower : (low number : ℕ) (cs : List StoredCopy) → low ≤ number → DisksAscend number cs → DisksAscend low cs
ascend_lower low number [] h above = tt
ascend_lower low number (c ∷ cs) h above = (omega (arith, above.0), above.1)

-- The copies of a disk stand in front of those of the disks behind it.
ascend_disk :
    (low number : ℕ) (films : List ℕ) (rest : List StoredCopy) → low ≤ number → DisksAscend number rest
    → DisksAscend low (map (stored_copy number) films ++ rest)
ascend_disk low number [] rest h above = ascend_lower low number rest h above
ascend_disk low number (f ∷ films) rest h above = (h, ascend_disk number number films rest (omega arith) above)

-- So disks that are numbered from one on ascend,
ascend_from : (low number : ℕ) (copies : List (List Copy)) → low ≤ number → DisksAscend low (stored_from number copies)
ascend_from low number [] h = tt
ascend_from low number (cs ∷ rest) h =
    ascend_disk low number (ascending (films_of cs)) (stored_from (suc number) rest) h (ascend_from number (suc number) rest (omega arith))

-- and those of a plan from 1 on.
pub stored_ascend : (p : Plan) → DisksAscend 1 (stored_copies p)
stored_ascend p = ascend_from 1 1 p.copies (omega arith)

-- A disk has at most 32 copies,
few_from :
    (rack : List Disk) (copies : List (List Copy)) (number : ℕ) → disks_accepted rack (layout_of copies) ≡ true → all_in_range rack ≡ true
    → length (stored_from number copies) ≤ length rack * 32
few_from rack [] number e ranges = omega arith
few_from [] (cs ∷ rest) number e ranges = false_true e
few_from (d ∷ ds) (cs ∷ rest) number e ranges =
    let both = both_true (disk_accepted d (map unmarked cs)) (disks_accepted ds (layout_of rest)) e in
    let within = both_true (disk_in_range d) (all_in_range ds) ranges in
    omega (
      arith,
      length-append (map (stored_copy number) (ascending (films_of cs))) (stored_from (suc number) rest),
      length-map (ascending (films_of cs)) (stored_copy number),
      ascending_length (films_of cs),
      length-map cs (λ (c : Copy). c.film),
      length-map cs unmarked,
      disk_count d (map unmarked cs) both.0,
      in_range_bounds most_slots d.slots (both_true (in_range most_slots d.slots) (in_range most_load d.load) within.0).0,
      few_from ds rest (suc number) both.1 within.1,
    )

-- and a rack of at most 8 disks 256.
pub stored_few : (p : Plan) → well_formed p ≡ true → length p.rack ≤ 8 → length (stored_copies p) ≤ 256
stored_few p e few =
    omega (
      arith,
      few_from p.rack p.copies 1 (plan_disks p e)
          (both_true (in_range most_disks (length p.rack)) (all_in_range p.rack) (both_true (disks_in_range p.rack) _ (plan_rack p e)).0).1,
    )

-- The disks behind a disk are none of its own.
higher_disks : (n film : ℕ) (copies : List (List Copy)) → is_stored (stored_copy n film) (stored_from (suc n) copies) ≡ false
higher_disks n film copies =
    by_test (is_stored (stored_copy n film) (stored_from (suc n) copies))
    (λ held.
    let above : suc n ≤ n = holds_from (suc n) (stored_from (suc n) copies) n film (ascend_from (suc n) (suc n) copies (omega arith)) held in
    absurd (omega (arith, above)))
    (λ e. e)

-- The films of a disk's copies stand there with and without marks alike.
pub films_occur : (film : ℕ) (copies : List Copy) → count_by (eqb film) (films_of copies) ≡ occurrences film (map unmarked copies)
films_occur film [] = refl
films_occur film (c ∷ cs) = ap (λ (n : ℕ). cond (eqb film c.film) 1 0 + n) (films_occur film cs)

-- Among the copies of disks numbered from one on, a copy stands exactly where its disk has the film.
stored_from_lem :
    (number d film : ℕ) (copies : List (List Copy))
    → is_stored (stored_copy (number + d) film) (stored_from number copies) ≡ leb 1 (occurrences film (get_or (layout_of copies) d []))
stored_from_lem number d film [] = refl
stored_from_lem number zero film (cs ∷ rest) =
    let here : number + 0 ≡ number = omega arith in
    ap (λ (n : ℕ). is_stored (stored_copy n film) (stored_from number (cs ∷ rest))) here
    ∙ stored_append (stored_copy number film) (map (stored_copy number) (ascending (films_of cs))) (stored_from (suc number) rest)
    ∙ ap₂ ◌||◌ (same_disk number film (ascending (films_of cs))) (higher_disks number film rest)
    ∙ alone (leb 1 (count_by (eqb film) (ascending (films_of cs))))
    ∙ ap (leb 1) (ascending_count (eqb film) (films_of cs) ∙ films_occur film cs)
  where
    alone : (b : Bool) → (b || false) ≡ b
    alone true = refl
    alone false = refl
stored_from_lem number (suc d) film (cs ∷ rest) =
    let there : number + suc d ≡ suc number + d = omega arith in
    stored_append (stored_copy (number + suc d) film) (map (stored_copy number) (ascending (films_of cs))) (stored_from (suc number) rest)
    ∙ ap (λ (b : Bool). b || is_stored (stored_copy (number + suc d) film) (stored_from (suc number) rest))
    (other_disk (number + suc d) number film (ascending (films_of cs)) (λ e. omega arith))
    ∙ ap (λ (n : ℕ). is_stored (stored_copy n film) (stored_from (suc number) rest)) there
    ∙ stored_from_lem (suc number) d film rest

-- A copy is stored on a disk exactly where the plan has its film there.
pub stored_is :
    (p : Plan) (d film : ℕ) → is_stored (stored_copy (suc d) film) (stored_copies p) ≡ leb 1 (occurrences film (get_or (layout_of p.copies) d []))
stored_is p d film =
    let here : suc d ≡ 1 + d = omega arith in
    ap (λ (n : ℕ). is_stored (stored_copy n film) (stored_copies p)) here ∙ stored_from_lem 1 d film p.copies
