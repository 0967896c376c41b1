-- Shelved layouts are accepted: a shelf copy goes where a slot is free, its film is new to the disk, and it has no viewers.
use mathlib.Core.Path.{◌≡◌, refl, ap₂}
use mathlib.Core.Bool.{Bool, true, false, cond, ◌||◌, true≢false}
use mathlib.Core.List.{List, [], ◌∷◌, ◌++◌, map}
use Prim.Native.Nat.{ℕ, ◌+◌, ◌≤◌}
use native.Mathlib.Omega.{arith}
use borrow.Author.Tests.{ltb-true, ltb-false}
use lib.ListN.{length, length-append}
use Rattle.placement.specs.Items.{Item, amount_of, one_if, occurrences}
use Rattle.placement.specs.Rack.{Disk}
use Rattle.placement.specs.Plan.{disk_accepted, disks_accepted}
use Rattle.placement.specs.Promise.{Distinct}
use Rattle.placement.specs.Shelf.{has_free_slot, some_free_slot, shelved_one, shelved}
use Rattle.placement.specs.WellFormed.{Each, Entry}
use Rattle.placement.proofs.Conjunctions.{both_true, and_holds, false_true}
use Rattle.placement.proofs.Sums.{sum_by_append}
use Rattle.placement.proofs.Films.{own_film, distinct_new}
use Rattle.placement.proofs.Layouts.{together}
use Rattle.placement.proofs.Each.{each_append}
use Rattle.placement.proofs.Formed.{disk_count, disk_distinct, disk_entries, disk_load, disk_accepted_lem}
use Rattle.placement.proofs.Shelving.{shelved_one_sum}

-- A disk with a free slot takes a film that it does not have, without viewers.
end_accepted :
    (d : Disk) (copies : List Item) (x : Item) → Entry 0 x → occurrences x.film copies ≡ 0 → has_free_slot d copies ≡ true
    → disk_accepted d copies ≡ true → disk_accepted d (copies ++ (x ∷ [])) ≡ true
end_accepted d copies x entry new free e =
    disk_accepted_lem d (copies ++ (x ∷ [])) d.load
    (omega (arith, length-append copies (x ∷ []), ltb-true (length copies) d.slots free))
    (λ f. omega (arith, sum_by_append (one_if f) copies (x ∷ []), distinct_new x copies new (disk_distinct d copies e) f))
    (each_append (Entry d.load) copies (x ∷ []) (disk_entries d copies e)
    (record { film_least = entry.film_least; film_most = entry.film_most; amount_most = omega (arith, entry.amount_most) }, tt))
    (omega (arith, sum_by_append amount_of copies (x ∷ []), disk_load d copies e, entry.amount_most))

-- So do the disks, where the film is on none of them.
shelved_one_accepted :
    (rack : List Disk) (x : Item) (layout : List (List Item)) → Entry 0 x → occurrences x.film (together layout) ≡ 0
    → disks_accepted rack layout ≡ true → disks_accepted rack (shelved_one rack x layout) ≡ true
shelved_one_accepted [] x layout entry new e = e
shelved_one_accepted (d ∷ ds) x [] entry new e = e
shelved_one_accepted (d ∷ ds) x (copies ∷ rest) entry new e = go (has_free_slot d copies) refl (shelved_one_accepted ds x rest entry)
  where
    both : (disk_accepted d copies ≡ true) × (disks_accepted ds rest ≡ true)
    both = both_true (disk_accepted d copies) (disks_accepted ds rest) e

    parts : occurrences x.film copies + occurrences x.film (together rest) ≡ 0
    parts = omega (arith, sum_by_append (one_if x.film) copies (together rest))

    go : (b : Bool) → has_free_slot d copies ≡ b
        → (occurrences x.film (together rest) ≡ 0 → disks_accepted ds rest ≡ true → disks_accepted ds (shelved_one ds x rest) ≡ true)
        → disks_accepted (d ∷ ds) (cond b ((copies ++ (x ∷ [])) ∷ rest) (copies ∷ shelved_one ds x rest)) ≡ true
    go true free later = and_holds _ _ (end_accepted d copies x entry (omega (arith, parts)) free both.0) both.1
    go false free later = and_holds _ _ both.0 (later (omega (arith, parts)) both.1)

-- And all films one after the other: distinct films that are on no disk.
pub shelved_accepted :
    (rack : List Disk) (films : List Item) (layout : List (List Item)) → Each (Entry 0) films → Distinct films
    → ((f : ℕ) → 1 ≤ occurrences f films → occurrences f (together layout) ≡ 0)
    → disks_accepted rack layout ≡ true → disks_accepted rack (shelved rack films layout) ≡ true
shelved_accepted rack [] layout entries distinct new e = e
shelved_accepted rack (x ∷ xs) layout entries distinct new e =
    shelved_accepted rack xs (shelved_one rack x layout) entries.1 (λ f. omega (arith, distinct f)) later
    (shelved_one_accepted rack x layout entries.0 (new x.film (omega (arith, own_film x))) e)
  where
    at_most : (b : Bool) (n : ℕ) → cond b n 0 ≤ n
    at_most true n = omega arith
    at_most false n = omega arith

    later : (f : ℕ) → 1 ≤ occurrences f xs → occurrences f (together (shelved_one rack x layout)) ≡ 0
    later f here =
        omega (
          arith,
          shelved_one_sum (one_if f) rack x layout,
          at_most (some_free_slot rack layout) (one_if f x),
          distinct f,
          new f (omega arith),
        )

-- Accepted disks without a free slot have as many copies as slots.
pub full_slots :
    (rack : List Disk) (layout : List (List Item)) → disks_accepted rack layout ≡ true → some_free_slot rack layout ≡ false
    → map length layout ≡ map (λ (d : Disk). d.slots) rack
full_slots [] [] e full = refl
full_slots [] (copies ∷ rest) e full = false_true e
full_slots (d ∷ ds) [] e full = false_true e
full_slots (d ∷ ds) (copies ∷ rest) e full = go (has_free_slot d copies) refl full (full_slots ds rest both.1)
  where
    both : (disk_accepted d copies ≡ true) × (disks_accepted ds rest ≡ true)
    both = both_true (disk_accepted d copies) (disks_accepted ds rest) e

    go : (b : Bool) → has_free_slot d copies ≡ b → (b || some_free_slot ds rest) ≡ false
        → (some_free_slot ds rest ≡ false → map length rest ≡ map (λ (d : Disk). d.slots) ds)
        → map length (copies ∷ rest) ≡ map (λ (d : Disk). d.slots) (d ∷ ds)
    go true free full later = absurd (true≢false full)
    go false free full later =
        ap₂ (λ (n : ℕ) (ns : List ℕ). n ∷ ns) (omega (arith, disk_count d copies both.0, ltb-false (length copies) d.slots free))
        (later full)
