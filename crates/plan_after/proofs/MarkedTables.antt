-- The copy table with marks: marking the places of a layout gives the places of the marked layout, and without marks they are those of the layout.
use mathlib.Core.Path.{◌≡◌, refl, sym, ap, ap₂, ◌∙◌}
use mathlib.Core.Bool.{Bool, true, cond}
use mathlib.Core.List.{List, [], ◌∷◌, map, ◌++◌, append_assoc}
use Prim.Native.Nat.{ℕ, zero, suc, ◌-◌, ◌≤◌, ◌<◌}
use native.Mathlib.Omega.{arith}
use borrow.Author.Tests.{ne_eqb, le-leb}
use lib.Dec.{leb, eqb}
use lib.ListN.{length, take, drop, replicate, length-map}
use lib.Seq.{take_at, drop_at}
use Rattle.placement.specs.Items.{Item, occurrences}
use Rattle.placement.specs.Copies.{Copy, unmarked, marked_with, halves_of, copy_of, mark_for, marked_disk, marked}
use Rattle.placement.specs.Rack.{Disk}
use Rattle.placement.specs.Tables.{entry_of, copy_in, copy_entry, padded, places, written}
use Rattle.placement.specs.Plan.{disk_accepted, disks_accepted}
use Rattle.placement.specs.WellFormed.{Each, Entry}
use Rattle.placement.proofs.Conjunctions.{both_true, false_true}
use Rattle.placement.proofs.EntryNumbers.{item_entry}
use Rattle.placement.proofs.Formed.{disk_count, disk_entries}
use Rattle.placement.proofs.MarkedCopies.{mark_most, unmarked_halves, marked_none, copy_halves}
use Rattle.placement.proofs.Written.{padded_length, written_more}
use Rattle.plan_after.specs.After.{unmarked_entry}
use Rattle.plan_after.specs.Marking.{marked_entry, marked_places}
use Rattle.plan_after.specs.Held.{NoneUnused}

-- A copy is read back from its entry.
copy_entry_lem : (c : Copy) → c.film < 65536 → c.mark ≤ 1 → copy_in (copy_entry c) ≡ c
copy_entry_lem c film mark = ap copy_of (item_entry (halves_of c) (omega arith)) ∙ copy_halves c film

-- A film with its viewers is a copy without a mark.
entry_copy : (x : Item) → x.film < 65536 → copy_in (entry_of x) ≡ marked_with 0 x
entry_copy x film = ap (λ (y : Item). copy_in (entry_of y)) (sym (unmarked_halves x)) ∙ copy_entry_lem (marked_with 0 x) film (omega arith)

module _ (x : Item) (film : x.film < 65536) where
  -- Its entry is marked where the film is held,
  entry_marked : (held : List Item) → marked_entry held (entry_of x) ≡ copy_entry (marked_with (mark_for held x.film) x)
  entry_marked held =
      ap (λ (c : Copy). cond (eqb (occurrences c.film held) 0) (entry_of x) (copy_entry (marked_with 1 (unmarked c)))) (entry_copy x film)
      ∙ go (occurrences x.film held)
    where
      go : (n : ℕ) → cond (eqb n 0) (entry_of x) (copy_entry (marked_with 1 x)) ≡ copy_entry (marked_with (cond (leb 1 n) 1 0) x)
      go zero = ap entry_of (sym (unmarked_halves x))
      go (suc n) =
          ap (λ (b : Bool). cond b (entry_of x) (copy_entry (marked_with 1 x))) (ne_eqb (suc n) 0 (λ e. omega arith))
          ∙ ap (λ (b : Bool). copy_entry (marked_with (cond b 1 0) x)) (sym (le-leb 1 (suc n) (omega arith)))

  -- and without a mark it is as it was.
  entry_unmarked : (mark : ℕ) → mark ≤ 1 → unmarked_entry (copy_entry (marked_with mark x)) ≡ entry_of x
  entry_unmarked mark few =
      ap (λ (c : Copy). copy_entry (marked_with 0 (unmarked c))) (copy_entry_lem (marked_with mark x) film few) ∙ ap entry_of (unmarked_halves x)

-- So for the copies of a disk.
disk_marked : (most : ℕ) (held xs : List Item) → Each (Entry most) xs → map (marked_entry held) (map entry_of xs) ≡ map entry_of (map halves_of (marked_disk held xs))
disk_marked most held [] entries = refl
disk_marked most held (x ∷ xs) entries =
    ap₂ (λ (e : ℕ) (es : List ℕ). e ∷ es) (entry_marked x (omega (arith, entries.0.film_most)) held) (disk_marked most held xs entries.1)

disk_unmarked : (most : ℕ) (held xs : List Item) → Each (Entry most) xs → map unmarked_entry (map entry_of (map halves_of (marked_disk held xs))) ≡ map entry_of xs
disk_unmarked most held [] entries = refl
disk_unmarked most held (x ∷ xs) entries =
    ap₂ (λ (e : ℕ) (es : List ℕ). e ∷ es) (entry_unmarked x (omega (arith, entries.0.film_most)) (mark_for held x.film) (mark_most held x.film))
    (disk_unmarked most held xs entries.1)

-- A change of entries that keeps zeros.
module _ (f : ℕ → ℕ) (zeros : f 0 ≡ 0) where
  map_zeros : (n : ℕ) → map f (replicate n 0) ≡ replicate n 0
  map_zeros zero = refl
  map_zeros (suc n) = ap₂ (λ (e : ℕ) (es : List ℕ). e ∷ es) zeros (map_zeros n)

  pub map_append : (xs ys : List ℕ) → map f (xs ++ ys) ≡ map f xs ++ map f ys
  map_append [] ys = refl
  map_append (x ∷ xs) ys = ap (λ (r : List ℕ). f x ∷ r) (map_append xs ys)

  map_padded : (n : ℕ) (xs ys : List ℕ) → map f xs ≡ ys → map f (padded n xs) ≡ padded n ys
  map_padded n xs ys same =
      map_append xs (replicate (n - length xs) 0)
      ∙ ap₂ ◌++◌ same (map_zeros (n - length xs))
      ∙ ap (λ (m : ℕ). ys ++ replicate (n - m) 0) (sym (length-map xs f) ∙ ap length same)

-- An unused place gets no mark.
zero_kept : (held : List Item) → NoneUnused held → marked_entry held 0 ≡ 0
zero_kept held none = ap (λ (n : ℕ). cond (eqb n 0) 0 (copy_entry (marked_with 1 (unmarked (copy_in 0))))) none

-- The places of a disk, and those of the disks behind it.
module _ (d : Disk) (xs : List Item) (few : length xs ≤ d.slots) (rest : List ℕ) where
  abbrev mine : List ℕ
  mine = padded d.slots (map entry_of xs)

  wide : length mine ≡ d.slots
  wide = padded_length d.slots (map entry_of xs) (omega (arith, length-map xs entry_of))

  first_places : take d.slots (mine ++ rest) ≡ mine
  first_places = take_at mine rest d.slots wide

  other_places : drop d.slots (mine ++ rest) ≡ rest
  other_places = drop_at mine rest d.slots wide

-- Marking the places of a layout gives those of the marked layout, and leaves what stands behind them.
pub places_marked :
    (rack : List Disk) (layout held : List (List Item)) (old : List ℕ) → disks_accepted rack layout ≡ true → Each NoneUnused held
    → written (marked_places rack (places rack layout ++ old) held) (places rack layout ++ old) ≡ places rack (map (map halves_of) (marked held layout)) ++ old
places_marked [] [] held old e none = refl
places_marked [] (xs ∷ layout) held old e none = false_true e
places_marked (d ∷ ds) [] held old e none = false_true e
places_marked (d ∷ ds) (xs ∷ layout) [] old e none =
    ap (λ (l : List (List Item)). places (d ∷ ds) l ++ old) (sym (marked_none (xs ∷ layout)))
places_marked (d ∷ ds) (xs ∷ layout) (h ∷ held) old e none =
    ap (λ (l : List ℕ). written (marked_places (d ∷ ds) l (h ∷ held)) l) (append_assoc here (places ds layout) old)
    ∙ ap₂ (λ (a b : List ℕ). written (map (marked_entry h) a ++ marked_places ds b held) (here ++ later))
    (first_places d xs few later) (other_places d xs few later)
    ∙ ap (λ (a : List ℕ). written (a ++ marked_places ds later held) (here ++ later)) same
    ∙ sym (written_more there (marked_places ds later held) (here ++ later))
    ∙ ap (λ (n : ℕ). there ++ written (marked_places ds later held) (drop n (here ++ later))) wide_there
    ∙ ap (λ (l : List ℕ). there ++ written (marked_places ds later held) l) (other_places d xs few later)
    ∙ ap (λ (l : List ℕ). there ++ l) (places_marked ds layout held old both.1 none.1)
    ∙ sym (append_assoc there (places ds (map (map halves_of) (marked held layout))) old)
  where
    both : (disk_accepted d xs ≡ true) × (disks_accepted ds layout ≡ true)
    both = both_true (disk_accepted d xs) (disks_accepted ds layout) e

    few : length xs ≤ d.slots
    few = disk_count d xs both.0

    here : List ℕ
    here = padded d.slots (map entry_of xs)

    there : List ℕ
    there = padded d.slots (map entry_of (map halves_of (marked_disk h xs)))

    later : List ℕ
    later = places ds layout ++ old

    same : map (marked_entry h) here ≡ there
    same = map_padded (marked_entry h) (zero_kept h none.0) d.slots (map entry_of xs) (map entry_of (map halves_of (marked_disk h xs))) (disk_marked d.load h xs (disk_entries d xs both.0))

    wide_there : length there ≡ d.slots
    wide_there = sym (ap length same) ∙ length-map here (marked_entry h) ∙ wide d xs few later

-- Without marks the places of a marked layout are those of the layout.
pub places_unmarked :
    (rack : List Disk) (layout earlier : List (List Item)) → disks_accepted rack layout ≡ true
    → map unmarked_entry (places rack (map (map halves_of) (marked earlier layout))) ≡ places rack layout
places_unmarked [] [] earlier e = refl
places_unmarked [] (xs ∷ layout) earlier e = false_true e
places_unmarked (d ∷ ds) [] earlier e = false_true e
places_unmarked (d ∷ ds) (xs ∷ layout) earlier e = go earlier (places_unmarked ds layout)
  where
    both : (disk_accepted d xs ≡ true) × (disks_accepted ds layout ≡ true)
    both = both_true (disk_accepted d xs) (disks_accepted ds layout) e

    one : (held : List Item) (more : List (List Item))
        → (disks_accepted ds layout ≡ true → map unmarked_entry (places ds (map (map halves_of) (marked more layout))) ≡ places ds layout)
        → map unmarked_entry (padded d.slots (map entry_of (map halves_of (marked_disk held xs))) ++ places ds (map (map halves_of) (marked more layout)))
        ≡ padded d.slots (map entry_of xs) ++ places ds layout
    one held more later =
        map_append unmarked_entry refl (padded d.slots (map entry_of (map halves_of (marked_disk held xs)))) _
        ∙ ap₂ ◌++◌ (map_padded unmarked_entry refl d.slots (map entry_of (map halves_of (marked_disk held xs))) (map entry_of xs) (disk_unmarked d.load held xs (disk_entries d xs both.0)))
        (later both.1)

    go : (earlier : List (List Item))
        → ((more : List (List Item)) → disks_accepted ds layout ≡ true → map unmarked_entry (places ds (map (map halves_of) (marked more layout))) ≡ places ds layout)
        → map unmarked_entry (places (d ∷ ds) (map (map halves_of) (marked earlier (xs ∷ layout)))) ≡ places (d ∷ ds) (xs ∷ layout)
    go [] later = one [] [] (later [])
    go (held ∷ more) later = one held more (later more)
