-- Reading the lent tables back gives what was written into them: the copies disk by disk, and the left films.
use mathlib.Core.Path.{◌≡◌, refl, ap, ap₂, ◌∙◌}
use mathlib.Core.Bool.{true}
use mathlib.Core.List.{List, [], ◌∷◌, ◌++◌, map, append_assoc}
use Prim.Native.Nat.{ℕ, ◌≤◌, ◌<◌}
use native.Mathlib.Omega.{arith}
use lib.ListN.{length, take, drop, length-append, length-map}
use lib.Seq.{length-take-le}
use Rattle.placement.specs.Items.{Item}
use Rattle.placement.specs.Copies.{Copy, unmarked, layout_of, halves_of, copy_of}
use Rattle.placement.specs.Rack.{Disk, all_slots, most_demand}
use Rattle.placement.specs.Tables.{Tables, tables, entry_of, item_in, padded, written, places, holding}
use Rattle.placement.specs.Held.{front, copies_from, plan_held}
use Rattle.placement.specs.Plan.{Plan, disk_accepted, disks_accepted, marks_accepted, all_marks_accepted, well_formed}
use Rattle.placement.specs.WellFormed.{Each, Entry}
use Rattle.placement.proofs.Conjunctions.{both_true, false_true}
use Rattle.placement.proofs.Each.{each_map}
use Rattle.placement.proofs.EntryNumbers.{items_entries, entries_items}
use Rattle.placement.proofs.Written.{padded_length, padded_front, padded_behind, written_front}
use Rattle.placement.proofs.Formed.{disk_count, disk_entries, left_entries, plan_disks, plan_marks, plan_left}
use Rattle.placement.proofs.MarkedCopies.{layout_halves, halves_length, halves_small}

-- Items whose films have 32 bits are read back from their entries.
abbrev Small : Item → Type 0
Small x = x.film < 4294967296

entries_storable : (most : ℕ) (xs : List Item) → Each (Entry most) xs → Each Small xs
entries_storable most xs entries = each_map (Entry most) Small xs (λ x h. omega (arith, h.film_most)) entries

-- The first n entries of a table that has them are n, and they are the entries of their items.
pub front_length : (n : ℕ) (entries : List ℕ) → n ≤ length entries → length (front n entries) ≡ n
front_length n entries h = length-map (take n entries) item_in ∙ length-take-le n entries h

pub front_entries : (n : ℕ) (entries : List ℕ) → map entry_of (front n entries) ≡ take n entries
front_entries n entries = entries_items (take n entries)

-- Items in the first places of a table are read back, with zeros behind them too.
front_back : (xs : List Item) → Each Small xs → (n : ℕ) (rest : List ℕ) → front (length xs) (padded n (map entry_of xs) ++ rest) ≡ xs
front_back xs small n rest =
    ap (map item_in) (padded_front n (map entry_of xs) rest (length xs) (length-map xs entry_of)) ∙ items_entries xs small

module _ (most : ℕ) (xs : List Item) (entries : Each (Entry most) xs) where
  entries_back : map item_in (map entry_of xs) ≡ xs
  entries_back = items_entries xs (entries_storable most xs entries)

  pub written_back : (old : List ℕ) → front (length xs) (written (map entry_of xs) old) ≡ xs
  written_back old = ap (map item_in) (written_front (map entry_of xs) old (length xs) (length-map xs entry_of)) ∙ entries_back

  pub padded_back : (n : ℕ) (rest : List ℕ) → front (length xs) (padded n (map entry_of xs) ++ rest) ≡ xs
  padded_back n rest = front_back xs (entries_storable most xs entries) n rest

-- Behind a disk's places come those of the next disk.
pub places_behind :
    (d : Disk) (copies : List Item) (rest : List ℕ) → length copies ≤ d.slots
    → drop d.slots (padded d.slots (map entry_of copies) ++ rest) ≡ rest
places_behind d copies rest fits =
    padded_behind d.slots (map entry_of copies) rest (omega (arith, length-map copies entry_of))

-- Each disk has a list of items that fit its slots, with films of 32 bits.
abbrev pub Storable : List Disk → List (List Item) → Type 0
Storable [] [] = Unit {0}
Storable [] (mine ∷ rest) = ⊥
Storable (d ∷ ds) [] = ⊥
Storable (d ∷ ds) (mine ∷ rest) = (length mine ≤ d.slots) × Each Small mine × Storable ds rest

-- The layout of accepted disks fits,
accepted_fits : (rack : List Disk) (layout : List (List Item)) → disks_accepted rack layout ≡ true → Storable rack layout
accepted_fits [] [] e = tt
accepted_fits [] (mine ∷ rest) e = false_true e
accepted_fits (d ∷ ds) [] e = false_true e
accepted_fits (d ∷ ds) (mine ∷ rest) e =
    let both = both_true (disk_accepted d mine) (disks_accepted ds rest) e in
    (disk_count d mine both.0, entries_storable d.load mine (disk_entries d mine both.0), accepted_fits ds rest both.1)

-- and so do the halves of their copies.
halves_fit :
    (rack : List Disk) (copies : List (List Copy)) → disks_accepted rack (layout_of copies) ≡ true → all_marks_accepted copies ≡ true
    → Storable rack (map (map halves_of) copies)
halves_fit [] [] e marks = tt
halves_fit [] (mine ∷ rest) e marks = false_true e
halves_fit (d ∷ ds) [] e marks = false_true e
halves_fit (d ∷ ds) (mine ∷ rest) e marks =
    let both = both_true (disk_accepted d (map unmarked mine)) (disks_accepted ds (layout_of rest)) e in
    let marked = both_true (marks_accepted mine) (all_marks_accepted rest) marks in (
      omega (arith, halves_length mine, disk_count d (map unmarked mine) both.0),
      halves_small d.load mine (disk_entries d (map unmarked mine) both.0) marked.0,
      halves_fit ds rest both.1 marked.1,
    )

pub plan_fits : (p : Plan) → well_formed p ≡ true → Storable p.rack (map (map halves_of) p.copies)
plan_fits p e = halves_fit p.rack p.copies (plan_disks p e) (plan_marks p e)

-- What fits has as many places as slots.
pub fits_length : (rack : List Disk) (layout : List (List Item)) → Storable rack layout → length (places rack layout) ≡ all_slots rack
fits_length [] layout fits = refl
fits_length (d ∷ ds) [] fits = absurd fits
fits_length (d ∷ ds) (mine ∷ rest) fits =
    omega (
      arith,
      length-append (padded d.slots (map entry_of mine)) (places ds rest),
      padded_length d.slots (map entry_of mine) (omega (arith, length-map mine entry_of, fits.0)),
      fits_length ds rest fits.2,
    )

pub places_length :
    (rack : List Disk) (layout : List (List Item)) → disks_accepted rack layout ≡ true → length (places rack layout) ≡ all_slots rack
places_length rack layout e = fits_length rack layout (accepted_fits rack layout e)

-- The entries that stand in the written places are the ones that were written.
fits_read_back :
    (rack : List Disk) (layout : List (List Item)) (copies counts : List ℕ) → Storable rack layout
    → copies_from rack (places rack layout ++ copies) (map length layout ++ counts) ≡ layout
fits_read_back [] [] copies counts fits = refl
fits_read_back [] (mine ∷ rest) copies counts fits = absurd fits
fits_read_back (d ∷ ds) [] copies counts fits = absurd fits
fits_read_back (d ∷ ds) (mine ∷ rest) copies counts fits =
    ap (λ (t : List ℕ). copies_from (d ∷ ds) t (map length (mine ∷ rest) ++ counts))
    (append_assoc (padded d.slots (map entry_of mine)) (places ds rest) copies)
    ∙ ap₂ (λ (x : List Item) (xs : List (List Item)). x ∷ xs) (front_back mine fits.1 d.slots more)
    (ap (λ (t : List ℕ). copies_from ds t (map length rest ++ counts)) (places_behind d mine more fits.0)
    ∙ fits_read_back ds rest copies counts fits.2)
  where
    more : List ℕ
    more = places ds rest ++ copies

pub copies_read_back :
    (rack : List Disk) (layout : List (List Item)) (copies counts : List ℕ) → disks_accepted rack layout ≡ true
    → copies_from rack (places rack layout ++ copies) (map length layout ++ counts) ≡ layout
copies_read_back rack layout copies counts e = fits_read_back rack layout copies counts (accepted_fits rack layout e)

-- Tables whose first places hold the entries of a well-formed plan, and whose left films are read back, hold that plan.
module _ (p : Plan) (e : well_formed p ≡ true) where
  pub plan_read_back :
      (copies counts : List ℕ) (left : List ℕ) → front (length p.left) left ≡ p.left
      → plan_held p.rack
      (tables (places p.rack (map (map halves_of) p.copies) ++ copies) (map length (map (map halves_of) p.copies) ++ counts) left)
      (length p.left)
      ≡ p
  plan_read_back copies counts left same =
      ap₂ (λ (cs : List (List Copy)) (ls : List Item). record { rack = p.rack; copies = cs; left = ls })
      (ap (map (map copy_of)) (fits_read_back p.rack (map (map halves_of) p.copies) copies counts (plan_fits p e))
      ∙ layout_halves p.rack p.copies (plan_disks p e))
      same

  pub padded_held :
      (n : ℕ) (t : Tables)
      → plan_held p.rack (holding p.rack (map (map halves_of) p.copies) (padded n (map entry_of p.left)) t) (length p.left) ≡ p
  padded_held n t = plan_read_back _ _ _ (padded_back most_demand p.left (left_entries p.left (plan_left p e)) n _)
