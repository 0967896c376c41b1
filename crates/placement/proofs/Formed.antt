-- Well-formed plans: what the test says of the rack, of each disk's copies and of what is left, and which of them pass it.
use mathlib.Core.Path.{◌≡◌, refl, sym, ap, ◌∙◌}
use mathlib.Core.Bool.{true, ◌&&◌}
use mathlib.Core.List.{List, [], ◌∷◌, map}
use Prim.Native.Nat.{ℕ, zero, suc, ◌≤◌, ◌<◌}
use native.Mathlib.Omega.{arith}
use borrow.Author.Tests.{leb-true, le-leb}
use lib.Dec.{leb}
use lib.ListN.{length, get_or, length-map}
use Rattle.placement.specs.Items.{Item, total}
use Rattle.placement.specs.Copies.{unmarked, layout_of}
use Rattle.placement.specs.Rack.{Disk, all_loads, rack_accepted, in_range, most_plan_film, most_demand}
use Rattle.placement.specs.Method.{served}
use Rattle.placement.specs.Plan.{Plan, most_left, every, distinct_films, copy_accepted, disk_accepted, disks_accepted, all_marks_accepted, ascending_above, left_film_accepted, left_accepted, well_formed, served_of}
use Rattle.placement.specs.Promise.{Distinct}
use Rattle.placement.specs.WellFormed.{Each, Entry}
use Rattle.placement.proofs.Conjunctions.{both_true, and_holds, false_true}
use Rattle.placement.proofs.Tests.{in_range_bounds, in_range_lem}
use Rattle.placement.proofs.Every.{every_each, each_every, distinct_says, distinct_passes}
use Rattle.placement.proofs.Offsets.{disk_at}

-- Accepted copies that sum to at most a number are entries with numbers up to it.
copies_entries : (most : ℕ) (xs : List Item) → every copy_accepted xs ≡ true → total xs ≤ most → Each (Entry most) xs
copies_entries most [] e h = tt
copies_entries most (x ∷ xs) e h =
    let both = both_true (copy_accepted x) (every copy_accepted xs) e in
    let film = in_range_bounds most_plan_film x.film both.0 in (
      record { film_least = film.0; film_most = film.1; amount_most = omega arith },
      copies_entries most xs both.1 (omega arith),
    )

module _ (d : Disk) (copies : List Item) where
  -- The parts of a disk's test: at most k copies, distinct films, each in range, at most L in sum.
  module _ (e : disk_accepted d copies ≡ true) where
    first :
        (leb (length copies) d.slots ≡ true)
        × ((distinct_films copies && (every copy_accepted copies && leb (total copies) d.load)) ≡ true)
    first = both_true (leb (length copies) d.slots) _ e

    last : (every copy_accepted copies ≡ true) × (leb (total copies) d.load ≡ true)
    last = both_true (every copy_accepted copies) _ (both_true (distinct_films copies) _ first.1).1

    pub disk_count : length copies ≤ d.slots
    disk_count = leb-true (length copies) d.slots first.0

    pub disk_distinct : Distinct copies
    disk_distinct = distinct_says copies (both_true (distinct_films copies) _ first.1).0

    pub disk_copies : every copy_accepted copies ≡ true
    disk_copies = last.0

    pub disk_load : total copies ≤ d.load
    disk_load = leb-true (total copies) d.load last.1

    pub disk_entries : Each (Entry d.load) copies
    disk_entries = copies_entries d.load copies disk_copies disk_load

  -- Copies that have them pass it.
  pub disk_accepted_lem :
      (most : ℕ) → length copies ≤ d.slots → Distinct copies → Each (Entry most) copies → total copies ≤ d.load
      → disk_accepted d copies ≡ true
  disk_accepted_lem most count distinct entries load =
      and_holds _ _ (le-leb (length copies) d.slots count)
      (and_holds _ _ (distinct_passes copies distinct)
      (and_holds _ _ (each_every copy_accepted (Entry most) copies
      (λ x h. in_range_lem most_plan_film x.film h.film_least h.film_most) entries)
      (le-leb (total copies) d.load load)))

-- Accepted disks have one list of copies each,
pub disks_length : (rack : List Disk) (layout : List (List Item)) → disks_accepted rack layout ≡ true → length layout ≡ length rack
disks_length [] [] e = refl
disks_length [] (copies ∷ rest) e = false_true e
disks_length (d ∷ ds) [] e = false_true e
disks_length (d ∷ ds) (copies ∷ rest) e = ap suc (disks_length ds rest (both_true (disk_accepted d copies) _ e).1)

-- which the disk's own test accepts,
pub disks_at_lem :
    (rack : List Disk) (layout : List (List Item)) (n : ℕ) → disks_accepted rack layout ≡ true → n < length rack
    → disk_accepted (disk_at rack n) (get_or layout n []) ≡ true
disks_at_lem [] layout n e h = absurd (omega arith)
disks_at_lem (d ∷ ds) [] n e h = false_true e
disks_at_lem (d ∷ ds) (copies ∷ rest) zero e h = (both_true (disk_accepted d copies) _ e).0
disks_at_lem (d ∷ ds) (copies ∷ rest) (suc n) e h = disks_at_lem ds rest n (both_true (disk_accepted d copies) _ e).1 (omega arith)

-- and serve at most all loads.
pub disks_served : (rack : List Disk) (layout : List (List Item)) → disks_accepted rack layout ≡ true → served layout ≤ all_loads rack
disks_served [] [] e = omega arith
disks_served [] (copies ∷ rest) e = false_true e
disks_served (d ∷ ds) [] e = false_true e
disks_served (d ∷ ds) (copies ∷ rest) e =
    let both = both_true (disk_accepted d copies) (disks_accepted ds rest) e in
    omega (arith, disk_load d copies both.0, disks_served ds rest both.1)

module _ (left : List Item) where
  -- The parts of the test of what is left: at most 1,024 films, which ascend strictly, each in range with its amount.
  module _ (e : left_accepted left ≡ true) where
    pub left_count : length left ≤ most_left
    left_count = leb-true (length left) most_left (both_true (leb (length left) most_left) _ e).0

    pub left_ascending : ascending_above 0 left ≡ true
    left_ascending = (both_true (ascending_above 0 left) _ (both_true (leb (length left) most_left) _ e).1).0

    pub left_films_lem : every left_film_accepted left ≡ true
    left_films_lem = (both_true (ascending_above 0 left) _ (both_true (leb (length left) most_left) _ e).1).1

    pub left_entries : Each (Entry most_demand) left
    left_entries = every_each left_film_accepted (Entry most_demand) left says left_films_lem
      where
        says : (x : Item) → left_film_accepted x ≡ true → Entry most_demand x
        says x h =
            let both = both_true (in_range most_plan_film x.film) (leb x.amount most_demand) h in
            record {
              film_least = (in_range_bounds most_plan_film x.film both.0).0;
              film_most = (in_range_bounds most_plan_film x.film both.0).1;
              amount_most = leb-true x.amount most_demand both.1;
            }

  -- What has them passes it.
  pub left_accepted_lem : length left ≤ most_left → ascending_above 0 left ≡ true → Each (Entry most_demand) left → left_accepted left ≡ true
  left_accepted_lem count ascending entries =
      and_holds _ _ (le-leb (length left) most_left count)
      (and_holds _ _ ascending
      (each_every left_film_accepted (Entry most_demand) left
      (λ x h. and_holds _ _ (in_range_lem most_plan_film x.film h.film_least h.film_most)
      (le-leb x.amount most_demand h.amount_most)) entries))

-- The parts of a plan's test.
module _ (p : Plan) (e : well_formed p ≡ true) where
  pub plan_rack : rack_accepted p.rack ≡ true
  plan_rack = (both_true (rack_accepted p.rack) _ e).0

  pub plan_disks : disks_accepted p.rack (layout_of p.copies) ≡ true
  plan_disks = (both_true (disks_accepted p.rack (layout_of p.copies)) _ (both_true (rack_accepted p.rack) _ e).1).0

  behind : (all_marks_accepted p.copies ≡ true) × (left_accepted p.left ≡ true)
  behind =
      both_true (all_marks_accepted p.copies) (left_accepted p.left)
      (both_true (disks_accepted p.rack (layout_of p.copies)) _ (both_true (rack_accepted p.rack) _ e).1).1

  pub plan_marks : all_marks_accepted p.copies ≡ true
  plan_marks = behind.0

  pub plan_left : left_accepted p.left ≡ true
  plan_left = behind.1

  -- The number of lists of copies, and S.
  pub plan_lists : length p.copies ≡ length p.rack
  plan_lists = sym (length-map p.copies (map unmarked)) ∙ disks_length p.rack (layout_of p.copies) plan_disks

  pub plan_served : served_of p ≤ all_loads p.rack
  plan_served = disks_served p.rack (layout_of p.copies) plan_disks

-- A plan whose parts pass is well formed.
pub plan_formed :
    (p : Plan) → rack_accepted p.rack ≡ true → disks_accepted p.rack (layout_of p.copies) ≡ true → all_marks_accepted p.copies ≡ true
    → left_accepted p.left ≡ true → well_formed p ≡ true
plan_formed p rack disks marks left =
    and_holds (rack_accepted p.rack) _ rack
    (and_holds (disks_accepted p.rack (layout_of p.copies)) _ disks (and_holds (all_marks_accepted p.copies) _ marks left))
