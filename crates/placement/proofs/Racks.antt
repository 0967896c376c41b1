-- Racks of equal disks: their slots and streams, and which of them are accepted. What an accepted rack has.
use mathlib.Core.Path.{◌≡◌, refl, sym, ap, ap₂, ◌∙◌}
use mathlib.Core.Bool.{Bool, true, false, ◌&&◌}
use mathlib.Core.List.{List, [], ◌∷◌}
use Prim.Native.Nat.{ℕ, zero, suc, ◌*◌, ◌≤◌, min}
use native.Mathlib.Nat.{zero-mul, suc-mul}
use native.Mathlib.Omega.{arith}
use lib.Dec.{eqb}
use borrow.Author.Tests.{eqb-true}
use lib.ListN.{length, length-replicate}
use store.Seg.{eqb_same}
use Rattle.placement.specs.Rack.{Disk, disk, rack_of, all_slots, all_loads, first_slots, first_load, least_from, least_slots, most_disks, most_slots, most_load, in_range, disk_in_range, all_in_range, disks_in_range, all_same_ratio, all_like, all_equal, sizes_in_range, rack_accepted}
use Rattle.placement.proofs.Conjunctions.{both_true}
use Rattle.placement.proofs.Tests.{in_range_bounds}

-- N equal disks have N times the slots of one, and N times its streams.
pub rack_slots : (n k l : ℕ) → all_slots (rack_of n k l) ≡ n * k
rack_slots zero k l = omega (arith, zero-mul k)
rack_slots (suc n) k l = omega (arith, suc-mul n k, rack_slots n k l)

pub rack_loads : (n k l : ℕ) → all_loads (rack_of n k l) ≡ n * l
rack_loads zero k l = omega (arith, zero-mul l)
rack_loads (suc n) k l = omega (arith, suc-mul n l, rack_loads n k l)

-- They are N.
pub rack_length : (n k l : ℕ) → length (rack_of n k l) ≡ n
rack_length n k l = length-replicate n (disk k l)

-- They are all alike.
rack_alike : (n k l : ℕ) → all_like k l (rack_of n k l) ≡ true
rack_alike zero k l = refl
rack_alike (suc n) k l =
    ap₂ ◌&&◌ (ap₂ ◌&&◌ (eqb_same k) (eqb_same l)) (rack_alike n k l)

pub rack_equal : (n k l : ℕ) → all_equal (rack_of n k l) ≡ true
rack_equal zero k l = refl
rack_equal (suc n) k l = rack_alike (suc n) k l

-- A test and a further one that holds, or the same one.
and_true : (a : Bool) → (a && true) ≡ a
and_true true = refl
and_true false = refl

and_same : (a : Bool) → (a && a) ≡ a
and_same true = refl
and_same false = refl

-- They are in range where one is,
rack_range : (n k l : ℕ) → all_in_range (rack_of (suc n) k l) ≡ disk_in_range (disk k l)
rack_range zero k l = and_true (disk_in_range (disk k l))
rack_range (suc n) k l =
    ap (λ (b : Bool). disk_in_range (disk k l) && b) (rack_range n k l) ∙ and_same (disk_in_range (disk k l))

-- and of one ratio.
rack_ratio : (n k l : ℕ) → all_same_ratio k l (rack_of n k l) ≡ true
rack_ratio zero k l = refl
rack_ratio (suc n) k l = ap₂ ◌&&◌ (eqb_same (l * k)) (rack_ratio n k l)

-- N equal disks are accepted where N, k and L are in range.
pub rack_accepted_lem : (n k l : ℕ) → rack_accepted (rack_of n k l) ≡ sizes_in_range n k l
rack_accepted_lem zero k l = refl
rack_accepted_lem (suc n) k l =
    ap₂ (λ (m : ℕ) (inside : Bool). (in_range most_disks m && inside) && all_same_ratio k l (rack_of (suc n) k l)) (rack_length (suc n) k l)
    (rack_range n k l)
    ∙ ap (λ (b : Bool). sizes_in_range (suc n) k l && b) (rack_ratio (suc n) k l)
    ∙ and_true (sizes_in_range (suc n) k l)

-- The smallest slots of equal disks are theirs.
least_equal : (n k l : ℕ) → least_from k (rack_of n k l) ≡ k
least_equal zero k l = refl
least_equal (suc n) k l =
    ap (λ (m : ℕ). least_from m (rack_of n k l)) least ∙ least_equal n k l
  where
    least : min k k ≡ k
    least = omega arith

pub rack_least : (n k l : ℕ) → 1 ≤ n → least_slots (rack_of n k l) ≡ k
rack_least zero k l some = absurd (omega arith)
rack_least (suc n) k l some = least_equal (suc n) k l

-- Disks that are all alike are equal disks.
alike_equal : (k l : ℕ) (rack : List Disk) → all_like k l rack ≡ true → rack ≡ rack_of (length rack) k l
alike_equal k l [] e = refl
alike_equal k l (d ∷ ds) e =
    let both = both_true (eqb k d.slots && eqb l d.load) (all_like k l ds) e in
    let same = both_true (eqb k d.slots) (eqb l d.load) both.0 in
    ap₂ (λ (x : Disk) (xs : List Disk). x ∷ xs)
    (ap₂ disk (sym (eqb-true k d.slots same.0)) (sym (eqb-true l d.load same.1))) (alike_equal k l ds both.1)

-- A rack whose disks are equal is one of N equal disks.
pub equal_disks : (rack : List Disk) → all_equal rack ≡ true → rack ≡ rack_of (length rack) (first_slots rack) (first_load rack)
equal_disks rack e = alike_equal (first_slots rack) (first_load rack) rack e

-- Disks in range have at most so many slots and streams.
pub range_slots : (ds : List Disk) → all_in_range ds ≡ true → all_slots ds ≤ length ds * most_slots
range_slots [] e = omega arith
range_slots (d ∷ ds) e =
    let both = both_true (disk_in_range d) (all_in_range ds) e in
    omega (
      arith,
      (in_range_bounds most_slots d.slots (both_true (in_range most_slots d.slots) _ both.0).0).1,
      range_slots ds both.1,
    )

range_loads : (ds : List Disk) → all_in_range ds ≡ true → all_loads ds ≤ length ds * most_load
range_loads [] e = omega arith
range_loads (d ∷ ds) e =
    let both = both_true (disk_in_range d) (all_in_range ds) e in
    omega (
      arith,
      (in_range_bounds most_load d.load (both_true (in_range most_slots d.slots) _ both.0).1).1,
      range_loads ds both.1,
    )

-- Where the disks are in range, so is disk 1.
first_range : (ds : List Disk) → 1 ≤ length ds → all_in_range ds ≡ true → disk_in_range (disk (first_slots ds) (first_load ds)) ≡ true
first_range [] some e = absurd (omega arith)
first_range (d ∷ ds) some e = (both_true (disk_in_range d) (all_in_range ds) e).0

-- An accepted rack: its disks are in range and of one ratio, and so many are its slots and streams at most.
module _ (rack : List Disk) (e : rack_accepted rack ≡ true) where
  ranges : (in_range most_disks (length rack) ≡ true) × (all_in_range rack ≡ true)
  ranges = both_true (in_range most_disks (length rack)) _ (both_true (disks_in_range rack) _ e).0

  pub accepted_in_range : all_in_range rack ≡ true
  accepted_in_range = ranges.1

  pub accepted_same_ratio : all_same_ratio (first_slots rack) (first_load rack) rack ≡ true
  accepted_same_ratio = (both_true (disks_in_range rack) _ e).1

  pub accepted_disks : (1 ≤ length rack) × (length rack ≤ most_disks)
  accepted_disks = in_range_bounds most_disks (length rack) ranges.0

  inner : (in_range most_slots (first_slots rack) ≡ true) × (in_range most_load (first_load rack) ≡ true)
  inner = both_true (in_range most_slots (first_slots rack)) _ (first_range rack accepted_disks.0 ranges.1)

  pub accepted_slots : (1 ≤ first_slots rack) × (first_slots rack ≤ most_slots)
  accepted_slots = in_range_bounds most_slots (first_slots rack) inner.0

  pub accepted_load : (1 ≤ first_load rack) × (first_load rack ≤ most_load)
  accepted_load = in_range_bounds most_load (first_load rack) inner.1

  pub accepted_all_slots : all_slots rack ≤ most_disks * most_slots
  accepted_all_slots = omega (arith, range_slots rack ranges.1, accepted_disks.1)

  pub accepted_all_loads : all_loads rack ≤ most_disks * most_load
  accepted_all_loads = omega (arith, range_loads rack ranges.1, accepted_disks.1)
