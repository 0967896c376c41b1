-- A rack whose entries differ has a disk with fewer slots than the most: with one ratio, disks of equal slots are equal.
use mathlib.Core.Path.{◌≡◌, refl, sym, ap, ◌∙◌}
use mathlib.Core.Bool.{true, false, ◌&&◌}
use mathlib.Core.List.{List, [], ◌∷◌}
use Prim.Native.Nat.{ℕ, ◌+◌, ◌-◌, ◌*◌, ◌≤◌, min}
use native.Mathlib.Omega.{arith}
use borrow.Author.Tests.{eq-eqb}
use lib.Dec.{eqb}
use Rattle.placement.specs.Rack.{Disk, most_slots, rack_accepted, all_like, all_equal}
use Rattle.placement.specs.WellFormed.{Each}
use Rattle.placement.proofs.Tests.{by_order}
use Rattle.placement.proofs.Conjunctions.{and_holds, false_true}
use Rattle.placement.proofs.Racks.{accepted_disks}
use Rattle.placement.proofs.DiskRanges.{DiskInRange, OfRatio, accepted_range, accepted_ratio}

-- 1 for a disk with fewer slots than the most, and how many there are.
abbrev pub shorter : Disk → ℕ
shorter d = min 1 (most_slots - d.slots)

abbrev pub shorter_disks : List Disk → ℕ
shorter_disks [] = 0
shorter_disks (d ∷ ds) = shorter d + shorter_disks ds

-- A disk of the most slots and a ratio is determined.
load_same : (k l : ℕ) (d : Disk) → k ≡ most_slots → d.slots ≡ most_slots → OfRatio k l d → l ≡ d.load
load_same k l d most_is slots_is ratio =
    let mine : d.load * k ≡ d.load * 32 = ap (λ (x : ℕ). d.load * x) most_is in
    let theirs : l * d.slots ≡ l * 32 = ap (λ (x : ℕ). l * x) slots_is in
    omega (arith, mine, theirs, ratio)

-- Without such a disk all are alike.
full_alike : (k l : ℕ) (ds : List Disk) → k ≡ most_slots → Each DiskInRange ds → Each (OfRatio k l) ds → shorter_disks ds ≡ 0
    → all_like k l ds ≡ true
full_alike k l [] most_is range ratio none' = refl
full_alike k l (d ∷ ds) most_is range ratio none' =
    let slots_is : d.slots ≡ most_slots = omega (arith, range.0.slots) in
    and_holds (eqb k d.slots && eqb l d.load) (all_like k l ds)
    (and_holds (eqb k d.slots) (eqb l d.load) (eq-eqb k d.slots (most_is ∙ sym slots_is))
    (eq-eqb l d.load (load_same k l d most_is slots_is ratio.0)))
    (full_alike k l ds most_is range.1 ratio.1 (omega arith))

pub unequal_shorter : (rack : List Disk) → rack_accepted rack ≡ true → all_equal rack ≡ false → 1 ≤ shorter_disks rack
unequal_shorter [] e unequal = absurd (omega (arith, (accepted_disks [] e).0))
unequal_shorter (d ∷ ds) e unequal =
    by_order (shorter_disks (d ∷ ds)) 1
    (λ less.
    let most_is : d.slots ≡ most_slots = omega (arith, range.0.slots) in
    false_true (sym unequal ∙ full_alike d.slots d.load (d ∷ ds) most_is range (accepted_ratio (d ∷ ds) e) (omega arith)))
    (λ more. more)
  where
    range : Each DiskInRange (d ∷ ds)
    range = accepted_range (d ∷ ds) e
