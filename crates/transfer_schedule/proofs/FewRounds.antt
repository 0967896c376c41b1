-- "With d the most transfers touching one disk or the loader, the schedule takes at most 2d − 1 rounds."
use mathlib.Core.Path.{◌≡◌, refl, ap, subst, ◌∙◌}
use mathlib.Core.Bool.{Bool, true, cond}
use mathlib.Core.List.{List, [], ◌∷◌, ◌++◌}
use Prim.Native.Nat.{ℕ, zero, suc, ◌+◌, ◌-◌, ◌*◌, ◌≤◌, ◌<◌, max}
use native.Mathlib.Omega.{arith}
use borrow.Author.Tests.{eq-eqb}
use lib.Dec.{eqb}
use Rattle.placement.specs.WellFormed.{Each}
use Rattle.placement.proofs.Tests.{by_order}
use Rattle.transfer_schedule.specs.Stored.{StoredCopy}
use Rattle.transfer_schedule.specs.Schedule.{Transfer, takes_part, transfer_for, placed_with, lacking, schedule, rounds_of}
use Rattle.transfer_schedule.specs.Counts.{values_from, ends}
use Rattle.transfer_schedule.specs.Fits.{CopyFits}
use Rattle.transfer_schedule.specs.Words.{parts_of, largest, most_parts}
use Rattle.transfer_schedule.proofs.TableSum.{count_last}
use Rattle.transfer_schedule.proofs.Placing.{place_keeps}
use Rattle.transfer_schedule.proofs.Lacking.{lacking_each}
use Rattle.transfer_schedule.proofs.Either.{first_holds, second_holds}
use Rattle.transfer_schedule.proofs.Sources.{source_fits}
use Rattle.transfer_schedule.proofs.Earliest.{earliest_few}

-- A value is at most the largest,
largest_at : (f : ℕ → ℕ) (k n i : ℕ) → k ≤ i → i < k + n → f i ≤ largest (values_from f k n)
largest_at f k zero i h less = absurd (omega arith)
largest_at f k (suc n) i h less =
    by_order k i
    (λ later. omega (arith, largest_at f (suc k) n i later (omega arith)))
    (λ here.
    let same : f i ≡ f k = ap f (omega arith) in
    omega (arith, same))

-- which grows with the values.
largest_le : (f g : ℕ → ℕ) (k n : ℕ) → ((j : ℕ) → f j ≤ g j) → largest (values_from f k n) ≤ largest (values_from g k n)
largest_le f g k zero less = omega arith
largest_le f g k (suc n) less = omega (arith, less k, largest_le f g (suc k) n less)

-- The number of rounds with a transfer more.
pub rounds_last : (ts : List Transfer) (t : Transfer) → rounds_of (ts ++ (t ∷ [])) ≡ max (rounds_of ts) t.round
rounds_last [] t = omega arith
rounds_last (x ∷ ts) t = omega (arith, rounds_last ts t)

-- A transfer's own ends take part in it.
source_part : (t : Transfer) → takes_part t.source t ≡ true
source_part t = first_holds (eqb t.source t.source) (eqb t.source t.destination) (eq-eqb t.source t.source refl)

destination_part : (t : Transfer) → takes_part t.destination t ≡ true
destination_part t =
    second_holds (eqb t.destination t.source) (eqb t.destination t.destination) (eq-eqb t.destination t.destination refl)

-- With a transfer more an end takes part in no fewer, and an end of its own in one more.
module _ (ts : List Transfer) (t : Transfer) where
  parts_more : (end : ℕ) → parts_of end ts ≤ parts_of end (ts ++ (t ∷ []))
  parts_more end = omega (arith, count_last (takes_part end) ts t)

  parts_own : (end : ℕ) → takes_part end t ≡ true → parts_of end (ts ++ (t ∷ [])) ≡ parts_of end ts + 1
  parts_own end part = count_last (takes_part end) ts t ∙ ap (λ (b : Bool). parts_of end ts + cond b 1 0) part

  -- So the most grows,
  most_more : most_parts ts ≤ most_parts (ts ++ (t ∷ []))
  most_more = largest_le (λ (end : ℕ). parts_of end ts) (λ (end : ℕ). parts_of end (ts ++ (t ∷ []))) 0 ends parts_more

-- and it is at least what an end has.
most_at : (ts : List Transfer) (end : ℕ) → end < ends → parts_of end ts ≤ most_parts ts
most_at ts end h = largest_at (λ (e : ℕ). parts_of e ts) 0 ends end (omega arith) (omega arith)

-- The numbers of it: a round behind at most s + d others, of ends that take part in one transfer more.
by_numbers :
    (rounds round after most more s d : ℕ) → after ≡ max rounds round → rounds ≤ 2 * most - 1 → most ≤ more → round ≤ s + d + 1
    → s + 1 ≤ more → d + 1 ≤ more → after ≤ 2 * more - 1
by_numbers rounds round after most more s d is few grows earliest source destination = omega arith

-- With d at least 1 this is 2d − 1.
at_least_one : (rounds most : ℕ) → rounds ≤ 2 * most - 1 → 1 ≤ most → rounds + 1 ≤ 2 * most
at_least_one rounds most few some = omega arith

-- One transfer more, in the earliest round.
few_more :
    (old : List StoredCopy) → Each CopyFits old → (placed : List Transfer) (c : StoredCopy) → CopyFits c
    → rounds_of placed ≤ 2 * most_parts placed - 1 → rounds_of (placed_with old c placed) ≤ 2 * most_parts (placed_with old c placed) - 1
few_more old fit placed c fits few =
    by_numbers (rounds_of placed) t.round (rounds_of (placed_with old c placed)) (most_parts placed) (most_parts (placed_with old c placed))
    (parts_of t.source placed) (parts_of t.destination placed) (rounds_last placed t) few (most_more placed t)
    (earliest_few placed t.source t.destination)
    (own t.source (omega (arith, source_fits old c.film fit)) (source_part t))
    (own t.destination (omega (arith, fits.disk)) (destination_part t))
  where
    t : Transfer
    t = transfer_for old placed c

    own : (end : ℕ) → end < ends → takes_part end t ≡ true → parts_of end placed + 1 ≤ most_parts (placed_with old c placed)
    own end h part =
        subst (λ (n : ℕ). n ≤ most_parts (placed_with old c placed)) (parts_own placed t end part) (most_at (placed_with old c placed) end h)

-- So it is for all.
pub few_rounds :
    (old new : List StoredCopy) → Each CopyFits old → Each CopyFits new → 1 ≤ most_parts (schedule old new)
    → rounds_of (schedule old new) + 1 ≤ 2 * most_parts (schedule old new)
few_rounds old new olds news some =
    at_least_one (rounds_of (schedule old new)) (most_parts (schedule old new))
    (place_keeps old (λ ts. rounds_of ts ≤ 2 * most_parts ts - 1) CopyFits (λ placed c fits. few_more old olds placed c fits) [] (lacking old new)
    (lacking_each old CopyFits new news) (omega arith)) some
