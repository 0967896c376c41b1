-- The earliest round free at both ends: it is free, those before it are not, and how late it is at the most.
use mathlib.Core.Path.{◌≡◌, refl, ap, ◌∙◌}
use mathlib.Core.Bool.{Bool, true, false, cond}
use mathlib.Core.List.{List}
use Prim.Native.Nat.{ℕ, zero, suc, ◌+◌, ◌≤◌, ◌<◌}
use native.Mathlib.Omega.{arith}
use lib.ListN.{length}
use Rattle.placement.proofs.Tests.{by_test, by_order}
use Rattle.transfer_schedule.specs.Schedule.{Transfer, both_free, earliest_from, earliest}
use Rattle.transfer_schedule.specs.Words.{parts_of}
use Rattle.transfer_schedule.proofs.BusyRounds.{busy_most, busy_few}

module _ (ts : List Transfer) (s d : ℕ) where
  -- The earliest of n rounds from one on is not before that one.
  from_first : (n round : ℕ) → round ≤ earliest_from n ts s d round
  from_first zero round = omega arith
  from_first (suc n) round = go (both_free ts s d round) (from_first n (suc round))
    where
      go : (b : Bool) → suc round ≤ earliest_from n ts s d (suc round) → round ≤ cond b round (earliest_from n ts s d (suc round))
      go true later = omega arith
      go false later = omega arith

  -- Those before it are not free.
  from_least :
      (n round r : ℕ) → round ≤ r → r < earliest_from n ts s d round → both_free ts s d r ≡ false
  from_least zero round r h less = absurd (omega arith)
  from_least (suc n) round r h less = go (both_free ts s d round) refl less (from_least n (suc round) r)
    where
      go : (b : Bool) → both_free ts s d round ≡ b → r < cond b round (earliest_from n ts s d (suc round))
          → (round < r → r < earliest_from n ts s d (suc round) → both_free ts s d r ≡ false) → both_free ts s d r ≡ false
      go true e less later = absurd (omega arith)
      go false e less later =
          by_order round r (λ more. later more less) (λ same. ap (both_free ts s d) (omega arith) ∙ e)

  -- It is free, or the one behind them.
  from_free :
      {P : Type 0} (n round : ℕ) → (both_free ts s d (earliest_from n ts s d round) ≡ true → P)
      → (earliest_from n ts s d round ≡ round + n → P) → P
  from_free zero round free last = last (omega arith)
  from_free {P} (suc n) round free last = go (both_free ts s d round) refl free last (from_free {P = P} n (suc round))
    where
      go : (b : Bool) → both_free ts s d round ≡ b
          → (both_free ts s d (cond b round (earliest_from n ts s d (suc round))) ≡ true → P)
          → (cond b round (earliest_from n ts s d (suc round)) ≡ round + suc n → P)
          → ((both_free ts s d (earliest_from n ts s d (suc round)) ≡ true → P) → (earliest_from n ts s d (suc round) ≡ suc round + n → P) → P)
          → P
      go true e free last later = free e
      go false e free last later = later free (λ is. last (omega arith))

  -- Rounds are counted from 1.
  pub earliest_from_lem : 1 ≤ earliest ts s d
  earliest_from_lem = from_first (length ts) 1

  -- Those before the earliest are not free.
  pub earliest_least : (r : ℕ) → 1 ≤ r → r < earliest ts s d → both_free ts s d r ≡ false
  earliest_least r h less = from_least (length ts) 1 r h less

  -- So they are at most as many as all transfers, and as those of the one end and of the other.
  pub earliest_most : earliest ts s d ≤ length ts + 1
  earliest_most = go (earliest ts s d) earliest_from_lem earliest_least
    where
      go : (e : ℕ) → 1 ≤ e → ((r : ℕ) → 1 ≤ r → r < e → both_free ts s d r ≡ false) → e ≤ length ts + 1
      go zero some least = absurd (omega arith)
      go (suc n) some least = omega (arith, busy_most ts s d 1 n (λ r h less. least r h (omega arith)))

  pub earliest_few : earliest ts s d ≤ parts_of s ts + parts_of d ts + 1
  earliest_few = go (earliest ts s d) earliest_from_lem earliest_least
    where
      go : (e : ℕ) → 1 ≤ e → ((r : ℕ) → 1 ≤ r → r < e → both_free ts s d r ≡ false) → e ≤ parts_of s ts + parts_of d ts + 1
      go zero some least = absurd (omega arith)
      go (suc n) some least = omega (arith, busy_few ts s d 1 n (λ r h less. least r h (omega arith)))

  -- The round behind as many as there are transfers is not kept busy too.
  behind_free : both_free ts s d (earliest ts s d) ≡ false → earliest ts s d ≡ 1 + length ts → ⊥
  behind_free e last = omega (arith, busy_most ts s d 1 (suc (length ts)) busy)
    where
      busy : (r : ℕ) → 1 ≤ r → r < 1 + suc (length ts) → both_free ts s d r ≡ false
      busy r h less =
          by_order r (earliest ts s d) (λ before. earliest_least r h before)
          (λ more. ap (both_free ts s d) (omega (arith, last)) ∙ e)

  -- Both ends are free in the earliest round.
  pub earliest_free : both_free ts s d (earliest ts s d) ≡ true
  earliest_free =
      by_test (both_free ts s d (earliest ts s d)) (λ e. e)
      (λ e. from_free (length ts) 1 (λ free. free) (λ last. absurd (behind_free e last)))
