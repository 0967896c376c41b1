-- Rounds that are not free at two ends are kept busy by a transfer each that touches one of them.
use mathlib.Core.Path.{◌≡◌, refl, ap}
use mathlib.Core.Bool.{Bool, true, false, cond, not, ◌&&◌, ◌||◌}
use mathlib.Core.List.{List, [], ◌∷◌}
use Prim.Native.Nat.{ℕ, ◌+◌, ◌≤◌, ◌<◌}
use native.Mathlib.Omega.{arith}
use borrow.Author.Tests.{eq-eqb, ne_eqb}
use lib.Dec.{eqb}
use lib.ListN.{length}
use Rattle.transfer_schedule.specs.Schedule.{Transfer, takes_part, busy_in, both_free}
use Rattle.transfer_schedule.specs.Counts.{count_by, values_from, row_sum}
use Rattle.transfer_schedule.specs.Words.{parts_of}
use Rattle.transfer_schedule.proofs.Values.{sum_none, sum_add, sum_le, sum_single, sum_all}
use Rattle.transfer_schedule.proofs.TableSum.{count_few}

-- A transfer touches one of two ends.
abbrev touches : ℕ → ℕ → Transfer → Bool
touches s d t = takes_part s t || takes_part d t

-- How many of n rounds from one on are not free at both ends.
abbrev taken : List Transfer → ℕ → ℕ → ℕ → ℕ → ℕ
taken ts s d round n = row_sum (values_from (λ (r : ℕ). cond (both_free ts s d r) 0 1) round n)

-- A round is not free with a transfer more only where it was not before, or is the round of that transfer, which touches an end.
one_more :
    (e p q x y : Bool)
    → cond (not ((e && p) || x) && not ((e && q) || y)) 0 1 ≤ cond (e && (p || q)) 1 0 + cond (not x && not y) 0 1
one_more false p q x y = omega arith
one_more true true q x y = omega arith
one_more true false true true y = omega arith
one_more true false true false y = omega arith
one_more true false false x y = omega arith

-- The round of a transfer is one.
one_round : (i : ℕ) (b : Bool) (round n : ℕ) → row_sum (values_from (λ (r : ℕ). cond (eqb r i && b) 1 0) round n) ≤ cond b 1 0
one_round i b round n =
    let own : cond {A = ℕ} (eqb i i && b) 1 0 ≡ cond b 1 0 = ap (λ (c : Bool). cond {A = ℕ} (c && b) 1 0) (eq-eqb i i refl) in
    omega (
      arith,
      own,
      sum_single (λ (r : ℕ). cond (eqb r i && b) 1 0) round n i (λ r other. ap (λ (c : Bool). cond (c && b) 1 0) (ne_eqb r i other)),
    )

module _ (s d : ℕ) where
  -- At most as many rounds are taken as transfers touch one of the ends.
  taken_few : (ts : List Transfer) (round n : ℕ) → taken ts s d round n ≤ count_by (touches s d) ts
  taken_few [] round n = omega (arith, sum_none (λ (r : ℕ). 0) round n (λ r h. refl))
  taken_few (t ∷ ts) round n =
      omega (
        arith,
        sum_le (λ (r : ℕ). cond (both_free (t ∷ ts) s d r) 0 1) (λ (r : ℕ). mine r + before r) round n
            (λ r. one_more (eqb r t.round) (takes_part s t) (takes_part d t) (busy_in ts s r) (busy_in ts d r)),
        sum_add mine before round n,
        one_round t.round (touches s d t) round n,
        taken_few ts round n,
      )
    where
      mine : ℕ → ℕ
      mine r = cond (eqb r t.round && touches s d t) 1 0

      before : ℕ → ℕ
      before r = cond (both_free ts s d r) 0 1

  -- Transfers that touch one of two ends touch the one or the other.
  touching_parts : (ts : List Transfer) → count_by (touches s d) ts ≤ parts_of s ts + parts_of d ts
  touching_parts [] = omega arith
  touching_parts (t ∷ ts) = omega (arith, either (takes_part s t) (takes_part d t), touching_parts ts)
    where
      either : (a b : Bool) → cond (a || b) 1 0 ≤ cond a 1 0 + cond b 1 0
      either true b = omega arith
      either false b = omega arith

-- Rounds of which none is free,
module _ (ts : List Transfer) (s d round n : ℕ) (busy : (r : ℕ) → round ≤ r → r < round + n → both_free ts s d r ≡ false) where
  busy_touched : n ≤ count_by (touches s d) ts
  busy_touched =
      omega (
        arith,
        taken_few s d ts round n,
        sum_all (λ (r : ℕ). cond (both_free ts s d r) 0 1) round n (λ r h less. ap (λ (b : Bool). cond b 0 1) (busy r h less)),
      )

  -- are at most as many as transfers,
  pub busy_most : n ≤ length ts
  busy_most = omega (arith, busy_touched, count_few (touches s d) ts)

  -- and as those in which the one end takes part and those in which the other does.
  pub busy_few : n ≤ parts_of s ts + parts_of d ts
  busy_few = omega (arith, busy_touched, touching_parts s d ts)
