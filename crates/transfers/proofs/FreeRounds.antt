-- What the table of busy rounds says of free ones: both ends in a round, and the earliest round where both are.
use mathlib.Core.Path.{◌≡◌, refl, sym, ap, ap₂, subst, ◌∙◌}
use mathlib.Core.Bool.{Bool, true, false, not, ◌&&◌}
use mathlib.Core.List.{List}
use mathlib.Core.Logic.{◌⊎◌, inl, inr}
use Prim.Native.Nat.{ℕ, zero, suc, ◌+◌, ◌-◌, ◌*◌, ◌≤◌, ◌<◌}
use native.Mathlib.Numerals.{add-one}
use native.Mathlib.Omega.{arith}
use lib.Dec.{eqb}
use lib.ListN.{get_or}
use Rattle.placement.proofs.Conjunctions.{cond_true, cond_false}
use Rattle.transfer_schedule.specs.Schedule.{Transfer, busy_in, both_free, earliest_from}
use Rattle.transfer_schedule.specs.Counts.{ends}
use Rattle.transfers.specs.Keys.{row_length, flag, BusyTable, NoneFree}

-- A conjunction whose second part fails.
and_second : (a b : Bool) → b ≡ false → (a && b) ≡ false
and_second true b e = e
and_second false b e = refl

-- A flag is 1 where the test holds.
flag_one : (b : Bool) → flag b ≡ 1 → b ≡ true
flag_one true e = refl
flag_one false e = absurd (omega (arith, e))

-- A flag is 0 where the test fails.
flag_free : (b : Bool) → eqb (flag b) 0 ≡ not b
flag_free true = refl
flag_free false = refl

module _ (busy : List ℕ) (placed : List Transfer) (t : BusyTable busy placed) (source destination r : ℕ) (s : source < ends) (d : destination < ends)
    (within : r < row_length) where
  -- Both places say whether both ends are free in round r + 1.
  pub places_free :
      (eqb (get_or busy (source * row_length + r) 0) 0 && eqb (get_or busy (destination * row_length + r) 0) 0)
      ≡ both_free placed source destination (suc r)
  places_free =
      ap₂ (λ (x y : ℕ). eqb x 0 && eqb y 0) (t.rows source r s within) (t.rows destination r d within)
      ∙ ap₂ ◌&&◌ (flag_free (busy_in placed source (suc r))) (flag_free (busy_in placed destination (suc r)))

module _ (n r : ℕ) (less : r < n) (placed : List Transfer) (source destination : ℕ) where
  tries : n - r ≡ suc (n - (r + 1))
  tries = omega arith

  -- Where both ends are free in round r + 1 it is the earliest of those left,
  pub earliest_found : both_free placed source destination (suc r) ≡ true → r + 1 ≡ earliest_from (n - r) placed source destination (suc r)
  earliest_found free =
      rw add-one (sym (ap (λ (k : ℕ). earliest_from k placed source destination (suc r)) tries ∙ cond_true (both_free placed source destination (suc r)) _ _ free))

  -- else one of those behind it is.
  pub earliest_next :
      both_free placed source destination (suc r) ≡ false
      → earliest_from (n - r) placed source destination (suc r) ≡ earliest_from (n - (r + 1)) placed source destination (suc (r + 1))
  earliest_next busy =
      ap (λ (k : ℕ). earliest_from k placed source destination (suc r)) tries
      ∙ cond_false (both_free placed source destination (suc r)) _ _ busy
      ∙ ap (λ (k : ℕ). earliest_from (n - (r + 1)) placed source destination (suc k)) (sym (add-one r))

-- A round in which one of the ends is busy is not free,
not_free :
    (busy : List ℕ) (placed : List Transfer) → BusyTable busy placed → (source destination : ℕ) → source < ends → destination < ends
    → (r : ℕ) → r < row_length → (get_or busy (source * row_length + r) 0 ≡ 1) ⊎ (get_or busy (destination * row_length + r) 0 ≡ 1)
    → both_free placed source destination (suc r) ≡ false
not_free busy placed t source destination s d r within one = go one
  where
    taken : (end : ℕ) → end < ends → get_or busy (end * row_length + r) 0 ≡ 1 → not (busy_in placed end (suc r)) ≡ false
    taken end few one = ap not (flag_one (busy_in placed end (suc r)) (sym (t.rows end r few within) ∙ one))

    go : (get_or busy (source * row_length + r) 0 ≡ 1) ⊎ (get_or busy (destination * row_length + r) 0 ≡ 1)
        → both_free placed source destination (suc r) ≡ false
    go (inl one) = ap (λ (b : Bool). b && not (busy_in placed destination (suc r))) (taken source s one)
    go (inr one) = and_second (not (busy_in placed source (suc r))) (not (busy_in placed destination (suc r))) (taken destination d one)

-- so that such rounds are passed.
pub earliest_passed :
    (busy : List ℕ) (placed : List Transfer) → BusyTable busy placed → (n source destination : ℕ) → source < ends → destination < ends
    → n ≤ row_length → (k : ℕ) → k ≤ n → NoneFree busy source destination k
    → earliest_from n placed source destination 1 ≡ earliest_from (n - k) placed source destination (suc k)
earliest_passed busy placed t n source destination s d few zero up none =
    ap (λ (m : ℕ). earliest_from m placed source destination 1) (let same : n ≡ n - 0 = omega arith in same)
earliest_passed busy placed t n source destination s d few (suc k) up none =
    earliest_passed busy placed t n source destination s d few k (omega arith) (λ r h. none r (omega arith))
    ∙ subst (λ (m : ℕ). earliest_from (n - k) placed source destination (suc k) ≡ earliest_from (n - m) placed source destination (suc m)) (add-one k)
    (earliest_next n k (omega arith) placed source destination
    (not_free busy placed t source destination s d k (omega arith) (none k (omega arith))))

-- Behind all n rounds it is the next one.
pub earliest_none : (n r : ℕ) (placed : List Transfer) (source destination : ℕ) → r ≡ n → n + 1 ≡ earliest_from (n - r) placed source destination (suc r)
earliest_none n r placed source destination e =
    let none : n - r ≡ 0 = omega arith in
    let next : n + 1 ≡ suc r = omega arith in
    next ∙ ap (λ (k : ℕ). earliest_from k placed source destination (suc r)) (sym none)
