-- The values of a function at numbers one after the other: one of them, one of them changed, and their sums.
use mathlib.Core.Path.{◌≡◌, refl, ap, ap₂, ◌∙◌}
use mathlib.Core.List.{List, ◌∷◌}
use Prim.Native.Nat.{ℕ, zero, suc, ◌+◌, ◌≤◌, ◌<◌}
use native.Mathlib.Omega.{arith}
use borrow.Author.Tests.{eqb-true, eqb-false}
use lib.Dec.{eqb}
use lib.ListN.{get_or, set}
use Rattle.placement.proofs.Tests.{by_test, by_order}
use Rattle.transfer_schedule.specs.Counts.{values_from, row_sum, table_sum}

module _ {A : Type 0} where
  -- The value at a place, for numbers from one on and from 0 on.
  values_from_lem : (f : ℕ → A) (k n i : ℕ) (other : A) → i < n → get_or (values_from f k n) i other ≡ f (k + i)
  values_from_lem f k zero i other h = absurd (omega arith)
  values_from_lem f k (suc n) zero other h = ap f (omega arith)
  values_from_lem f k (suc n) (suc i) other h = values_from_lem f (suc k) n i other (omega arith) ∙ ap f (omega arith)

  pub values_at : (f : ℕ → A) (n i : ℕ) (other : A) → i < n → get_or (values_from f 0 n) i other ≡ f i
  values_at f n i other h = values_from_lem f 0 n i other h ∙ ap f (omega arith)

  -- Functions with the same values from a number on.
  pub values_same : (f g : ℕ → A) (k n : ℕ) → ((j : ℕ) → k ≤ j → f j ≡ g j) → values_from f k n ≡ values_from g k n
  values_same f g k zero same = refl
  values_same f g k (suc n) same =
      ap₂ (λ (x : A) (xs : List A). x ∷ xs) (same k (omega arith))
      (values_same f g (suc k) n (λ j h. same j (omega arith)))

  -- A value changed: the values of a function that differs there alone.
  set_from :
      (f g : ℕ → A) (k n i : ℕ) (v : A) → i < n → v ≡ g (k + i) → ((j : ℕ) → (j ≡ k + i → ⊥) → f j ≡ g j)
      → set (values_from f k n) i v ≡ values_from g k n
  set_from f g k zero i v h here there = absurd (omega arith)
  set_from f g k (suc n) zero v h here there =
      ap₂ (λ (x : A) (xs : List A). x ∷ xs) (here ∙ ap g (omega arith))
      (values_same f g (suc k) n (λ j less. there j (λ e. omega arith)))
  set_from f g k (suc n) (suc i) v h here there =
      ap₂ (λ (x : A) (xs : List A). x ∷ xs) (there k (λ e. omega arith))
      (set_from f g (suc k) n i v (omega arith) (here ∙ ap g (omega arith)) (λ j other. there j (λ e. other (omega arith))))

  -- So it is from 0 on.
  pub values_set :
      (f g : ℕ → A) (n i : ℕ) (v : A) → i < n → v ≡ g i → ((j : ℕ) → (j ≡ i → ⊥) → f j ≡ g j)
      → set (values_from f 0 n) i v ≡ values_from g 0 n
  values_set f g n i v h here there =
      set_from f g 0 n i v h (here ∙ ap g (omega arith)) (λ j other. there j (λ e. other (omega arith)))

-- The sum of a table is that of its rows' sums.
pub sum_rows : (row : ℕ → List ℕ) (k n : ℕ) → table_sum (values_from row k n) ≡ row_sum (values_from (λ (j : ℕ). row_sum (row j)) k n)
sum_rows row k zero = refl
sum_rows row k (suc n) = ap (λ (rest : ℕ). row_sum (row k) + rest) (sum_rows row (suc k) n)

-- The sum of sums of two.
pub sum_add :
    (f g : ℕ → ℕ) (k n : ℕ) → row_sum (values_from (λ (j : ℕ). f j + g j) k n) ≡ row_sum (values_from f k n) + row_sum (values_from g k n)
sum_add f g k zero = refl
sum_add f g k (suc n) = omega (arith, sum_add f g (suc k) n)

-- No value but 0.
pub sum_none : (f : ℕ → ℕ) (k n : ℕ) → ((j : ℕ) → k ≤ j → f j ≡ 0) → row_sum (values_from f k n) ≡ 0
sum_none f k zero none = refl
sum_none f k (suc n) none = omega (arith, none k (omega arith), sum_none f (suc k) n (λ j h. none j (omega arith)))

-- One value but 0.
pub sum_one :
    (f : ℕ → ℕ) (k n i : ℕ) → k ≤ i → i < k + n → ((j : ℕ) → (j ≡ i → ⊥) → f j ≡ 0) → row_sum (values_from f k n) ≡ f i
sum_one f k zero i h few none = absurd (omega arith)
sum_one f k (suc n) i h few none =
    by_order k i
    (λ less. omega (arith, none k (λ e. omega arith), sum_one f (suc k) n i (omega arith) (omega arith) none))
    (λ more.
    let here : f k ≡ f i = ap f (omega arith) in
    omega (arith, here, sum_none f (suc k) n (λ j less. none j (λ e. omega arith))))

-- Values that are at most those of another function.
pub sum_le : (f g : ℕ → ℕ) (k n : ℕ) → ((j : ℕ) → f j ≤ g j) → row_sum (values_from f k n) ≤ row_sum (values_from g k n)
sum_le f g k zero less = omega arith
sum_le f g k (suc n) less = omega (arith, less k, sum_le f g (suc k) n less)

-- At most one value but 0, wherever it stands.
pub sum_single : (f : ℕ → ℕ) (k n i : ℕ) → ((j : ℕ) → (j ≡ i → ⊥) → f j ≡ 0) → row_sum (values_from f k n) ≤ f i
sum_single f k zero i none = omega arith
sum_single f k (suc n) i none =
    by_test (eqb k i)
    (λ e.
    let same : k ≡ i = eqb-true k i e in
    omega (arith, ap f same, sum_none f (suc k) n (λ j less. none j (λ is. omega (arith, same)))))
    (λ e. omega (arith, none k (eqb-false k i e), sum_single f (suc k) n i none))

-- Every value is 1.
pub sum_all : (f : ℕ → ℕ) (k n : ℕ) → ((j : ℕ) → k ≤ j → j < k + n → f j ≡ 1) → row_sum (values_from f k n) ≡ n
sum_all f k zero all = refl
sum_all f k (suc n) all =
    omega (arith, all k (omega arith) (omega arith), sum_all f (suc k) n (λ j h less. all j (omega arith) (omega arith)))
