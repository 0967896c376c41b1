-- The table of counts: its cells, one transfer more, and its sum, which is the number of transfers.
use mathlib.Core.Path.{◌≡◌, refl, ap, ◌∙◌}
use mathlib.Core.Bool.{Bool, true, false, cond, ◌&&◌}
use mathlib.Core.List.{List, [], ◌∷◌, ◌++◌}
use Prim.Native.Nat.{ℕ, ◌+◌, ◌≤◌, ◌<◌}
use native.Mathlib.Omega.{arith}
use borrow.Author.Tests.{eq-eqb, ne_eqb}
use lib.Dec.{eqb}
use lib.ListN.{length, get_or, set}
use Rattle.placement.specs.WellFormed.{Each}
use Rattle.placement.proofs.Each.{each_map}
use Rattle.transfer_schedule.specs.Schedule.{Transfer}
use Rattle.transfer_schedule.specs.Counts.{count_by, goes, values_from, ends, count_table, count_at, row_sum, table_sum}
use Rattle.transfer_schedule.specs.Fits.{TransferFits}
use Rattle.transfer_schedule.proofs.Values.{values_at, values_same, values_set, sum_rows, sum_add, sum_none, sum_one}

module _ {A : Type 0} (test : A → Bool) where
  -- At most all members pass a test.
  pub count_few : (xs : List A) → count_by test xs ≤ length xs
  count_few [] = omega arith
  count_few (x ∷ xs) = go (test x) (count_few xs)
    where
      go : (b : Bool) → count_by test xs ≤ length xs → cond b 1 0 + count_by test xs ≤ length (x ∷ xs)
      go true h = omega arith
      go false h = omega arith

  -- Those of two lists, one behind the other.
  count_append : (xs ys : List A) → count_by test (xs ++ ys) ≡ count_by test xs + count_by test ys
  count_append [] ys = omega arith
  count_append (x ∷ xs) ys = omega (arith, count_append xs ys)

  -- One member more.
  pub count_last : (xs : List A) (x : A) → count_by test (xs ++ (x ∷ [])) ≡ count_by test xs + cond (test x) 1 0
  count_last xs x = omega (arith, count_append xs (x ∷ []))

-- The ends of a transfer are its own, and no others.
goes_own : (t : Transfer) → goes t.source t.destination t ≡ true
goes_own t =
    ap (λ (b : Bool). b && eqb t.destination t.destination) (eq-eqb t.source t.source refl)
    ∙ eq-eqb t.destination t.destination refl

goes_source : (s d : ℕ) (t : Transfer) → (s ≡ t.source → ⊥) → goes s d t ≡ false
goes_source s d t other = ap (λ (b : Bool). b && eqb d t.destination) (ne_eqb s t.source other)

goes_destination : (s d : ℕ) (t : Transfer) → (d ≡ t.destination → ⊥) → goes s d t ≡ false
goes_destination s d t other = go (eqb s t.source)
  where
    go : (b : Bool) → (b && eqb d t.destination) ≡ false
    go true = ne_eqb d t.destination other
    go false = refl

-- A row of the table.
abbrev row_of : List Transfer → ℕ → List ℕ
row_of ts s = values_from (λ (d : ℕ). count_by (goes s d) ts) 0 ends

-- A cell counts the transfers from its source to its destination.
pub count_at_lem : (ts : List Transfer) (s d : ℕ) → s < ends → d < ends → count_at (count_table ts) s d ≡ count_by (goes s d) ts
count_at_lem ts s d source destination =
    ap (λ (row : List ℕ). get_or row d 0) (values_at (row_of ts) ends s [] source)
    ∙ values_at (λ (e : ℕ). count_by (goes s e) ts) ends d 0 destination

module _ (ts : List Transfer) (t : Transfer) where
  -- A transfer more counts in its own cell,
  count_own : count_by (goes t.source t.destination) (ts ++ (t ∷ [])) ≡ count_by (goes t.source t.destination) ts + 1
  count_own =
      count_last (goes t.source t.destination) ts t
      ∙ ap (λ (b : Bool). count_by (goes t.source t.destination) ts + cond b 1 0) (goes_own t)

  -- and in no other.
  count_other : (s d : ℕ) → goes s d t ≡ false → count_by (goes s d) ts ≡ count_by (goes s d) (ts ++ (t ∷ []))
  count_other s d away =
      let more : count_by (goes s d) (ts ++ (t ∷ [])) ≡ count_by (goes s d) ts + 0 =
      count_last (goes s d) ts t ∙ ap (λ (b : Bool). count_by (goes s d) ts + cond b 1 0) away
      in
      omega (arith, more)

  -- So its cell is set to one more.
  pub table_more :
      t.source < ends → t.destination < ends
      → set (count_table ts) t.source
      (set (get_or (count_table ts) t.source []) t.destination (count_at (count_table ts) t.source t.destination + 1))
      ≡ count_table (ts ++ (t ∷ []))
  table_more source destination =
      values_set (row_of ts) (row_of (ts ++ (t ∷ []))) ends t.source _ source row
      (λ s other. values_same _ _ 0 ends (λ d h. count_other s d (goes_source s d t other)))
    where
      cell : count_at (count_table ts) t.source t.destination + 1 ≡ count_by (goes t.source t.destination) (ts ++ (t ∷ []))
      cell = omega (arith, count_at_lem ts t.source t.destination source destination, count_own)

      row :
          set (get_or (count_table ts) t.source []) t.destination (count_at (count_table ts) t.source t.destination + 1)
          ≡ row_of (ts ++ (t ∷ [])) t.source
      row =
          ap (λ (r : List ℕ). set r t.destination (count_at (count_table ts) t.source t.destination + 1))
          (values_at (row_of ts) ends t.source [] source)
          ∙ values_set (λ (d : ℕ). count_by (goes t.source d) ts) (λ (d : ℕ). count_by (goes t.source d) (ts ++ (t ∷ []))) ends
          t.destination _ destination cell (λ d other. count_other t.source d (goes_destination t.source d t other))

-- The sum of a table of n rows and columns with these cells.
abbrev sum_of : ℕ → (ℕ → ℕ → ℕ) → ℕ
sum_of n cell = row_sum (values_from (λ (s : ℕ). row_sum (values_from (cell s) 0 n)) 0 n)

-- One transfer counts in one cell,
one_cell : (n : ℕ) (t : Transfer) → t.source < n → t.destination < n → sum_of n (λ s d. cond (goes s d t) 1 0) ≡ 1
one_cell n t source destination =
    sum_one (λ (s : ℕ). row_sum (values_from (λ (d : ℕ). cond (goes s d t) 1 0) 0 n)) 0 n t.source (omega arith) (omega arith)
    (λ s other. sum_none _ 0 n (λ d h. ap (λ (b : Bool). cond b 1 0) (goes_source s d t other)))
    ∙ sum_one (λ (d : ℕ). cond (goes t.source d t) 1 0) 0 n t.destination (omega arith) (omega arith)
    (λ d other. ap (λ (b : Bool). cond b 1 0) (goes_destination t.source d t other))
    ∙ ap (λ (b : Bool). cond b 1 0) (goes_own t)

-- so that all cells together count each transfer once.
cells_sum :
    (n : ℕ) (ts : List Transfer) → Each (λ t. (t.source < n) × (t.destination < n)) ts
    → sum_of n (λ s d. count_by (goes s d) ts) ≡ length ts
cells_sum n [] all = sum_none _ 0 n (λ s h. sum_none _ 0 n (λ d g. refl))
cells_sum n (t ∷ ts) all =
    ap row_sum (values_same _ _ 0 n (λ s h. sum_add (λ (d : ℕ). cond (goes s d t) 1 0) (λ (d : ℕ). count_by (goes s d) ts) 0 n))
    ∙ sum_add (λ (s : ℕ). row_sum (values_from (λ (d : ℕ). cond (goes s d t) 1 0) 0 n))
    (λ (s : ℕ). row_sum (values_from (λ (d : ℕ). count_by (goes s d) ts) 0 n)) 0 n
    ∙ omega (arith, one_cell n t all.0.0 all.0.1, cells_sum n ts all.1)

-- "The table's sum is the number of copies to load."
pub table_sum_lem : (ts : List Transfer) → Each TransferFits ts → table_sum (count_table ts) ≡ length ts
table_sum_lem ts fit =
    sum_rows (row_of ts) 0 ends
    ∙ cells_sum ends ts (each_map TransferFits (λ t. (t.source < ends) × (t.destination < ends)) ts (λ t f. (f.source, f.destination)) fit)
