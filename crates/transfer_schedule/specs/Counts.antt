-- The table of counts, document 02's P5: nine rows and nine columns, sources 0 to 8 and destinations 0 to 8.
use Rattle.std.specs.Prelude.{ℕ, zero, suc, ◌+◌, Bool, cond, ◌&&◌, List, [], ◌∷◌, eqb, get_or}
use Rattle.transfer_schedule.specs.Schedule.{Transfer}

-- How many members of a list pass a test.
abbrev pub count_by : {A : Type 0} → (A → Bool) → List A → ℕ
count_by test [] = 0
count_by test (x ∷ xs) = cond (test x) 1 0 + count_by test xs

-- A transfer goes from a source to a destination.
abbrev pub goes : (source destination : ℕ) → Transfer → Bool
goes source destination t = eqb source t.source && eqb destination t.destination

-- The values of a function at n numbers from `number` on.
abbrev pub values_from : {A : Type 0} → (ℕ → A) → (number n : ℕ) → List A
values_from f number zero = []
values_from f number (suc n) = f number ∷ values_from f (suc number) n

-- How many ends transfers have: the loader and eight disks.
abbrev pub ends : ℕ
ends = 9

-- "Counts transfers from each disk to each other": row by source, column by destination.
abbrev pub count_table : List Transfer → List (List ℕ)
count_table ts = values_from (λ source. values_from (λ destination. count_by (goes source destination) ts) 0 ends) 0 ends

-- The count in a row and a column.
abbrev pub count_at : List (List ℕ) → (source destination : ℕ) → ℕ
count_at table source destination = get_or (get_or table source []) destination 0

-- The sum of a row, and of the table.
abbrev pub row_sum : List ℕ → ℕ
row_sum [] = 0
row_sum (n ∷ ns) = n + row_sum ns

abbrev pub table_sum : List (List ℕ) → ℕ
table_sum [] = 0
table_sum (row ∷ rows) = row_sum row + table_sum rows
