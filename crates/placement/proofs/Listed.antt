-- 01's list of the records: what it sums to, and its films.
use mathlib.Core.Path.{◌≡◌, refl, ◌∙◌}
use mathlib.Core.Bool.{Bool, true, false, cond}
use mathlib.Core.List.{List, [], ◌∷◌}
use Prim.Native.Nat.{ℕ, ◌+◌, ◌≤◌}
use native.Mathlib.Omega.{arith}
use lib.Dec.{leb, eqb}
use Rattle.placement.specs.Items.{Item, sum_by, total, amount_if, amount_for, one_if, enter, enter_all, list_of}
use Rattle.placement.specs.Promise.{Distinct}
use Rattle.placement.proofs.Tests.{amount_chosen}
use Rattle.placement.proofs.Sums.{sum_by_enter}

-- The weight of an item where its amount is at least 1, else 0.
abbrev pub if_wanted : (Item → ℕ) → Item → ℕ
if_wanted w x = cond (leb 1 x.amount) (w x) 0

sum_by_enter_all : (w : Item → ℕ) (list xs : List Item) → sum_by w (enter_all list xs) ≡ sum_by w list + sum_by (if_wanted w) xs
sum_by_enter_all w list [] = omega arith
sum_by_enter_all w list (x ∷ xs) = omega (arith, sum_by_enter_all w (enter x list) xs, sum_by_enter w x list)

-- The list holds the records with a demand of at least 1.
pub sum_by_list_of : (w : Item → ℕ) (records : List Item) → sum_by w (list_of records) ≡ sum_by (if_wanted w) records
sum_by_list_of w records = omega (arith, sum_by_enter_all w [] records)

-- A weight that is no larger on any item has no larger a sum.
pub sum_by_le : (v w : Item → ℕ) (xs : List Item) → ((x : Item) → v x ≤ w x) → sum_by v xs ≤ sum_by w xs
sum_by_le v w [] less = omega arith
sum_by_le v w (x ∷ xs) less = omega (arith, less x, sum_by_le v w xs less)

-- Equal weights have equal sums.
sum_by_eq : (v w : Item → ℕ) (xs : List Item) → ((x : Item) → v x ≡ w x) → sum_by v xs ≡ sum_by w xs
sum_by_eq v w [] same = refl
sum_by_eq v w (x ∷ xs) same = omega (arith, same x, sum_by_eq v w xs same)

-- A choice between a number and itself, and between a number and 0.
pub cond_same : (b : Bool) (n : ℕ) → cond b n n ≡ n
cond_same true n = refl
cond_same false n = refl

cond_le : (b : Bool) (n : ℕ) → cond b n 0 ≤ n
cond_le true n = omega arith
cond_le false n = omega arith

-- The list sums to at most what the records do.
pub sum_by_list_of_le : (w : Item → ℕ) (records : List Item) → sum_by w (list_of records) ≤ sum_by w records
sum_by_list_of_le w records =
    omega (arith, sum_by_list_of w records, sum_by_le (if_wanted w) w records (λ x. cond_le (leb 1 x.amount) (w x)))

-- Distinct records give a list with distinct films.
pub list_of_distinct : (records : List Item) → Distinct records → Distinct (list_of records)
list_of_distinct records distinct f = omega (arith, distinct f, sum_by_list_of_le (one_if f) records)

-- Records of demand 0 add no demand.
pub list_of_total : (records : List Item) → total (list_of records) ≡ total records
list_of_total records =
    sum_by_list_of (λ x. x.amount) records
    ∙ sum_by_eq (if_wanted (λ x. x.amount)) (λ x. x.amount) records (λ x. amount_chosen x.amount)

-- Nor do they in a set of films.
pub in_set_wanted : (b : Bool) (a : ℕ) → cond (leb 1 a) (cond b a 0) 0 ≡ cond b a 0
in_set_wanted true a = amount_chosen a
in_set_wanted false a = cond_same (leb 1 a) 0

pub list_of_amount_for : (f : ℕ) (records : List Item) → amount_for f (list_of records) ≡ amount_for f records
list_of_amount_for f records =
    sum_by_list_of (amount_if f) records
    ∙ sum_by_eq (if_wanted (amount_if f)) (amount_if f) records (λ x. in_set_wanted (eqb f x.film) x.amount)
