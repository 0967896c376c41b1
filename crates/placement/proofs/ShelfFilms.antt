-- The films of demand 0 of a list: beside the method's list they make up the records, and no viewer wants them.
use mathlib.Core.Path.{◌≡◌, refl, sym, ◌∙◌}
use mathlib.Core.Bool.{Bool, true, false, cond}
use mathlib.Core.List.{List, [], ◌∷◌}
use Prim.Native.Nat.{ℕ, ◌+◌, ◌≤◌}
use native.Mathlib.Omega.{arith}
use borrow.Author.Tests.{leb-false}
use lib.Dec.{leb, eqb}
use Rattle.placement.specs.Items.{Item, sum_by, total, amount_for, one_if, occurrences, list_of}
use Rattle.placement.specs.Promise.{Distinct}
use Rattle.placement.specs.Shelf.{without_amount, shelf_films}
use Rattle.placement.specs.WellFormed.{Each}
use Rattle.placement.proofs.Tests.{by_order}
use Rattle.placement.proofs.Ascending.{Ascending, ascending_weaken, list_ascending}
use Rattle.placement.proofs.Films.{own_film}
use Rattle.placement.proofs.Each.{each_map, each_by_film}
use Rattle.placement.proofs.ByFilm.{sum_by_by_film}
use Rattle.placement.proofs.Listed.{if_wanted, sum_by_list_of, list_of_amount_for}
use Rattle.placement.proofs.Shelving.{Unwanted}

-- The items with amount 0 have amount 0.
without_each : (xs : List Item) → Each Unwanted (without_amount xs)
without_each [] = tt
without_each (x ∷ xs) = go (leb 1 x.amount) refl (without_each xs)
  where
    go : (b : Bool) → leb 1 x.amount ≡ b → Each Unwanted (without_amount xs) → Each Unwanted (cond b (without_amount xs) (x ∷ without_amount xs))
    go true e later = later
    go false e later = (omega (arith, leb-false 1 x.amount e), later)

-- What all items have, those with amount 0 have.
each_without : (P : Item → Type 0) (xs : List Item) → Each P xs → Each P (without_amount xs)
each_without P [] all = tt
each_without P (x ∷ xs) all = go (leb 1 x.amount) (each_without P xs all.1)
  where
    go : (b : Bool) → Each P (without_amount xs) → Each P (cond b (without_amount xs) (x ∷ without_amount xs))
    go true later = later
    go false later = (all.0, later)

-- The items with an amount and those without are all items.
pub without_sum : (w : Item → ℕ) (xs : List Item) → sum_by (if_wanted w) xs + sum_by w (without_amount xs) ≡ sum_by w xs
without_sum w [] = refl
without_sum w (x ∷ xs) = go (leb 1 x.amount) (without_sum w xs)
  where
    go : (b : Bool) → sum_by (if_wanted w) xs + sum_by w (without_amount xs) ≡ sum_by w xs
        → (cond b (w x) 0 + sum_by (if_wanted w) xs) + sum_by w (cond b (without_amount xs) (x ∷ without_amount xs)) ≡ w x + sum_by w xs
    go true later = omega arith
    go false later = omega arith

-- Items of amount 0 sum to 0,
pub unwanted_total : (xs : List Item) → Each Unwanted xs → total xs ≡ 0
unwanted_total [] none = refl
unwanted_total (x ∷ xs) none = omega (arith, none.0, unwanted_total xs none.1)

-- for each film too.
pub unwanted_amount : (f : ℕ) (xs : List Item) → Each Unwanted xs → amount_for f xs ≡ 0
unwanted_amount f [] none = refl
unwanted_amount f (x ∷ xs) none = omega (arith, go (eqb f x.film), unwanted_amount f xs none.1)
  where
    go : (b : Bool) → cond b x.amount 0 ≡ 0
    go true = none.0
    go false = refl

-- A film that a list does not have has no amount there.
absent_amount : (f : ℕ) (xs : List Item) → occurrences f xs ≡ 0 → amount_for f xs ≡ 0
absent_amount f [] none = refl
absent_amount f (x ∷ xs) none = go (eqb f x.film) none (absent_amount f xs)
  where
    go : (b : Bool) → cond b 1 0 + occurrences f xs ≡ 0 → (occurrences f xs ≡ 0 → amount_for f xs ≡ 0) → cond b x.amount 0 + amount_for f xs ≡ 0
    go true e later = absurd (omega arith)
    go false e later = omega (arith, later (omega arith))

-- An item with an amount of at least 1.
abbrev pub Wanted : Item → Type 0
Wanted x = 1 ≤ x.amount

-- A film stands in a list of such items no more often than it has viewers there.
wanted_amount : (f : ℕ) (xs : List Item) → Each Wanted xs → occurrences f xs ≤ amount_for f xs
wanted_amount f [] all = omega arith
wanted_amount f (x ∷ xs) all = omega (arith, go (eqb f x.film), wanted_amount f xs all.1)
  where
    go : (b : Bool) → cond b 1 0 ≤ cond b x.amount 0
    go true = all.0
    go false = omega arith

-- Amounts that ascend from 1 on are such.
pub ascending_wanted : (xs : List Item) → Ascending 1 xs → Each Wanted xs
ascending_wanted [] asc = tt
ascending_wanted (x ∷ xs) asc = (asc.0, ascending_wanted xs (ascending_weaken asc.0 xs asc.1))

-- Each item's film stands in the list.
occurs : (xs : List Item) → Each (λ x. 1 ≤ occurrences x.film xs) xs
occurs [] = tt
occurs (x ∷ xs) = (
  omega (arith, own_film x),
  each_map (λ y. 1 ≤ occurrences y.film xs) (λ y. 1 ≤ occurrences y.film (x ∷ xs)) xs (λ y h. omega arith) (occurs xs),
)

module _ (records : List Item) where
  -- The films of demand 0 are those of the records that are not in the method's list.
  pub shelf_sum : (w : Item → ℕ) → sum_by w (list_of records) + sum_by w (shelf_films records) ≡ sum_by w records
  shelf_sum w = omega (arith, sum_by_list_of w records, sum_by_by_film w (without_amount records), without_sum w records)

  -- They have demand 0,
  pub shelf_unwanted : Each Unwanted (shelf_films records)
  shelf_unwanted = each_by_film Unwanted (without_amount records) (without_each records)

  -- and what all records have.
  pub shelf_each : (P : Item → Type 0) → Each P records → Each P (shelf_films records)
  shelf_each P all = each_by_film P (without_amount records) (each_without P records all)

  -- A film without demand is not in the method's list,
  pub listed_absent : (f : ℕ) → amount_for f records ≡ 0 → occurrences f (list_of records) ≡ 0
  listed_absent f none =
      omega (arith, wanted_amount f (list_of records) (ascending_wanted (list_of records) (list_ascending records)), list_of_amount_for f records)

  -- and one with demand is not among the films of demand 0,
  pub shelf_absent : Distinct records → (f : ℕ) → 1 ≤ amount_for f records → occurrences f (shelf_films records) ≡ 0
  shelf_absent distinct f some =
      by_order (occurrences f (list_of records)) 1
      (λ none. absurd (omega (arith, absent_amount f (list_of records) (omega arith), list_of_amount_for f records)))
      (λ here. omega (arith, shelf_sum (one_if f), distinct f))

  -- which are all films without demand.
  pub shelf_demand : Distinct records → Each (λ x. amount_for x.film records ≡ 0) (shelf_films records)
  shelf_demand distinct =
      each_map (λ x. 1 ≤ occurrences x.film (shelf_films records)) (λ x. amount_for x.film records ≡ 0) (shelf_films records) none
      (occurs (shelf_films records))
    where
      none : (x : Item) → 1 ≤ occurrences x.film (shelf_films records) → amount_for x.film records ≡ 0
      none x here =
          sym (list_of_amount_for x.film records)
          ∙ absent_amount x.film (list_of records) (omega (arith, shelf_sum (one_if x.film), distinct x.film))
