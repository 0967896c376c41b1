-- Tests of every item of a list, and of its films for repetition, as properties of the list.
use mathlib.Core.Path.{◌≡◌, refl}
use mathlib.Core.Bool.{Bool, true}
use mathlib.Core.List.{List, [], ◌∷◌}
use native.Mathlib.Omega.{arith}
use borrow.Author.Tests.{eqb-true, eq-eqb}
use lib.Dec.{eqb}
use Rattle.placement.specs.Items.{Item, occurrences}
use Rattle.placement.specs.Plan.{every, distinct_films}
use Rattle.placement.specs.Promise.{Distinct}
use Rattle.placement.specs.WellFormed.{Each}
use Rattle.placement.proofs.Conjunctions.{both_true, and_holds}
use Rattle.placement.proofs.Films.{own_film, distinct_new}

-- A test that every item passes, as a property of each of them.
module _ (test : Item → Bool) (P : Item → Type 0) where
  pub every_each : (xs : List Item) → ((x : Item) → test x ≡ true → P x) → every test xs ≡ true → Each P xs
  every_each [] says e = tt
  every_each (x ∷ xs) says e =
      let both = both_true (test x) (every test xs) e in
      (says x both.0, every_each xs says both.1)

  pub each_every : (xs : List Item) → ((x : Item) → P x → test x ≡ true) → Each P xs → every test xs ≡ true
  each_every [] passes all = refl
  each_every (x ∷ xs) passes all = and_holds (test x) (every test xs) (passes x all.0) (each_every xs passes all.1)

-- The test of distinct films says that no film stands twice.
pub distinct_says : (xs : List Item) → distinct_films xs ≡ true → Distinct xs
distinct_says [] e = λ f. omega arith
distinct_says (x ∷ xs) e =
    let both = both_true (eqb (occurrences x.film xs) 0) (distinct_films xs) e in
    distinct_new x xs (eqb-true (occurrences x.film xs) 0 both.0) (distinct_says xs both.1)

pub distinct_passes : (xs : List Item) → Distinct xs → distinct_films xs ≡ true
distinct_passes [] distinct = refl
distinct_passes (x ∷ xs) distinct =
    and_holds (eqb (occurrences x.film xs) 0) (distinct_films xs)
    (eq-eqb (occurrences x.film xs) 0 (omega (arith, own_film x, distinct x.film)))
    (distinct_passes xs (λ f. omega (arith, distinct f)))
