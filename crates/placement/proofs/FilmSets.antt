-- Sums over the items whose films are in a set, and the bound that one list gives another film by film.
use mathlib.Core.Path.{◌≡◌, refl, sym, ap, ◌∙◌}
use mathlib.Core.Bool.{Bool, true, false, cond, not, ◌&&◌, and-false, and-true, true≢false, false≢true}
use mathlib.Core.List.{List, [], ◌∷◌}
use Prim.Native.Nat.{ℕ, ◌+◌, ◌-◌, ◌≤◌, ◌<◌}
use native.Mathlib.Omega.{arith}
use borrow.Author.Tests.{eqb-true, eqb-false, le-leb, lt-leb}
use lib.Dec.{leb, eqb}
use Rattle.placement.specs.Items.{Item, item, sum_by, total, amount_for, occurrences}
use Rattle.placement.specs.Disk.{all_but_last, last_film, stored, remainder}
use Rattle.placement.proofs.Tests.{by_test, by_order}
use Rattle.placement.proofs.Sums.{sum_by_append}
use Rattle.placement.proofs.Disks.{stored_below, stored_reaching, sum_by_last, some_film}
use Rattle.placement.proofs.Films.{sum_by_same, other_film_none}

-- The amount of an item whose film is in the set, else 0.
abbrev pub in_set : (ℕ → Bool) → Item → ℕ
in_set set x = cond (set x.film) x.amount 0

-- Sets that agree on the films of a list have the same sum over it.
pub in_set_same :
    (b c : ℕ → Bool) (xs : List Item) → ((f : ℕ) → 1 ≤ occurrences f xs → b f ≡ c f)
    → sum_by (in_set b) xs ≡ sum_by (in_set c) xs
in_set_same b c xs agree =
    sum_by_same (in_set b) (in_set c) xs (λ x h. ap (λ (t : Bool). cond t x.amount 0) (agree x.film h))

-- A set with all films of a list sums to its total, one with none of them to 0.
pub in_set_all : (b : ℕ → Bool) (xs : List Item) → ((f : ℕ) → 1 ≤ occurrences f xs → b f ≡ true) → sum_by (in_set b) xs ≡ total xs
in_set_all b xs all =
    sum_by_same (in_set b) (λ x. x.amount) xs (λ x h. ap (λ (t : Bool). cond t x.amount 0) (all x.film h))

sum_by_zero : (xs : List Item) → sum_by (λ x. 0) xs ≡ 0
sum_by_zero [] = refl
sum_by_zero (x ∷ xs) = omega (arith, sum_by_zero xs)

pub in_set_none : (b : ℕ → Bool) (xs : List Item) → ((f : ℕ) → 1 ≤ occurrences f xs → b f ≡ false) → sum_by (in_set b) xs ≡ 0
in_set_none b xs none =
    sum_by_same (in_set b) (λ x. 0) xs (λ x h. ap (λ (t : Bool). cond t x.amount 0) (none x.film h))
    ∙ sum_by_zero xs

-- A smaller set sums to no more.
in_set_less : (b c : ℕ → Bool) (xs : List Item) → sum_by (in_set (λ f. b f && c f)) xs ≤ sum_by (in_set b) xs
in_set_less b c [] = omega arith
in_set_less b c (x ∷ xs) = omega (arith, in_set_less b c xs, less (b x.film) (c x.film))
  where
    less : (s t : Bool) → cond (s && t) x.amount 0 ≤ cond s x.amount 0
    less true true = omega arith
    less true false = omega arith
    less false t = omega arith

-- A sum over a set, with one film taken out.
in_set_split :
    (b : ℕ → Bool) (f : ℕ) (xs : List Item)
    → sum_by (in_set b) xs ≡ cond (b f) (amount_for f xs) 0 + sum_by (in_set (λ g. b g && not (eqb f g))) xs
in_set_split b f [] = go (b f)
  where
    go : (t : Bool) → 0 ≡ cond t 0 0 + 0
    go true = omega arith
    go false = omega arith
in_set_split b f (x ∷ xs) =
    one (sum_by (in_set b) xs) (sum_by (in_set (λ g. b g && not (eqb f g))) xs) (eqb f x.film) (b f) (b x.film)
    (λ e. ap b (eqb-true f x.film e)) (in_set_split b f xs)
  where
    one :
        (m n : ℕ) (same s t : Bool) → (same ≡ true → s ≡ t)
        → m ≡ cond s (amount_for f xs) 0 + n
        → cond t x.amount 0 + m
        ≡ cond s (cond same x.amount 0 + amount_for f xs) 0 + (cond (t && not same) x.amount 0 + n)
    one m n true true true e rest = omega arith
    one m n true true false e rest = absurd (true≢false (e refl))
    one m n true false true e rest = absurd (false≢true (e refl))
    one m n true false false e rest = omega arith
    one m n false true true e rest = omega arith
    one m n false true false e rest = omega arith
    one m n false false true e rest = omega arith
    one m n false false false e rest = omega arith

module _ (xs ys : List Item) (bounded : (f : ℕ) → amount_for f xs ≤ amount_for f ys) where
  -- The bound for a set whose films all stand in a list of names: film by film.
  named_bound :
      (names : List Item) (b : ℕ → Bool) → ((f : ℕ) → occurrences f names ≡ 0 → b f ≡ false)
      → sum_by (in_set b) xs ≤ sum_by (in_set b) ys
  named_bound [] b absent = omega (arith, in_set_none b xs (λ f h. absent f refl))
  named_bound (x ∷ names) b absent =
      omega (
        arith,
        in_set_split b x.film xs,
        in_set_split b x.film ys,
        one (b x.film),
        named_bound names (λ g. b g && not (eqb x.film g)) absent_later,
      )
    where
      one : (t : Bool) → cond t (amount_for x.film xs) 0 ≤ cond t (amount_for x.film ys) 0
      one true = bounded x.film
      one false = omega arith

      absent_later : (g : ℕ) → occurrences g names ≡ 0 → b g && not (eqb x.film g) ≡ false
      absent_later g h =
          by_test (eqb x.film g)
          (λ e. ap (λ (t : Bool). b g && not t) e ∙ and-false (b g))
          (λ e. ap (λ (t : Bool). t && not (eqb x.film g))
          (absent g (omega (arith, other_film_none g x (eqb-false x.film g e)))))

  -- Where one list has for no film more than another, it has no more for a set of films.
  pub in_set_bound : (b : ℕ → Bool) → sum_by (in_set b) xs ≤ sum_by (in_set b) ys
  in_set_bound b =
      omega (
        arith,
        in_set_same b (λ f. b f && leb 1 (occurrences f xs)) xs
            (λ f h. sym (ap (λ (t : Bool). b f && t) (le-leb 1 (occurrences f xs) h) ∙ and-true (b f))),
        named_bound xs (λ f. b f && leb 1 (occurrences f xs))
            (λ f h. ap (λ (t : Bool). b f && t) (lt-leb 1 (occurrences f xs) (omega arith)) ∙ and-false (b f)),
        in_set_less b (λ f. leb 1 (occurrences f xs)) ys,
      )

-- What is stored and what remains make up the window for each set of films.
pub stored_in_set :
    (b : ℕ → Bool) (load : ℕ) (xs : List Item) → 1 ≤ load → (load ≤ total xs → total (all_but_last xs) < load)
    → sum_by (in_set b) (stored load xs) + in_set b (remainder load xs) ≡ sum_by (in_set b) xs
stored_in_set b load xs some needed = by_order (total xs) load below reaching
  where
    below : total xs < load → sum_by (in_set b) (stored load xs) + in_set b (remainder load xs) ≡ sum_by (in_set b) xs
    below h = omega (arith, ap (sum_by (in_set b)) (stored_below load xs h), nothing (b (last_film xs).film))
      where
        nothing : (t : Bool) → cond t (total xs - load) 0 ≡ 0
        nothing true = omega arith
        nothing false = omega arith

    reaching : load ≤ total xs → sum_by (in_set b) (stored load xs) + in_set b (remainder load xs) ≡ sum_by (in_set b) xs
    reaching h =
        omega (
          arith,
          ap (sum_by (in_set b)) (stored_reaching load xs h),
          sum_by_append (in_set b) (all_but_last xs) (item (last_film xs).film (load - total (all_but_last xs)) ∷ []),
          sum_by_last (in_set b) xs (some_film xs (omega arith)),
          parts (b (last_film xs).film),
        )
      where
        parts :
            (t : Bool)
            → cond t (load - total (all_but_last xs)) 0 + cond t (total xs - load) 0 ≡ cond t (last_film xs).amount 0
        parts true = omega (arith, needed h, sum_by_last (λ x. x.amount) xs (some_film xs (omega arith)))
        parts false = omega arith
