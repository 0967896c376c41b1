-- The films of a list: which weights agree on them, and how the films of the next list stand to those of the list before.
use mathlib.Core.Path.{◌≡◌, refl, sym, ap, subst, ◌∙◌}
use mathlib.Core.Bool.{Bool, true, false, cond}
use mathlib.Core.List.{List, [], ◌∷◌, map}
use Prim.Native.Nat.{ℕ, ◌+◌, ◌≤◌}
use native.Mathlib.Omega.{arith}
use borrow.Author.Tests.{eqb-true, eq-eqb, ne_eqb}
use lib.Dec.{eqb}
use Rattle.placement.specs.Items.{Item, sum_by, film_of, one_if, occurrences}
use Rattle.placement.specs.Rack.{Disk}
use Rattle.placement.specs.Window.{within, outside, window_of}
use Rattle.placement.specs.Disk.{remainder, list_after}
use Rattle.placement.specs.Promise.{Distinct}
use Rattle.placement.proofs.Tests.{by_order, chosen, passed}
use Rattle.placement.proofs.Disks.{sum_by_last, some_film, after_sum, before_sum}

-- Each disk has at least 1 slot and a load of at least 1.
abbrev pub Usable : List Disk → Type 0
Usable [] = Unit {0}
Usable (d ∷ ds) = (1 ≤ d.slots) × (1 ≤ d.load) × Usable ds

-- An item is of its own film.
pub own_film : (x : Item) → one_if x.film x ≡ 1
own_film x = rw (eq-eqb x.film x.film refl)

-- An item of another film does not count.
pub other_film_none : (f : ℕ) (x : Item) → (x.film ≡ f → ⊥) → one_if f x ≡ 0
other_film_none f x other = rw (ne_eqb f x.film (λ e. other (sym e)))

-- An item that counts for a film is of that film.
same_film : (f : ℕ) (x : Item) → 1 ≤ one_if f x → f ≡ x.film
same_film f x h = go (eqb f x.film) refl h
  where
    go : (b : Bool) → eqb f x.film ≡ b → 1 ≤ cond b 1 0 → f ≡ x.film
    go true e h = eqb-true f x.film e
    go false e h = absurd (omega arith)

-- An item counts at most once.
pub one_if_le : (f : ℕ) (x : Item) → one_if f x ≤ 1
one_if_le f x = go (eqb f x.film)
  where
    go : (b : Bool) → cond b 1 0 ≤ 1
    go true = omega arith
    go false = omega arith

-- A new film keeps films distinct.
pub distinct_new : (x : Item) (xs : List Item) → occurrences x.film xs ≡ 0 → Distinct xs → Distinct (x ∷ xs)
distinct_new x xs new distinct f =
    by_order 0 (one_if f x)
    (λ here. omega (arith, one_if_le f x, subst (λ (g : ℕ). occurrences g xs ≡ 0) (sym (same_film f x here)) new))
    (λ none. omega (arith, distinct f))

-- Two weights that agree on the items whose films stand in a list have the same sum over it.
pub sum_by_same :
    (v w : Item → ℕ) (xs : List Item) → ((x : Item) → 1 ≤ occurrences x.film xs → v x ≡ w x) → sum_by v xs ≡ sum_by w xs
sum_by_same v w [] agree = refl
sum_by_same v w (x ∷ xs) agree =
    omega (
      arith,
      agree x (omega (arith, own_film x)),
      sum_by_same v w xs (λ y h. agree y (omega arith)),
    )

-- How often a number stands in a list of numbers.
count : ℕ → List ℕ → ℕ
count f [] = 0
count f (g ∷ gs) = cond (eqb f g) 1 0 + count f gs

count_films : (f : ℕ) (xs : List Item) → occurrences f xs ≡ count f (map film_of xs)
unfolding count
count_films f [] = refl
count_films f (x ∷ xs) = ap (λ (n : ℕ). one_if f x + n) (count_films f xs)

-- Lists with the same films hold each film equally often.
pub occurrences_same : (f : ℕ) (xs ys : List Item) → map film_of xs ≡ map film_of ys → occurrences f xs ≡ occurrences f ys
occurrences_same f xs ys e = count_films f xs ∙ ap (count f) e ∙ sym (count_films f ys)

module _ (d : Disk) (list : List Item) (some_slots : 1 ≤ d.slots) (some_load : 1 ≤ d.load) where
  -- The films of the disk's window, those outside it, and what remains of the window's last film.
  abbrev films : List Item
  films = within (window_of d list) list

  abbrev others : List Item
  others = outside (window_of d list) list

  abbrev rest : Item
  rest = remainder d.load films

  -- What remains is of a film of the window.
  remainder_film : (f : ℕ) → 1 ≤ rest.amount → one_if f rest ≤ occurrences f films
  remainder_film f h = omega (arith, sum_by_last (one_if f) films (some_film films (omega arith)))

  -- The count of a film in the next list.
  after_remaining : (f : ℕ) → 1 ≤ rest.amount → occurrences f (list_after d list) ≡ one_if f rest + occurrences f others
  after_remaining f h =
      after_sum d list some_slots some_load (one_if f)
      ∙ ap (λ (n : ℕ). n + occurrences f others) (chosen rest.amount (one_if f rest) 0 h)

  after_finished : (f : ℕ) → rest.amount ≡ 0 → occurrences f (list_after d list) ≡ occurrences f others
  after_finished f h =
      after_sum d list some_slots some_load (one_if f)
      ∙ ap (λ (n : ℕ). n + occurrences f others) (passed rest.amount (one_if f rest) 0 h)
      ∙ omega arith

  -- The next list holds a film at most as often as the list before.
  pub after_occurrences : (f : ℕ) → occurrences f (list_after d list) ≤ occurrences f list
  after_occurrences f =
      by_order 0 rest.amount
      (λ h. omega (arith, after_remaining f h, remainder_film f h, before_sum d list some_slots some_load (one_if f)))
      (λ h. omega (arith, after_finished f (omega arith), before_sum d list some_slots some_load (one_if f)))

  -- Films of the next list are distinct again.
  pub after_distinct : Distinct list → Distinct (list_after d list)
  after_distinct distinct f = omega (arith, distinct f, after_occurrences f)

  -- A film of the window that is in the next list is the one that remains.
  pub after_window :
      (f : ℕ) → Distinct list → 1 ≤ occurrences f films → 1 ≤ occurrences f (list_after d list) → (1 ≤ rest.amount) × (f ≡ rest.film)
  after_window f distinct here later =
      by_order 0 rest.amount
      (λ h. (
        h,
        same_film f rest
            (omega (arith, distinct f, after_remaining f h, before_sum d list some_slots some_load (one_if f))),
      ))
      (λ h. absurd (omega (arith, distinct f, after_finished f (omega arith), before_sum d list some_slots some_load (one_if f))))
