-- One disk's step: what its copies and its remainder sum to, and what the next list holds (fact 5 of demand 3's argument).
use mathlib.Core.Path.{◌≡◌, refl, sym, ap, ◌∙◌}
use mathlib.Core.Bool.{cond}
use mathlib.Core.List.{List, [], ◌∷◌, ◌++◌, map}
use Prim.Native.Nat.{ℕ, suc, ◌+◌, ◌-◌, ◌≤◌, ◌<◌}
use native.Mathlib.Omega.{arith}
use borrow.Author.Tests.{lt-ltb, le-ltb}
use lib.Dec.{leb}
use lib.ListN.{length, take}
use lib.Seq.{take-suc, take-length}
use Rattle.placement.specs.Items.{Item, item, sum_by, total, film_of}
use Rattle.placement.specs.Rack.{Disk}
use Rattle.placement.specs.Window.{within, outside, window_of}
use Rattle.placement.specs.Disk.{all_but_last, last_film, stored, remainder, copies_of, list_after}
use Rattle.placement.proofs.Tests.{by_order, amount_chosen}
use Rattle.placement.proofs.Sums.{sum_by_append, sum_by_window, sum_by_enter}
use Rattle.placement.proofs.Windows.{window_cases, window_last_needed}

-- A list with a film is all its films but the last, and the last.
pub split_last : (xs : List Item) → 1 ≤ length xs → xs ≡ all_but_last xs ++ (last_film xs ∷ [])
split_last xs h =
    sym (take-length xs) ∙ ap (λ (n : ℕ). take n xs) more ∙ take-suc xs (length xs - 1) (item 0 0) (omega arith)
  where
    more : length xs ≡ suc (length xs - 1)
    more = omega arith

-- A sum over a list with a film, by its last one.
pub sum_by_last : (w : Item → ℕ) (xs : List Item) → 1 ≤ length xs → sum_by w xs ≡ sum_by w (all_but_last xs) + w (last_film xs)
sum_by_last w xs h = ap (sum_by w) (split_last xs h) ∙ sum_by_append w (all_but_last xs) (last_film xs ∷ []) ∙ omega arith

-- A list that sums to something has a film.
pub some_film : (xs : List Item) → 1 ≤ total xs → 1 ≤ length xs
some_film [] h = absurd (omega arith)
some_film (x ∷ xs) h = omega arith

-- A window below the load is stored whole.
pub stored_below : (load : ℕ) (xs : List Item) → total xs < load → stored load xs ≡ xs
stored_below load xs h = rw (lt-ltb (total xs) load h)

-- In a window that reaches the load the last film makes the load.
pub stored_reaching :
    (load : ℕ) (xs : List Item) → load ≤ total xs
    → stored load xs ≡ all_but_last xs ++ (item (last_film xs).film (load - total (all_but_last xs)) ∷ [])
stored_reaching load xs h = rw (le-ltb (total xs) load h)

-- What is stored and what remains make up the window.
stored_total :
    (load : ℕ) (xs : List Item) → 1 ≤ load → (load ≤ total xs → total (all_but_last xs) < load)
    → total (stored load xs) + (remainder load xs).amount ≡ total xs
stored_total load xs some needed = by_order (total xs) load below reaching
  where
    below : total xs < load → total (stored load xs) + (total xs - load) ≡ total xs
    below h = omega (arith, ap total (stored_below load xs h))

    reaching : load ≤ total xs → total (stored load xs) + (total xs - load) ≡ total xs
    reaching h =
        omega (
          arith,
          ap total (stored_reaching load xs h),
          needed h,
          sum_by_append (λ x. x.amount) (all_but_last xs) (item (last_film xs).film (load - total (all_but_last xs)) ∷ []),
        )

-- Storing keeps the films.
pub stored_films : (load : ℕ) (xs : List Item) → 1 ≤ load → map film_of (stored load xs) ≡ map film_of xs
stored_films load xs some = by_order (total xs) load below reaching
  where
    below : total xs < load → map film_of (stored load xs) ≡ map film_of xs
    below h = ap (map film_of) (stored_below load xs h)

    reaching : load ≤ total xs → map film_of (stored load xs) ≡ map film_of xs
    reaching h =
        ap (map film_of) (stored_reaching load xs h)
        ∙ map_snoc (all_but_last xs) (item (last_film xs).film (load - total (all_but_last xs))) (last_film xs) refl
        ∙ ap (map film_of) (sym (split_last xs (some_film xs (omega arith))))
      where
        map_snoc : (ys : List Item) (a b : Item) → a.film ≡ b.film → map film_of (ys ++ (a ∷ [])) ≡ map film_of (ys ++ (b ∷ []))
        map_snoc [] a b e = ap (λ (f : ℕ). f ∷ []) e
        map_snoc (y ∷ ys) a b e = ap (λ (r : List ℕ). y.film ∷ r) (map_snoc ys a b e)

module _ (d : Disk) (list : List Item) (some_slots : 1 ≤ d.slots) (some_load : 1 ≤ d.load) where
  -- The films of the disk's window, and what remains of its last one.
  abbrev films : List Item
  films = within (window_of d list) list

  last_needed : d.load ≤ total films → total (all_but_last films) < d.load
  last_needed h = window_last_needed some_slots (window_cases d list some_load) h

  -- The disk's viewers and the remainder make up the window.
  pub copies_total : total (copies_of d list) + (remainder d.load films).amount ≡ total films
  copies_total = stored_total d.load films some_load last_needed

  -- A disk whose window reaches the load is full.
  pub copies_full : d.load ≤ total films → total (copies_of d list) ≡ d.load
  copies_full h = omega (arith, copies_total)

  -- A disk serves at most its load.
  pub copies_load : total (copies_of d list) ≤ d.load
  copies_load = omega (arith, copies_total)

  -- The next list: the films outside the window, and the remainder where there is one.
  pub after_sum :
      (w : Item → ℕ)
      → sum_by w (list_after d list)
      ≡ cond (leb 1 (remainder d.load films).amount) (w (remainder d.load films)) 0
      + sum_by w (outside (window_of d list) list)
  after_sum w = sum_by_enter w (remainder d.load films) (outside (window_of d list) list)

  -- The list before is the window and the films outside it.
  pub before_sum : (w : Item → ℕ) → sum_by w films + sum_by w (outside (window_of d list) list) ≡ sum_by w list
  before_sum w = sum_by_window w (window_of d list) list

  -- The disk's viewers and what the next list holds make up the list.
  pub step_total : total (copies_of d list) + total (list_after d list) ≡ total list
  step_total =
      omega (
        arith,
        copies_total,
        before_sum (λ x. x.amount),
        after_sum (λ x. x.amount),
        amount_chosen (remainder d.load films).amount,
      )
