-- Laws of properties that every member of a list has: append, take and drop, insertion, the films in and outside a window.
use mathlib.Core.Path.{◌≡◌, refl}
use mathlib.Core.Bool.{Bool, true, false, cond}
use mathlib.Core.List.{List, [], ◌∷◌, ◌++◌}
use Prim.Native.Nat.{ℕ, zero, suc, ◌+◌, ◌-◌, ◌≤◌, ◌<◌}
use native.Mathlib.Omega.{arith}
use borrow.Author.Tests.{leb-true}
use lib.Dec.{leb}
use lib.ListN.{length, take, drop, get_or}
use Rattle.placement.specs.Items.{Item, item, insert_by, enter, enter_all, list_of, before, by_film, before_by_film}
use Rattle.placement.specs.Window.{Window, within, outside}
use Rattle.placement.specs.Disk.{all_but_last, last_film}
use Rattle.placement.specs.WellFormed.{Each}

module _ {A : Type 0} (P : A → Type 0) where
  -- Two lists of members with the property, one behind the other.
  pub each_append : (xs ys : List A) → Each P xs → Each P ys → Each P (xs ++ ys)
  each_append [] ys all more = more
  each_append (x ∷ xs) ys all more = (all.0, each_append xs ys all.1 more)

  -- The first members of a list.
  pub each_take : (n : ℕ) (xs : List A) → Each P xs → Each P (take n xs)
  each_take zero xs all = tt
  each_take (suc n) [] all = tt
  each_take (suc n) (x ∷ xs) all = (all.0, each_take n xs all.1)

  -- What follows them.
  pub each_drop : (n : ℕ) (xs : List A) → Each P xs → Each P (drop n xs)
  each_drop zero xs all = all
  each_drop (suc n) [] all = tt
  each_drop (suc n) (x ∷ xs) all = each_drop n xs all.1

  -- The member at a place has the property.
  pub each_at : (n : ℕ) (xs : List A) (other : A) → Each P xs → n < length xs → P (get_or xs n other)
  each_at n [] other all h = absurd (omega arith)
  each_at zero (x ∷ xs) other all h = all.0
  each_at (suc n) (x ∷ xs) other all h = each_at n xs other all.1 (omega arith)

-- A property that follows from another for each member.
pub each_map : {A : Type 0} (P Q : A → Type 0) (xs : List A) → ((x : A) → P x → Q x) → Each P xs → Each Q xs
each_map P Q [] follows all = tt
each_map P Q (x ∷ xs) follows all = (follows x all.0, each_map P Q xs follows all.1)

-- Two properties that each member has.
pub each_both : {A : Type 0} (P Q : A → Type 0) (xs : List A) → Each P xs → Each Q xs → Each (λ x. P x × Q x) xs
each_both P Q [] all more = tt
each_both P Q (x ∷ xs) all more = ((all.0, more.0), each_both P Q xs all.1 more.1)

module _ (P : Item → Type 0) where
  -- The films of a window.
  pub each_within : (w : Window) (xs : List Item) → Each P xs → Each P (within w xs)
  each_within w xs all = each_take P w.size (drop w.start xs) (each_drop P w.start xs all)

  -- The films outside it.
  pub each_outside : (w : Window) (xs : List Item) → Each P xs → Each P (outside w xs)
  each_outside w xs all =
      each_append P (take w.start xs) (drop (w.start + w.size) xs) (each_take P w.start xs all)
      (each_drop P (w.start + w.size) xs all)

  -- All films but the last.
  pub each_all_but_last : (xs : List Item) → Each P xs → Each P (all_but_last xs)
  each_all_but_last xs all = each_take P (length xs - 1) xs all

  -- The last film.
  pub each_last : (xs : List Item) → 1 ≤ length xs → Each P xs → P (last_film xs)
  each_last xs some all = each_at P (length xs - 1) xs (item 0 0) all (omega arith)

  -- An item at its sorted place.
  pub each_insert : (o : Item → Item → Bool) (x : Item) (xs : List Item) → P x → Each P xs → Each P (insert_by o x xs)
  each_insert o x [] here all = (here, tt)
  each_insert o x (y ∷ ys) here all = go (o x y) (each_insert o x ys here all.1)
    where
      go : (b : Bool) → Each P (insert_by o x ys) → Each P (cond b (x ∷ y ∷ ys) (y ∷ insert_by o x ys))
      go true later = (here, all)
      go false later = (all.0, later)

  -- An item that enters needs the property only where its amount is at least 1.
  pub each_enter : (x : Item) (xs : List Item) → (1 ≤ x.amount → P x) → Each P xs → Each P (enter x xs)
  each_enter x xs here all = go (leb 1 x.amount) refl
    where
      go : (b : Bool) → leb 1 x.amount ≡ b → Each P (cond b (insert_by before x xs) xs)
      go true e = each_insert before x xs (here (leb-true 1 x.amount e)) all
      go false e = all

  -- Items that enter one after the other.
  each_enter_all : (list xs : List Item) → Each (λ x. 1 ≤ x.amount → P x) xs → Each P list → Each P (enter_all list xs)
  each_enter_all list [] entering all = all
  each_enter_all list (x ∷ xs) entering all =
      each_enter_all (enter x list) xs entering.1 (each_enter x list entering.0 all)

  -- The list of the method has what the records with a demand of at least 1 have.
  pub each_list_of : (records : List Item) → Each (λ x. 1 ≤ x.amount → P x) records → Each P (list_of records)
  each_list_of records entering = each_enter_all [] records entering tt

  -- The items by ascending film.
  pub each_by_film : (xs : List Item) → Each P xs → Each P (by_film xs)
  each_by_film [] all = tt
  each_by_film (x ∷ xs) all = each_insert before_by_film x (by_film xs) all.0 (each_by_film xs all.1)
