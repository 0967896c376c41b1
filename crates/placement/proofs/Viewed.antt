-- Copies with viewers and left films with an amount: shelving leaves them as the method made them.
use mathlib.Core.Path.{◌≡◌, refl, sym, ap, ap₂, ◌∙◌, subst}
use mathlib.Core.Bool.{Bool, true, false, cond}
use mathlib.Core.List.{List, [], ◌∷◌, ◌++◌, map}
use Prim.Native.Nat.{◌≤◌, ◌<◌}
use native.Mathlib.Omega.{arith}
use lib.Dec.{leb}
use Rattle.placement.specs.Items.{Item, total, insert_by, by_film, before_by_film}
use Rattle.placement.specs.Rack.{Disk}
use Rattle.placement.specs.Window.{within, outside, window_of}
use Rattle.placement.specs.Disk.{all_but_last, stored, remainder, copies_of, list_after}
use Rattle.placement.specs.Method.{placement, remaining, left_of}
use Rattle.placement.specs.FillingOrder.{filling, by_number, placed}
use Rattle.placement.specs.Shelf.{has_free_slot, shelved_one, shelved}
use Rattle.placement.specs.ShelfPromise.{with_amount}
use Rattle.placement.specs.WellFormed.{Each}
use Rattle.placement.proofs.Tests.{by_order, chosen, passed}
use Rattle.placement.proofs.Windows.{window_cases, window_last_needed}
use Rattle.placement.proofs.Disks.{stored_below, stored_reaching}
use Rattle.placement.proofs.Films.{Usable}
use Rattle.placement.proofs.Each.{each_append, each_within, each_outside, each_all_but_last, each_enter, each_by_film}
use Rattle.placement.proofs.FillingOrder.{by_number_map}
use Rattle.placement.proofs.Shelving.{Unwanted}
use Rattle.placement.proofs.ShelfFilms.{Wanted}

-- Items with amounts are all there,
with_all : (xs : List Item) → Each Wanted xs → with_amount xs ≡ xs
with_all [] all = refl
with_all (x ∷ xs) all =
    chosen x.amount (x ∷ with_amount xs) (with_amount xs) all.0 ∙ ap (λ (r : List Item). x ∷ r) (with_all xs all.1)

-- and one without is not, at the end of a list,
with_end : (xs : List Item) (x : Item) → Unwanted x → with_amount (xs ++ (x ∷ [])) ≡ with_amount xs
with_end [] x none = passed x.amount (x ∷ []) [] none
with_end (y ∷ ys) x none = ap (λ (r : List Item). cond (leb 1 y.amount) (y ∷ r) r) (with_end ys x none)

-- or at its sorted place.
with_insert : (o : Item → Item → Bool) (x : Item) (ys : List Item) → Unwanted x → with_amount (insert_by o x ys) ≡ with_amount ys
with_insert o x [] none = passed x.amount (x ∷ []) [] none
with_insert o x (y ∷ ys) none = go (o x y) (with_insert o x ys none)
  where
    go : (b : Bool) → with_amount (insert_by o x ys) ≡ with_amount ys → with_amount (cond b (x ∷ y ∷ ys) (y ∷ insert_by o x ys)) ≡ with_amount (y ∷ ys)
    go true later = passed x.amount (x ∷ with_amount (y ∷ ys)) (with_amount (y ∷ ys)) none
    go false later = ap (λ (r : List Item). cond (leb 1 y.amount) (y ∷ r) r) later

-- Shelving a film of demand 0 leaves the copies with viewers,
shelved_one_viewed :
    (rack : List Disk) (x : Item) (layout : List (List Item)) → Unwanted x → map with_amount (shelved_one rack x layout) ≡ map with_amount layout
shelved_one_viewed [] x layout none = refl
shelved_one_viewed (d ∷ ds) x [] none = refl
shelved_one_viewed (d ∷ ds) x (copies ∷ rest) none = go (has_free_slot d copies) (shelved_one_viewed ds x rest none)
  where
    go : (b : Bool) → map with_amount (shelved_one ds x rest) ≡ map with_amount rest
        → map with_amount (cond b ((copies ++ (x ∷ [])) ∷ rest) (copies ∷ shelved_one ds x rest)) ≡ map with_amount (copies ∷ rest)
    go true later = ap (λ (r : List Item). r ∷ map with_amount rest) (with_end copies x none)
    go false later = ap (λ (r : List (List Item)). with_amount copies ∷ r) later

shelved_viewed :
    (rack : List Disk) (films : List Item) (layout : List (List Item)) → Each Unwanted films
    → map with_amount (shelved rack films layout) ≡ map with_amount layout
shelved_viewed rack [] layout none = refl
shelved_viewed rack (x ∷ xs) layout none =
    shelved_viewed rack xs (shelved_one rack x layout) none.1 ∙ shelved_one_viewed rack x layout none.0

-- and what is left with an amount.
left_viewed : (films list : List Item) → Each Unwanted films → with_amount (by_film (films ++ list)) ≡ with_amount (by_film list)
left_viewed [] list none = refl
left_viewed (x ∷ xs) list none = with_insert before_by_film x (by_film (xs ++ list)) none.0 ∙ left_viewed xs list none.1

module _ (d : Disk) (list : List Item) (some_slots : 1 ≤ d.slots) (some_load : 1 ≤ d.load) (all : Each Wanted list) where
  abbrev films : List Item
  films = within (window_of d list) list

  inside : Each Wanted films
  inside = each_within Wanted (window_of d list) list all

  -- From a list of items with amounts, each copy of a disk has viewers,
  copies_viewed : Each Wanted (copies_of d list)
  copies_viewed = by_order (total films) d.load below reaching
    where
      below : total films < d.load → Each Wanted (stored d.load films)
      below h = subst (λ (r : List Item). Each Wanted r) (sym (stored_below d.load films h)) inside

      reaching : d.load ≤ total films → Each Wanted (stored d.load films)
      reaching h =
          subst (λ (r : List Item). Each Wanted r) (sym (stored_reaching d.load films h))
          (each_append Wanted (all_but_last films) _ (each_all_but_last Wanted films inside)
          (omega (arith, window_last_needed some_slots (window_cases d list some_load) h), tt))

  -- and the next list is of such items again.
  after_viewed : Each Wanted (list_after d list)
  after_viewed =
      each_enter Wanted (remainder d.load films) (outside (window_of d list) list) (λ h. h)
      (each_outside Wanted (window_of d list) list all)

-- So each copy of the method has viewers,
placement_viewed : (rack : List Disk) (list : List Item) → Usable rack → Each Wanted list → map with_amount (placement rack list) ≡ placement rack list
placement_viewed [] list usable all = refl
placement_viewed (d ∷ ds) list usable all =
    ap₂ (λ (x : List Item) (xs : List (List Item)). x ∷ xs)
    (with_all (copies_of d list) (copies_viewed d list usable.0 usable.1 all))
    (placement_viewed ds (list_after d list) usable.2 (after_viewed d list usable.0 usable.1 all))

-- and all that it leaves has an amount.
remaining_viewed : (rack : List Disk) (list : List Item) → Usable rack → Each Wanted list → Each Wanted (remaining rack list)
remaining_viewed [] list usable all = all
remaining_viewed (d ∷ ds) list usable all =
    remaining_viewed ds (list_after d list) usable.2 (after_viewed d list usable.0 usable.1 all)

-- The copies with viewers are the method's, and so are the left films with an amount.
module _ (rack : List Disk) (films list : List Item) (usable : Usable (filling rack)) (none : Each Unwanted films) (all : Each Wanted list) where
  pub placed_viewed : map with_amount (shelved rack films (placed rack list)) ≡ placed rack list
  placed_viewed =
      shelved_viewed rack films (placed rack list) none
      ∙ by_number_map with_amount [] rack (placement (filling rack) list)
      ∙ ap (by_number [] rack) (placement_viewed (filling rack) list usable all)

  pub remains_viewed :
      (rest : List Item) → Each Unwanted rest → with_amount (by_film (rest ++ remaining (filling rack) list)) ≡ left_of (filling rack) list
  remains_viewed rest without =
      left_viewed rest (remaining (filling rack) list) without
      ∙ with_all (left_of (filling rack) list) (each_by_film Wanted (remaining (filling rack) list) (remaining_viewed (filling rack) list usable all))
