-- Laws of sums over lists of items: append, take and drop, insertion, the films in and outside a window.
use mathlib.Core.Path.{◌≡◌, refl, sym, ap, ◌∙◌}
use mathlib.Core.Bool.{Bool, true, false, cond}
use mathlib.Core.List.{List, [], ◌∷◌, ◌++◌}
use Prim.Native.Nat.{ℕ, ◌+◌, ◌≤◌}
use native.Mathlib.Omega.{arith}
use lib.Dec.{leb}
use lib.ListN.{length, take, drop, take-append-drop}
use lib.Seq.{drop-drop}
use Rattle.placement.specs.Items.{Item, sum_by, insert_by, enter, before}
use Rattle.placement.specs.Window.{Window, within, outside}

-- A sum over two lists is the sum of the sums.
pub sum_by_append : (w : Item → ℕ) (xs ys : List Item) → sum_by w (xs ++ ys) ≡ sum_by w xs + sum_by w ys
sum_by_append w [] ys = omega arith
sum_by_append w (x ∷ xs) ys = omega (arith, sum_by_append w xs ys)

-- A list cut anywhere keeps its sum.
pub sum_by_cut : (w : Item → ℕ) (n : ℕ) (xs : List Item) → sum_by w (take n xs) + sum_by w (drop n xs) ≡ sum_by w xs
sum_by_cut w n xs = sym (sum_by_append w (take n xs) (drop n xs)) ∙ ap (sum_by w) (take-append-drop n xs)

-- A prefix sums to at most the whole.
pub sum_by_take_le : (w : Item → ℕ) (n : ℕ) (xs : List Item) → sum_by w (take n xs) ≤ sum_by w xs
sum_by_take_le w n xs = omega (arith, sum_by_cut w n xs)

-- The films of a window and those outside it make up the list.
pub sum_by_window : (w : Item → ℕ) (v : Window) (xs : List Item) → sum_by w (within v xs) + sum_by w (outside v xs) ≡ sum_by w xs
sum_by_window w v xs =
    omega (
      arith,
      sum_by_cut w v.start xs,
      sum_by_cut w v.size (drop v.start xs),
      ap (sum_by w) (drop-drop v.size v.start xs),
      sum_by_append w (take v.start xs) (drop (v.start + v.size) xs),
    )

sum_by_cond : (w : Item → ℕ) (b : Bool) (xs ys : List Item) (n : ℕ) → sum_by w xs ≡ n → sum_by w ys ≡ n → sum_by w (cond b xs ys) ≡ n
sum_by_cond w true xs ys n p q = p
sum_by_cond w false xs ys n p q = q

-- Insertion adds the item's weight.
pub sum_by_insert : (w : Item → ℕ) (o : Item → Item → Bool) (x : Item) (xs : List Item) → sum_by w (insert_by o x xs) ≡ w x + sum_by w xs
sum_by_insert w o x [] = refl
sum_by_insert w o x (y ∷ ys) =
    sum_by_cond w (o x y) (x ∷ y ∷ ys) (y ∷ insert_by o x ys) (w x + (w y + sum_by w ys)) refl
    (omega (arith, sum_by_insert w o x ys))

-- An item that enters adds its weight where its amount is at least 1.
pub sum_by_enter : (w : Item → ℕ) (x : Item) (xs : List Item) → sum_by w (enter x xs) ≡ cond (leb 1 x.amount) (w x) 0 + sum_by w xs
sum_by_enter w x xs = go (leb 1 x.amount)
  where
    go : (b : Bool) → sum_by w (cond b (insert_by before x xs) xs) ≡ cond b (w x) 0 + sum_by w xs
    go true = sum_by_insert w before x xs
    go false = omega arith

-- The length is the sum of ones.
abbrev pub one : Item → ℕ
one x = 1

pub length_sum : (xs : List Item) → length xs ≡ sum_by one xs
length_sum [] = refl
length_sum (x ∷ xs) = omega (arith, length_sum xs)
