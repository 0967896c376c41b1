-- Lists whose amounts, but for the first one, are large: insertion, what follows the first film, sums of opening films.
use mathlib.Core.Path.{sym, ap, subst}
use mathlib.Core.Bool.{Bool, cond}
use mathlib.Core.List.{List, [], ◌∷◌}
use Prim.Native.Nat.{ℕ, zero, suc, ◌+◌, ◌*◌, ◌≤◌, ◌<◌}
use native.Mathlib.Nat.{suc-mul, mul_comm}
use native.Mathlib.Omega.{arith}
use lib.ListN.{length, take, drop}
use lib.Seq.{length-take-le}
use Rattle.placement.specs.Items.{Item, total, before, insert_by, enter}
use Rattle.placement.proofs.Tests.{by_order, chosen, passed}
use Rattle.placement.proofs.Order.{Ascending, ascending_weaken, ascending_take, ascending_drop, ascending_insert, before_less, total_least}

-- All films but the first have an amount of at least a.
abbrev pub Large : ℕ → List Item → Type 0
Large a [] = Unit {0}
Large a (x ∷ xs) = Ascending a xs

large_of_ascending : (a : ℕ) (xs : List Item) → Ascending a xs → Large a xs
large_of_ascending a [] asc = tt
large_of_ascending a (x ∷ xs) asc = ascending_weaken asc.0 xs asc.1

-- Any film may enter a list of amounts from a on: it is large, or stands in front.
large_insert : (a : ℕ) (x : Item) (xs : List Item) → Ascending a xs → Large a (insert_by before x xs)
large_insert a x xs asc =
    by_order x.amount a (λ h. front xs h asc)
    (λ h. large_of_ascending a (insert_by before x xs) (ascending_insert a x xs h asc))
  where
    front : (ys : List Item) → x.amount < a → Ascending a ys → Large a (insert_by before x ys)
    front [] h asc = tt
    front (y ∷ ys) h asc =
        subst (λ (b : Bool). Large a (cond b (x ∷ y ∷ ys) (y ∷ insert_by before x ys)))
        (sym (before_less x y (omega (arith, asc.0)))) asc

pub large_enter : (a : ℕ) (x : Item) (xs : List Item) → Ascending a xs → Large a (enter x xs)
large_enter a x xs asc =
    by_order x.amount 1
    (λ h. subst (λ (r : List Item). Large a r) (sym (passed x.amount (insert_by before x xs) xs (omega arith)))
    (large_of_ascending a xs asc))
    (λ h. subst (λ (r : List Item). Large a r) (sym (chosen x.amount (insert_by before x xs) xs h)) (large_insert a x xs asc))

-- What follows the first film ascends from a on.
pub large_drop : (a m : ℕ) (xs : List Item) → 1 ≤ m → Large a xs → Ascending a (drop m xs)
large_drop a zero xs some large = absurd (omega arith)
large_drop a (suc m) [] some large = tt
large_drop a (suc m) (x ∷ xs) some large = ascending_drop a m xs large

-- The opening films of a large list, one less than they are, make as many times a.
pub large_opening : (a n : ℕ) (xs : List Item) → n ≤ length xs → Large a xs → n * a ≤ total (take n xs) + a
large_opening a zero xs h large = omega (arith, suc-mul zero a)
large_opening a (suc n) [] h large = absurd (omega arith)
large_opening a (suc n) (x ∷ xs) h large =
    omega (
      arith,
      suc-mul n a,
      mul_comm n a,
      total_least a (take n xs) (ascending_take a n xs large),
      ap (λ (m : ℕ). a * m) (length-take-le n xs (omega arith)),
    )
