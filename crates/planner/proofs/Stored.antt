-- What a disk stores is its window with less for the last film.
use mathlib.Core.Path.{◌≡◌, refl, sym, ap, ◌∙◌}
use mathlib.Core.List.{List, [], ◌∷◌, ◌++◌}
use Prim.Native.Nat.{ℕ, ◌-◌, ◌≤◌, ◌<◌}
use native.Mathlib.Omega.{arith}
use Rattle.placement.specs.Items.{Item, item, total, amount_of}
use Rattle.placement.specs.Disk.{all_but_last, last_film, stored}
use Rattle.placement.proofs.Tests.{by_order}
use Rattle.placement.proofs.Disks.{split_last, sum_by_last, some_film, stored_below, stored_reaching}
use Rattle.planner.specs.Copies.{less_last}
use Rattle.planner.proofs.Copies.{less_last_none}

-- Less for the last item of a list that ends in it.
less_last_end :
    (over : ℕ) (xs : List Item) (x : Item) → less_last over (xs ++ (x ∷ [])) ≡ xs ++ (item x.film (x.amount - over) ∷ [])
less_last_end over [] x = refl
less_last_end over (y ∷ []) x = refl
less_last_end over (y ∷ z ∷ ys) x = ap (λ (r : List Item). y ∷ r) (less_last_end over (z ∷ ys) x)

module _ (load : ℕ) (xs : List Item) (some : 1 ≤ load) (needed : load ≤ total xs → total (all_but_last xs) < load) where
  -- A window is stored with `total − load` less for its last film.
  pub stored_less : stored load xs ≡ less_last (total xs - load) xs
  stored_less = by_order (total xs) load below reaching
    where
      below : total xs < load → stored load xs ≡ less_last (total xs - load) xs
      below h = stored_below load xs h ∙ sym (ap (λ (o : ℕ). less_last o xs) (none_over h) ∙ less_last_none xs)
        where
          none_over : total xs < load → total xs - load ≡ 0
          none_over h = omega arith

      reaching : load ≤ total xs → stored load xs ≡ less_last (total xs - load) xs
      reaching h =
          stored_reaching load xs h
          ∙ ap (λ (a : ℕ). all_but_last xs ++ (item (last_film xs).film a ∷ [])) just_enough
          ∙ sym
          (ap (less_last (total xs - load)) (split_last xs (some_film xs (omega arith)))
          ∙ less_last_end (total xs - load) (all_but_last xs) (last_film xs))
        where
          just_enough : load - total (all_but_last xs) ≡ (last_film xs).amount - (total xs - load)
          just_enough = omega (arith, needed h, sum_by_last amount_of xs (some_film xs (omega arith)))

  -- What is over is part of the last film.
  pub over_last : total xs - load ≤ (last_film xs).amount
  over_last =
      by_order (total xs) load (λ h. omega arith)
      (λ h. omega (arith, needed h, sum_by_last amount_of xs (some_film xs (omega arith))))
