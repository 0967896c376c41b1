-- Shelving one film after the other: what the copies and the films without a slot sum to, and what shelving keeps of a layout.
use mathlib.Core.Path.{◌≡◌, refl, ap, ◌∙◌}
use mathlib.Core.Bool.{Bool, true, false, cond, ◌||◌, true≢false}
use mathlib.Core.List.{List, [], ◌∷◌, ◌++◌}
use Prim.Native.Nat.{ℕ, ◌+◌, ◌≤◌}
use native.Mathlib.Omega.{arith}
use Rattle.placement.specs.Items.{Item, sum_by}
use Rattle.placement.specs.Rack.{Disk}
use Rattle.placement.specs.Shelf.{has_free_slot, some_free_slot, shelved_one, shelved, unshelved}
use Rattle.placement.specs.WellFormed.{Each}
use Rattle.placement.proofs.Sums.{sum_by_append}
use Rattle.placement.proofs.Layouts.{together}

-- A film of demand 0.
abbrev pub Unwanted : Item → Type 0
Unwanted x = x.amount ≡ 0

module _ (w : Item → ℕ) where
  -- A film that is shelved adds its weight where there is a free slot.
  pub shelved_one_sum :
      (rack : List Disk) (x : Item) (layout : List (List Item))
      → sum_by w (together (shelved_one rack x layout)) ≡ cond (some_free_slot rack layout) (w x) 0 + sum_by w (together layout)
  shelved_one_sum [] x layout = omega arith
  shelved_one_sum (d ∷ ds) x [] = refl
  shelved_one_sum (d ∷ ds) x (copies ∷ rest) = go (has_free_slot d copies) (shelved_one_sum ds x rest)
    where
      go : (b : Bool)
          → sum_by w (together (shelved_one ds x rest)) ≡ cond (some_free_slot ds rest) (w x) 0 + sum_by w (together rest)
          → sum_by w (together (cond b ((copies ++ (x ∷ [])) ∷ rest) (copies ∷ shelved_one ds x rest)))
          ≡ cond (b || some_free_slot ds rest) (w x) 0 + sum_by w (copies ++ together rest)
      go true later =
          omega (
            arith,
            sum_by_append w (copies ++ (x ∷ [])) (together rest),
            sum_by_append w copies (x ∷ []),
            sum_by_append w copies (together rest),
          )
      go false later =
          omega (arith, sum_by_append w copies (together (shelved_one ds x rest)), sum_by_append w copies (together rest))

  -- The films that are shelved and those without a slot are all films.
  pub shelved_sum :
      (rack : List Disk) (films : List Item) (layout : List (List Item))
      → sum_by w (together (shelved rack films layout)) + sum_by w (unshelved rack films layout) ≡ sum_by w (together layout) + sum_by w films
  shelved_sum rack [] layout = refl
  shelved_sum rack (x ∷ xs) layout =
      go (some_free_slot rack layout) (shelved_one_sum rack x layout) (shelved_sum rack xs (shelved_one rack x layout))
    where
      one : List (List Item)
      one = shelved_one rack x layout

      go : (b : Bool) → sum_by w (together one) ≡ cond b (w x) 0 + sum_by w (together layout)
          → sum_by w (together (shelved rack xs one)) + sum_by w (unshelved rack xs one) ≡ sum_by w (together one) + sum_by w xs
          → sum_by w (together (shelved rack xs one)) + sum_by w (cond b (unshelved rack xs one) (x ∷ unshelved rack xs one))
          ≡ sum_by w (together layout) + (w x + sum_by w xs)
      go true here later = omega arith
      go false here later = omega arith

  -- Those without a slot weigh at most what all films do.
  pub unshelved_sum : (rack : List Disk) (films : List Item) (layout : List (List Item)) → sum_by w (unshelved rack films layout) ≤ sum_by w films
  unshelved_sum rack [] layout = omega arith
  unshelved_sum rack (x ∷ xs) layout = go (some_free_slot rack layout) (unshelved_sum rack xs (shelved_one rack x layout))
    where
      go : (b : Bool) → sum_by w (unshelved rack xs (shelved_one rack x layout)) ≤ sum_by w xs
          → sum_by w (cond b (unshelved rack xs (shelved_one rack x layout)) (x ∷ unshelved rack xs (shelved_one rack x layout))) ≤ w x + sum_by w xs
      go true later = omega arith
      go false later = omega arith

  -- Films that weigh nothing leave the sum over the copies.
  pub shelved_kept :
      (rack : List Disk) (films : List Item) (layout : List (List Item)) → sum_by w films ≡ 0
      → sum_by w (together (shelved rack films layout)) ≡ sum_by w (together layout)
  shelved_kept rack films layout none = omega (arith, shelved_sum rack films layout, unshelved_sum rack films layout)

-- What all films have, those without a slot have.
pub each_unshelved :
    (P : Item → Type 0) (rack : List Disk) (films : List Item) (layout : List (List Item)) → Each P films → Each P (unshelved rack films layout)
each_unshelved P rack [] layout all = tt
each_unshelved P rack (x ∷ xs) layout all = go (some_free_slot rack layout) (each_unshelved P rack xs (shelved_one rack x layout) all.1)
  where
    go : (b : Bool) → Each P (unshelved rack xs (shelved_one rack x layout))
        → Each P (cond b (unshelved rack xs (shelved_one rack x layout)) (x ∷ unshelved rack xs (shelved_one rack x layout)))
    go true later = later
    go false later = (all.0, later)

-- Without a free slot the copies stay as they are.
pub shelved_one_full : (rack : List Disk) (x : Item) (layout : List (List Item)) → some_free_slot rack layout ≡ false → shelved_one rack x layout ≡ layout
shelved_one_full [] x layout full = refl
shelved_one_full (d ∷ ds) x [] full = refl
shelved_one_full (d ∷ ds) x (copies ∷ rest) full = go (has_free_slot d copies) full (shelved_one_full ds x rest)
  where
    go : (b : Bool) → (b || some_free_slot ds rest) ≡ false → (some_free_slot ds rest ≡ false → shelved_one ds x rest ≡ rest)
        → cond b ((copies ++ (x ∷ [])) ∷ rest) (copies ∷ shelved_one ds x rest) ≡ copies ∷ rest
    go true e later = absurd (true≢false e)
    go false e later = ap (λ (more : List (List Item)). copies ∷ more) (later e)

-- So it is with all films.
shelved_full :
    (rack : List Disk) (films : List Item) (layout : List (List Item)) → some_free_slot rack layout ≡ false → shelved rack films layout ≡ layout
shelved_full rack [] layout full = refl
shelved_full rack (x ∷ xs) layout full =
    ap (shelved rack xs) (shelved_one_full rack x layout full) ∙ shelved_full rack xs layout full

-- Where a film has no slot, no slot is free once all films are shelved.
pub unshelved_full :
    (rack : List Disk) (films : List Item) (layout : List (List Item)) → 1 ≤ sum_by (λ x. 1) (unshelved rack films layout)
    → some_free_slot rack (shelved rack films layout) ≡ false
unshelved_full rack [] layout some = absurd (omega arith)
unshelved_full rack (x ∷ xs) layout some =
    go (some_free_slot rack layout) refl some (unshelved_full rack xs (shelved_one rack x layout))
  where
    one : List (List Item)
    one = shelved_one rack x layout

    go : (b : Bool) → some_free_slot rack layout ≡ b
        → 1 ≤ sum_by (λ x. 1) (cond b (unshelved rack xs one) (x ∷ unshelved rack xs one))
        → (1 ≤ sum_by (λ x. 1) (unshelved rack xs one) → some_free_slot rack (shelved rack xs one) ≡ false)
        → some_free_slot rack (shelved rack xs one) ≡ false
    go true e some later = later some
    go false e some later =
        ap (some_free_slot rack) (ap (shelved rack xs) (shelved_one_full rack x layout e) ∙ shelved_full rack xs layout e) ∙ e
