-- Transfers placed one after the other: in parts, what each addition keeps holds of all, which copies they make and how many there are.
use mathlib.Core.Path.{◌≡◌, refl, sym, ap, ◌∙◌}
use mathlib.Core.List.{List, [], ◌∷◌, ◌++◌, map, append_assoc, append-nil}
use Prim.Native.Nat.{◌+◌}
use native.Mathlib.Omega.{arith}
use lib.ListN.{length, length-append}
use Rattle.placement.specs.WellFormed.{Each}
use Rattle.transfer_schedule.specs.Stored.{StoredCopy}
use Rattle.transfer_schedule.specs.Schedule.{Transfer, transfer_for, placed_with, place_all}
use Rattle.transfer_schedule.specs.Words.{copy_made}
use Rattle.transfer_schedule.proofs.Mapped.{map_last}

module _ (old : List StoredCopy) where
  -- The copies of two lists, one behind the other, are placed in two parts.
  pub place_append : (placed : List Transfer) (xs ys : List StoredCopy) → place_all old placed (xs ++ ys) ≡ place_all old (place_all old placed xs) ys
  place_append placed [] ys = refl
  place_append placed (x ∷ xs) ys = place_append (placed_with old x placed) xs ys

  -- What holds of the transfers placed, and is kept by the transfer of each copy, holds of all.
  pub place_keeps :
      (P : List Transfer → Type 0) (Q : StoredCopy → Type 0)
      → ((placed : List Transfer) (c : StoredCopy) → Q c → P placed → P (placed_with old c placed))
      → (placed : List Transfer) (cs : List StoredCopy) → Each Q cs → P placed → P (place_all old placed cs)
  place_keeps P Q step placed [] all holds = holds
  place_keeps P Q step placed (c ∷ cs) all holds = place_keeps P Q step (placed_with old c placed) cs all.1 (step placed c all.0 holds)

  -- So does what every transfer more keeps.
  pub place_always :
      (P : List Transfer → Type 0) → ((placed : List Transfer) (c : StoredCopy) → P placed → P (placed_with old c placed))
      → (placed : List Transfer) (cs : List StoredCopy) → P placed → P (place_all old placed cs)
  place_always P step placed [] holds = holds
  place_always P step placed (c ∷ cs) holds = place_always P step (placed_with old c placed) cs (step placed c holds)

  -- Behind those placed stand the transfers of the copies, in their order,
  pub place_copies : (placed : List Transfer) (cs : List StoredCopy) → map copy_made (place_all old placed cs) ≡ map copy_made placed ++ cs
  place_copies placed [] = sym (append-nil (map copy_made placed))
  place_copies placed (c ∷ cs) =
      place_copies (placed_with old c placed) cs
      ∙ ap (λ (front : List StoredCopy). front ++ cs) (map_last copy_made placed (transfer_for old placed c))
      ∙ append_assoc (map copy_made placed) (c ∷ []) cs

  -- one for each.
  pub place_length : (placed : List Transfer) (cs : List StoredCopy) → length (place_all old placed cs) ≡ length placed + length cs
  place_length placed [] = omega arith
  place_length placed (c ∷ cs) = omega (arith, place_length (placed_with old c placed) cs, length-append placed (transfer_for old placed c ∷ []))
