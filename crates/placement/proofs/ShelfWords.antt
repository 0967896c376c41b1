-- The words of the promise of shelf copies, on two disks: the plan that meets it, and what its fields refuse.
use mathlib.Core.Path.{◌≡◌, refl, ap}
use mathlib.Core.List.{List, [], ◌∷◌}
use Prim.Native.Nat.{ℕ}
use native.Mathlib.Omega.{arith}
use lib.ListN.{get_or}
use Rattle.placement.specs.Items.{Item, total, film_of, ◌∶◌}
use Rattle.placement.specs.Rack.{Disk, rack_of}
use Rattle.placement.specs.Method.{served}
use Rattle.placement.specs.Promise.{Distinct}
use Rattle.placement.specs.ShelfPromise.{ShelfPromise}
use Rattle.placement.specs.WellFormed.{Demanded}
use Rattle.placement.proofs.Films.{distinct_new}
use Rattle.placement.proofs.ShelfPromise.{shelf_promise}

-- Three slots and load 5 a disk. Disk 1 serves films 7 and 4, in this order, and nobody wants films 2 and 3.
abbrev rack : List Disk
rack = rack_of 2 3 5

abbrev demands : List Item
demands = 7 ∶ 2 ∷ 4 ∶ 3 ∷ 2 ∶ 0 ∷ 3 ∶ 0 ∷ []

abbrev Promised : (first second left : List Item) → Type 0
Promised first second left = ShelfPromise rack demands (first ∷ second ∷ []) left

-- The plan has film 2 on disk 1, film 3 on disk 2, and nothing is left.
pub promise_met : Promised (7 ∶ 2 ∷ 4 ∶ 3 ∷ 2 ∶ 0 ∷ []) (3 ∶ 0 ∷ []) []
promise_met =
    shelf_promise rack demands (omega arith, omega arith, (omega arith, omega arith, tt))
    (record { distinct = distinct; demanded = (film_7, (film_4, (film_2, (film_3, tt)))) })
  where
    film_7 : Demanded (7 ∶ 2)
    film_7 = record { film_least = omega arith; film_most = omega arith; amount_most = omega arith }

    film_4 : Demanded (4 ∶ 3)
    film_4 = record { film_least = omega arith; film_most = omega arith; amount_most = omega arith }

    film_2 : Demanded (2 ∶ 0)
    film_2 = record { film_least = omega arith; film_most = omega arith; amount_most = omega arith }

    film_3 : Demanded (3 ∶ 0)
    film_3 = record { film_least = omega arith; film_most = omega arith; amount_most = omega arith }

    distinct : Distinct demands
    distinct =
        distinct_new (7 ∶ 2) (4 ∶ 3 ∷ 2 ∶ 0 ∷ 3 ∶ 0 ∷ []) refl
        (distinct_new (4 ∶ 3) (2 ∶ 0 ∷ 3 ∶ 0 ∷ []) refl
        (distinct_new (2 ∶ 0) (3 ∶ 0 ∷ []) refl (distinct_new (3 ∶ 0) [] refl (λ f. omega arith))))

-- Another number of viewers than the method's is refused, ...
pub viewers_wrong : Promised (7 ∶ 1 ∷ 4 ∶ 3 ∷ 2 ∶ 0 ∷ []) (3 ∶ 0 ∷ []) [] → ⊥
viewers_wrong promised = omega (arith, ap served promised.viewed)

-- ... a viewer for a shelf copy, ...
pub shelf_viewed : Promised (7 ∶ 2 ∷ 4 ∶ 3 ∷ 2 ∶ 1 ∷ []) (3 ∶ 0 ∷ []) [] → ⊥
shelf_viewed promised = omega (arith, ap served promised.viewed)

-- ... the method's copies on another disk, ...
pub other_disk : Promised (3 ∶ 0 ∷ []) (7 ∶ 2 ∷ 4 ∶ 3 ∷ 2 ∶ 0 ∷ []) [] → ⊥
other_disk promised =
    let z : ◌≡◌ {A = ℕ} 0 5 = ap (λ (layout : List (List Item)). total (get_or layout 0 [])) promised.viewed in
    absurd (omega arith)

-- ... or in another order, ...
pub other_order : Promised (4 ∶ 3 ∷ 7 ∶ 2 ∷ 2 ∶ 0 ∷ []) (3 ∶ 0 ∷ []) [] → ⊥
other_order promised =
    let z : ◌≡◌ {A = ℕ} 4 7 = ap (λ (layout : List (List Item)). film_of (get_or (get_or layout 0 []) 0 (0 ∶ 0))) promised.viewed in
    absurd (omega arith)

-- ... a left viewer that the method does not leave, ...
pub left_wrong : Promised (7 ∶ 2 ∷ 4 ∶ 3 ∷ 2 ∶ 0 ∷ []) (3 ∶ 0 ∷ []) (7 ∶ 1 ∷ []) → ⊥
left_wrong promised = omega (arith, ap total promised.leaves)

-- ... a film of demand 0 neither stored nor left, ...
pub in_neither : Promised (7 ∶ 2 ∷ 4 ∶ 3 ∷ 2 ∶ 0 ∷ []) [] [] → ⊥
in_neither promised = omega (arith, promised.present 3 (omega arith))

-- ... stored and left, ...
pub in_both : Promised (7 ∶ 2 ∷ 4 ∶ 3 ∷ 2 ∶ 0 ∷ []) (3 ∶ 0 ∷ []) (2 ∶ 0 ∷ []) → ⊥
in_both promised = omega (arith, promised.once 2 refl)

-- ... on two disks, ...
pub on_two_disks : Promised (7 ∶ 2 ∷ 4 ∶ 3 ∷ 2 ∶ 0 ∷ []) (2 ∶ 0 ∷ 3 ∶ 0 ∷ []) [] → ⊥
on_two_disks promised = omega (arith, promised.once 2 refl)

-- ... a film that is not in the list stored, ...
pub stored_not_listed : Promised (7 ∶ 2 ∷ 4 ∶ 3 ∷ 2 ∶ 0 ∷ []) (3 ∶ 0 ∷ 9 ∶ 0 ∷ []) [] → ⊥
stored_not_listed promised = omega (arith, promised.once 9 refl)

-- ... or left, ...
pub left_not_listed : Promised (7 ∶ 2 ∷ 4 ∶ 3 ∷ 2 ∶ 0 ∷ []) (3 ∶ 0 ∷ []) (9 ∶ 0 ∷ []) → ⊥
left_not_listed promised = omega (arith, promised.once 9 refl)

-- ... a shelf copy of a film that has viewers, ...
pub wanted_shelved : Promised (7 ∶ 2 ∷ 4 ∶ 3 ∷ 2 ∶ 0 ∷ []) (3 ∶ 0 ∷ 7 ∶ 0 ∷ []) [] → ⊥
wanted_shelved promised = omega (arith, promised.not_shelved 7 (omega arith))

-- ... such a film left with amount 0, ...
pub wanted_left : Promised (7 ∶ 2 ∷ 4 ∶ 3 ∷ 2 ∶ 0 ∷ []) (3 ∶ 0 ∷ []) (7 ∶ 0 ∷ []) → ⊥
wanted_left promised = omega (arith, promised.not_shelved 7 (omega arith))

-- ... and a film of demand 0 left while disk 2 has a free slot.
pub beside_free_slot : Promised (7 ∶ 2 ∷ 4 ∶ 3 ∷ 2 ∶ 0 ∷ []) [] (3 ∶ 0 ∷ []) → ⊥
beside_free_slot promised =
    let z : ◌≡◌ {A = ℕ} 0 3 = ap (λ (slots : List ℕ). get_or slots 1 0) (promised.slots_taken 3 refl (omega arith)) in
    absurd (omega arith)
