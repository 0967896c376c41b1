-- The words of demand 3 on document 01's cases: what its fields give and what they refuse.
use mathlib.Core.Path.{◌≡◌, refl, ap}
use mathlib.Core.List.{List, [], ◌∷◌, ◌++◌}
use Prim.Native.Nat.{ℕ, ◌+◌, ◌≤◌}
use native.Mathlib.Omega.{arith}
use lib.ListN.{length, get_or}
use Rattle.placement.specs.Items.{Item, list_of, wanted, occurrences, ◌∶◌}
use Rattle.placement.specs.Rack.{rack_of, all_slots}
use Rattle.placement.specs.Method.{unserved, placement}
use Rattle.placement.specs.Sharing.{Sharing}
use Rattle.placement.specs.Promise.{Distinct, Fitting, Demand3, unserved_side, served_side}
use Rattle.placement.specs.Demand3Words.{disks_a, demands_a, copies_a, disks_c, demands_c, copies_c, disks_e, demands_e, copies_e, disks_g, demands_g, copies_g, disks_h, demands_h, disks_u, demands_u, copies_u}
use Rattle.placement.proofs.Films.{distinct_new}
use Rattle.placement.proofs.Demand3.{demand3_rack, demand3_accepted}
use Rattle.placement.proofs.ShelfSharing.{demand3_shelved}

-- How often the films of a list stand again behind themselves.
abbrev repeats : List Item → ℕ
repeats [] = 0
repeats (x ∷ xs) = occurrences x.film xs + repeats xs

-- Films that never do are distinct.
repeats_none : (xs : List Item) → repeats xs ≡ 0 → Distinct xs
repeats_none [] none = λ f. omega arith
repeats_none (x ∷ xs) none = distinct_new x xs (omega arith) (repeats_none xs (omega arith))

-- Demand 3 holds for A's plan, with S = 16 and U = 2.
pub demand3_a : Demand3 4 disks_a demands_a copies_a 16 2
demand3_a = demand3_rack 3 4 6 demands_a (omega arith) (omega arith) (repeats_none demands_a refl)

-- It holds for C's, with S = 3 and U = 1.
pub demand3_c : Demand3 1 disks_c demands_c copies_c 3 1
demand3_c = demand3_rack 2 1 2 demands_c (omega arith) (omega arith) (repeats_none demands_c refl)

-- It holds for E's, with S = 20 and the U that the method leaves.
pub demand3_e : Demand3 2 disks_e demands_e copies_e 20 (unserved disks_e (list_of demands_e))
demand3_e = demand3_rack 2 2 10 demands_e (omega arith) (omega arith) (repeats_none demands_e refl)

-- It holds for G's, the shelf copy of film 4 included, with S = 5 and U = 0.
pub demand3_g : Demand3 4 disks_g demands_g copies_g 5 0
demand3_g =
    demand3_shelved (4 ∶ 0 ∷ []) (placement disks_g (list_of demands_g)) ((refl, refl), tt)
    (demand3_rack 1 4 9 demands_g (omega arith) (omega arith) (repeats_none demands_g refl))

-- A sharing of G gives the shelf copy nobody, ...
pub nobody_g : Sharing disks_g demands_g copies_g ((1 ∶ 2 ∷ 2 ∶ 3 ∷ 4 ∶ 1 ∷ []) ∷ []) → ⊥
nobody_g sharing = omega (arith, sharing.within_demands 4)

-- ... and has it: without it the copies are others.
pub left_out_g : Sharing disks_g demands_g copies_g ((1 ∶ 2 ∷ 2 ∶ 3 ∷ []) ∷ []) → ⊥
left_out_g sharing =
    let z : ◌≡◌ {A = ℕ} 2 3 = ap (λ (films : List (List ℕ)). length (get_or films 0 [])) sharing.same_copies in
    absurd (omega arith)

-- A meets demand 3's square with equality.
pub square_a : unserved_side 4 2 ≡ served_side 4 16 2
square_a = refl

-- So does C.
pub square_c : unserved_side 1 1 ≡ served_side 1 3 1
square_c = refl

-- Two disks of 3 slots and load 4, six films: copies of all but film 1 serve 6 of 7 viewers. They meet all of demand 3 but the square:
-- 4kU² is 12, and (S − kU)² is 9.
pub square_missed :
    Demand3 3 (rack_of 2 3 4) (1 ∶ 1 ∷ 2 ∶ 1 ∷ 3 ∶ 1 ∷ 4 ∶ 1 ∷ 5 ∶ 1 ∷ 6 ∶ 2 ∷ [])
    ((2 ∶ 1 ∷ 3 ∶ 1 ∷ 4 ∶ 1 ∷ []) ∷ (5 ∶ 1 ∷ 6 ∶ 2 ∷ []) ∷ []) 6 1
    → ⊥
square_missed promised = omega (arith, promised.square (record { load = omega arith; slots = omega arith }))

-- E fits.
pub fitting_e : Fitting disks_e demands_e
fitting_e = record { load = omega arith; slots = omega arith }

-- E has exactly enough slots for U = 0.
pub slots_e : wanted demands_e + length disks_e ≡ all_slots disks_e + 1
slots_e = refl

-- So whatever copies meet demand 3 for it leave nobody unserved, ...
pub all_served_e : (layout : List (List Item)) (s u : ℕ) → Demand3 2 disks_e demands_e layout s u → u ≡ 0
all_served_e layout s u promised = promised.all_served fitting_e (omega (arith, slots_e))

-- ... also where the list has a film more that nobody wants, ...
pub unwanted_film_e : (layout : List (List Item)) (s u : ℕ) → Demand3 2 disks_e (demands_e ++ (5 ∶ 0 ∷ [])) layout s u → u ≡ 0
unwanted_film_e layout s u promised = promised.all_served (record { load = omega arith; slots = omega arith }) (omega arith)

-- ... and the plan does not.
pub unserved_e : unserved disks_e (list_of demands_e) ≡ 0
unserved_e = all_served_e copies_e 20 (unserved disks_e (list_of demands_e)) demand3_e

-- C fits.
pub fitting_c : Fitting disks_c demands_c
fitting_c = record { load = omega arith; slots = omega arith }

-- C is one slot short for U = 0.
pub slots_c : wanted demands_c + length disks_c ≡ all_slots disks_c + 1 + 1
slots_c = refl

-- So demand 3 does not ask it of C, whose plan has U = 1.
pub one_short_c : wanted demands_c + length disks_c ≤ all_slots disks_c + 1 → ⊥
one_short_c enough = omega (arith, demand3_c.all_served fitting_c enough)

-- H's one copy, with 4 viewers in the plan, has a sharing with 5.
better_h : Sharing disks_h demands_h ((2 ∶ 4 ∷ []) ∷ []) ((2 ∶ 5 ∷ []) ∷ [])
better_h = record { same_copies = refl; within_loads = (omega arith, tt); within_demands = λ f. omega arith }

-- So a plan of H that serves 4 does not meet demand 3.
pub not_best_h : Demand3 1 disks_h demands_h ((2 ∶ 4 ∷ []) ∷ []) 4 6 → ⊥
not_best_h promised = omega (arith, promised.best ((2 ∶ 5 ∷ []) ∷ []) better_h)

-- Nor does one that serves 6, one more than the load.
pub beyond_load_h : Demand3 1 disks_h demands_h ((2 ∶ 6 ∷ []) ∷ []) 6 4 → ⊥
beyond_load_h promised = omega (arith, promised.own.within_loads.0)

-- For one that serves 5, S is 5, and U what total demand has more.
pub numbers_h : (s u : ℕ) → Demand3 1 disks_h demands_h ((2 ∶ 5 ∷ []) ∷ []) s u → (s ≡ 5) × (u ≡ 5)
numbers_h s u promised = (omega (arith, promised.own_serves), omega (arith, promised.own_serves, promised.whole))

-- Demand 3 holds for unequal disks, with k the smallest slots: of this rack S is 7 and U is 2.
pub demand3_u : Demand3 1 disks_u demands_u copies_u 7 2
demand3_u = demand3_accepted disks_u demands_u refl (repeats_none demands_u refl)

-- Its streams and slots just suffice, ...
pub fitting_u : Fitting disks_u demands_u
fitting_u = record { load = omega arith; slots = omega arith }

-- ... and with k the largest slots the square would not hold.
pub largest_slots_u : Demand3 2 disks_u demands_u copies_u 7 2 → ⊥
largest_slots_u promised = omega (arith, promised.square fitting_u)
