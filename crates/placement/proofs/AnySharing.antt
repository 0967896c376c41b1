-- Which numbers of viewers are a sharing of stored copies: all that 01 allows, and no others.
use mathlib.Core.Path.{◌≡◌, refl, ap}
use mathlib.Core.Bool.{Bool, true, false, cond}
use mathlib.Core.List.{List, [], ◌∷◌, map}
use Prim.Native.Nat.{ℕ, ◌+◌, ◌≤◌}
use native.Mathlib.Omega.{arith}
use lib.Dec.{eqb}
use lib.ListN.{length, get_or}
use Rattle.placement.specs.Items.{Item, item, total, film_of, amount_for}
use Rattle.placement.specs.Rack.{Disk}
use Rattle.placement.specs.Sharing.{Sharing, WithinLoads, films_on, viewers_of}
use Rattle.placement.specs.Method.{served}
use Rattle.placement.specs.Demand3Words.{zeroed, disks_a, demands_a, copies_a, other_a, overloaded_a, overserved_a, other_film_a, moved_a}

-- The copies of a disk with 0 viewers each.
abbrev zeros : List Item → List Item
zeros copies = map (λ x. item x.film 0) copies

-- They are of the same films, ...
zeros_films : (copies : List Item) → map film_of (zeros copies) ≡ map film_of copies
zeros_films [] = refl
zeros_films (x ∷ xs) = ap (λ (r : List ℕ). x.film ∷ r) (zeros_films xs)

-- ... have no viewers in all ...
zeros_total : (copies : List Item) → total (zeros copies) ≡ 0
zeros_total [] = refl
zeros_total (x ∷ xs) = omega (arith, zeros_total xs)

-- ... and none for a film.
zeros_amount : (f : ℕ) (copies : List Item) → amount_for f (zeros copies) ≡ 0
zeros_amount f [] = refl
zeros_amount f (x ∷ xs) = omega (arith, none (eqb f x.film), zeros_amount f xs)
  where
    none : (b : Bool) → ◌≡◌ {A = ℕ} (cond b 0 0) 0
    none true = refl
    none false = refl

-- Over all disks they are of the same films, ...
zeroed_films : (layout : List (List Item)) → films_on (zeroed layout) ≡ films_on layout
zeroed_films [] = refl
zeroed_films (copies ∷ rest) = cc (zeros_films copies, zeroed_films rest)

-- ... within every load ...
zeroed_loads : (disks : List Disk) (layout : List (List Item)) → length layout ≡ length disks → WithinLoads disks (zeroed layout)
zeroed_loads [] [] e = tt
zeroed_loads [] (copies ∷ rest) e = absurd (omega arith)
zeroed_loads (d ∷ ds) [] e = absurd (omega arith)
zeroed_loads (d ∷ ds) (copies ∷ rest) e = (omega (arith, zeros_total copies), zeroed_loads ds rest (omega arith))

-- ... and no viewers for a film.
zeroed_viewers : (f : ℕ) (layout : List (List Item)) → viewers_of f (zeroed layout) ≡ 0
zeroed_viewers f [] = refl
zeroed_viewers f (copies ∷ rest) = omega (arith, zeros_amount f copies, zeroed_viewers f rest)

-- For every layout with a list of copies for each disk, 0 viewers for every copy are a sharing.
pub zeroed_sharing :
    (disks : List Disk) (demands : List Item) (layout : List (List Item)) → length layout ≡ length disks
    → Sharing disks demands layout (zeroed layout)
zeroed_sharing disks demands layout lists = record {
  same_copies = zeroed_films layout;
  within_loads = zeroed_loads disks layout lists;
  within_demands = λ f. omega (arith, zeroed_viewers f layout);
}

-- Where each disk serves at most its load, there is a list for each disk.
within_loads_lists : (disks : List Disk) (shares : List (List Item)) → WithinLoads disks shares → length shares ≡ length disks
within_loads_lists [] [] loads = refl
within_loads_lists [] (copies ∷ rest) loads = absurd loads
within_loads_lists (d ∷ ds) [] loads = absurd loads
within_loads_lists (d ∷ ds) (copies ∷ rest) loads = omega (arith, within_loads_lists ds rest loads.1)

-- Every sharing has a list of copies for each disk.
pub sharing_lists :
    (disks : List Disk) (demands : List Item) (layout shares : List (List Item)) → Sharing disks demands layout shares
    → length shares ≡ length disks
sharing_lists disks demands layout shares sharing = within_loads_lists disks shares sharing.within_loads

-- A has another sharing than the plan's own ...
pub other_sharing_a : Sharing disks_a demands_a copies_a other_a
other_sharing_a = record {
  same_copies = refl;
  within_loads = (omega arith, (omega arith, (omega arith, tt)));
  within_demands = λ f. omega (arith, parts (eqb f 11), parts (eqb f 12));
}
  where
    parts : (b : Bool) → cond b 1 0 + cond b 3 0 ≤ cond b 4 0
    parts true = omega arith
    parts false = omega arith

-- ... which differs from it ...
pub other_differs_a : other_a ≡ copies_a → ⊥
other_differs_a e =
    let z : ◌≡◌ {A = ℕ} 4 6 = ap (λ (shares : List (List Item)). total (get_or shares 0 [])) e in absurd (omega arith)

-- ... and serves as many viewers.
pub other_serves_a : served other_a ≡ served copies_a
other_serves_a = refl

-- It is no sharing of A's copies to give a disk one viewer more than its load, ...
pub overloaded_a_lem : Sharing disks_a demands_a copies_a overloaded_a → ⊥
overloaded_a_lem sharing = omega (arith, sharing.within_loads.1.0)

-- ... a film one viewer more than its demand over two disks, ...
pub overserved_a_lem : Sharing disks_a demands_a copies_a overserved_a → ⊥
overserved_a_lem sharing = omega (arith, sharing.within_demands 11)

-- ... viewers to a film that the disk does not store, ...
pub other_film_a_lem : Sharing disks_a demands_a copies_a other_film_a → ⊥
other_film_a_lem sharing =
    let z : ◌≡◌ {A = ℕ} 1 8 = ap (λ (films : List (List ℕ)). get_or (get_or films 0 []) 0 0) sharing.same_copies in
    absurd (omega arith)

-- ... or a copy's viewers to another disk.
pub moved_copy_a : Sharing disks_a demands_a copies_a moved_a → ⊥
moved_copy_a sharing =
    let z : ◌≡◌ {A = ℕ} 3 4 = ap (λ (films : List (List ℕ)). length (get_or films 0 [])) sharing.same_copies in
    absurd (omega arith)
