-- From filling order to number order: loads, accepted copies, and demand 3.
use mathlib.Core.Path.{◌≡◌, refl, sym, ap, ◌∙◌}
use mathlib.Core.Bool.{true}
use mathlib.Core.List.{List, [], ◌∷◌, map}
use Prim.Native.Nat.{ℕ, ◌≤◌}
use native.Mathlib.Omega.{arith}
use lib.ListN.{length, length-map}
use Rattle.placement.specs.Items.{Item, amount_of, amount_if, total, film_of}
use Rattle.placement.specs.Rack.{Disk}
use Rattle.placement.specs.Method.{placement, served}
use Rattle.placement.specs.Disk.{list_after}
use Rattle.placement.specs.FillingOrder.{filling, by_number}
use Rattle.placement.specs.Sharing.{Sharing, WithinLoads, films_on, viewers_of}
use Rattle.placement.specs.Plan.{disk_accepted, disks_accepted}
use Rattle.placement.specs.Promise.{Fitting, Demand3}
use Rattle.placement.proofs.Conjunctions.{both_true, and_holds, false_true}
use Rattle.placement.proofs.InsertedAt.{Pairwise}
use Rattle.placement.proofs.Layouts.{together_served, together_viewers}
use Rattle.placement.proofs.FillingOrder.{filling_length, filling_slots, filling_loads, by_number_map, by_number_sum, pairs_by_number, in_order, in_order_by_number, in_order_map, in_order_sum, pairs_in_order}

-- The method has one list of copies for each disk.
pub placement_length : (ds : List Disk) (list : List Item) → length (placement ds list) ≡ length ds
placement_length [] list = refl
placement_length (d ∷ ds) list = omega (arith, placement_length ds (list_after d list))

-- A disk serves at most its load.
abbrev Loaded : Disk → List Item → Type 0
Loaded d copies = total copies ≤ d.load

loads_each : (ds : List Disk) (layout : List (List Item)) → WithinLoads ds layout → Pairwise Loaded ds layout
loads_each [] [] loads = tt
loads_each [] (copies ∷ rest) loads = absurd loads
loads_each (d ∷ ds) [] loads = absurd loads
loads_each (d ∷ ds) (copies ∷ rest) loads = (loads.0, loads_each ds rest loads.1)

each_loads : (ds : List Disk) (layout : List (List Item)) → Pairwise Loaded ds layout → WithinLoads ds layout
each_loads [] [] all = tt
each_loads [] (copies ∷ rest) all = absurd all
each_loads (d ∷ ds) [] all = absurd all
each_loads (d ∷ ds) (copies ∷ rest) all = (all.0, each_loads ds rest all.1)

-- Its copies are accepted.
abbrev CopiesAccepted : Disk → List Item → Type 0
CopiesAccepted d copies = disk_accepted d copies ≡ true

accepted_each : (ds : List Disk) (layout : List (List Item)) → disks_accepted ds layout ≡ true → Pairwise CopiesAccepted ds layout
accepted_each [] [] e = tt
accepted_each [] (copies ∷ rest) e = false_true e
accepted_each (d ∷ ds) [] e = false_true e
accepted_each (d ∷ ds) (copies ∷ rest) e =
    let both = both_true (disk_accepted d copies) (disks_accepted ds rest) e in
    (both.0, accepted_each ds rest both.1)

each_accepted : (ds : List Disk) (layout : List (List Item)) → Pairwise CopiesAccepted ds layout → disks_accepted ds layout ≡ true
each_accepted [] [] all = refl
each_accepted [] (copies ∷ rest) all = absurd all
each_accepted (d ∷ ds) [] all = absurd all
each_accepted (d ∷ ds) (copies ∷ rest) all = and_holds (disk_accepted d copies) _ all.0 (each_accepted ds rest all.1)

-- Accepted copies in filling order are accepted by number.
pub accepted_by_number :
    (rack : List Disk) (layout : List (List Item)) → disks_accepted (filling rack) layout ≡ true → disks_accepted rack (by_number [] rack layout) ≡ true
accepted_by_number rack layout e =
    each_accepted rack (by_number [] rack layout) (pairs_by_number CopiesAccepted [] rack layout (accepted_each (filling rack) layout e))

module _ (rack : List Disk) (layout : List (List Item)) (same : length layout ≡ length rack) where
  -- All disks serve as many by number, and each film has as many viewers.
  pub by_number_served : served (by_number [] rack layout) ≡ served layout
  by_number_served =
      sym (together_served (by_number [] rack layout)) ∙ by_number_sum amount_of rack layout same ∙ together_served layout

  by_number_viewers : (f : ℕ) → viewers_of f (by_number [] rack layout) ≡ viewers_of f layout
  by_number_viewers f =
      sym (together_viewers f (by_number [] rack layout)) ∙ by_number_sum (amount_if f) rack layout same ∙ together_viewers f layout

  -- A sharing by number is one in filling order, and serves as many.
  module _ {demands : List Item} (shares : List (List Item)) (sharing : Sharing rack demands (by_number [] rack layout) shares) where
    loaded : Pairwise Loaded rack shares
    loaded = loads_each rack shares sharing.within_loads

    ordered_served : served (in_order rack shares) ≡ served shares
    ordered_served =
        sym (together_served (in_order rack shares)) ∙ in_order_sum Loaded amount_of rack shares loaded ∙ together_served shares

    ordered_viewers : (f : ℕ) → viewers_of f (in_order rack shares) ≡ viewers_of f shares
    ordered_viewers f =
        sym (together_viewers f (in_order rack shares)) ∙ in_order_sum Loaded (amount_if f) rack shares loaded ∙ together_viewers f shares

    ordered_sharing : Sharing (filling rack) demands layout (in_order rack shares)
    ordered_sharing = record {
      same_copies =
          in_order_map (map film_of) rack shares
          ∙ ap (in_order rack) (sharing.same_copies ∙ by_number_map (map film_of) [] rack layout)
          ∙ in_order_by_number [] rack (films_on layout) films_length;
      within_loads = each_loads (filling rack) (in_order rack shares) (pairs_in_order Loaded rack shares loaded);
      within_demands = λ f. omega (arith, ordered_viewers f, sharing.within_demands f);
    }
      where
        films_length : length (films_on layout) ≡ length rack
        films_length = length-map layout (map film_of) ∙ same

  -- Demand 3 in filling order is demand 3 by number.
  pub demand3_by_number :
      {k s u : ℕ} {demands : List Item} → Demand3 k (filling rack) demands layout s u → Demand3 k rack demands (by_number [] rack layout) s u
  demand3_by_number {k} {s} {u} {demands} promised = record {
    own = record {
      same_copies = refl;
      within_loads =
          each_loads rack (by_number [] rack layout)
          (pairs_by_number Loaded [] rack layout (loads_each (filling rack) layout promised.own.within_loads));
      within_demands = λ f. omega (arith, by_number_viewers f, promised.own.within_demands f);
    };
    own_serves = by_number_served ∙ promised.own_serves;
    best = λ shares sharing.
        omega (arith, ordered_served shares sharing, promised.best (in_order rack shares) (ordered_sharing shares sharing));
    whole = promised.whole;
    share = λ fitting. promised.share (ordered fitting);
    square = λ fitting. promised.square (ordered fitting);
    all_served = λ fitting slots.
        promised.all_served (ordered fitting) (omega (arith, slots, filling_length rack, filling_slots rack));
  }
    where
      ordered : Fitting rack demands → Fitting (filling rack) demands
      ordered fitting = record {
        load = omega (arith, fitting.load, filling_loads rack);
        slots = omega (arith, fitting.slots, filling_slots rack);
      }
