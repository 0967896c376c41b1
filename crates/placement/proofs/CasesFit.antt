-- Case A just fits: its streams and slots are all needed, and one viewer or one film more is too many.
use mathlib.Core.Path.{◌≡◌, refl}
use mathlib.Core.List.{[], ◌∷◌, ◌++◌}
use native.Mathlib.Omega.{arith}
use Rattle.placement.specs.Items.{total, wanted, ◌∶◌}
use Rattle.placement.specs.Rack.{all_slots, all_loads}
use Rattle.placement.specs.Promise.{Fitting}
use Rattle.placement.specs.Demand3Words.{disks_a, ten_films, demands_a}

-- A's total demand is all disks' streams, ...
pub streams_a : total demands_a ≡ all_loads disks_a
streams_a = refl

-- ... its films wanted are all slots, ...
pub slots_a : wanted demands_a ≡ all_slots disks_a
slots_a = refl

-- ... and so it just fits.
pub fitting_a : Fitting disks_a demands_a
fitting_a = record { load = omega (arith, streams_a); slots = omega (arith, slots_a) }

-- With one viewer more, of film 12, the streams do not suffice.
pub one_viewer_more_a : Fitting disks_a (ten_films ++ (11 ∶ 4 ∷ 12 ∶ 5 ∷ [])) → ⊥
one_viewer_more_a fitting = omega (arith, fitting.load)

-- With one film more, and no viewer more, the slots do not suffice.
pub one_film_more_a : Fitting disks_a (ten_films ++ (11 ∶ 4 ∷ 12 ∶ 3 ∷ 13 ∶ 1 ∷ [])) → ⊥
one_film_more_a fitting = omega (arith, fitting.slots)

-- A film more that nobody wants takes no slot.
pub unwanted_film_a : Fitting disks_a (ten_films ++ (11 ∶ 4 ∷ 12 ∶ 4 ∷ 13 ∶ 0 ∷ []))
unwanted_film_a = record { load = omega arith; slots = omega arith }
