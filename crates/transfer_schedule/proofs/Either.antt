-- Two tests of which one holds.
use mathlib.Core.Path.{◌≡◌, refl, ap}
use mathlib.Core.Bool.{Bool, true, false, ◌||◌}

-- What follows from the one and from the other.
pub by_either : {P : Type 0} (a b : Bool) → (a || b) ≡ true → (a ≡ true → P) → (b ≡ true → P) → P
by_either true b e first second = first refl
by_either false b e first second = second e

-- The one that holds is enough.
pub first_holds : (a b : Bool) → a ≡ true → (a || b) ≡ true
first_holds a b e = ap (λ (x : Bool). x || b) e

pub second_holds : (a b : Bool) → b ≡ true → (a || b) ≡ true
second_holds true b e = refl
second_holds false b e = e
