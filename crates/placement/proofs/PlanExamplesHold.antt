-- The examples of plans, proved by computation on the definitions.
use mathlib.Core.Path.{◌≡◌, refl}
use mathlib.Core.Bool.{true, false}
use mathlib.Core.List.{map}
use lib.ListN.{length, replicate}
use Rattle.placement.specs.Plan.{well_formed}
use Rattle.placement.specs.PlanExamples.{formed_plans, broken_plans}

-- Every plan of the first list is well formed.
pub formed_hold : map well_formed formed_plans ≡ replicate (length formed_plans) true
formed_hold = refl

-- No plan of the second list is.
pub broken_hold : map well_formed broken_plans ≡ replicate (length broken_plans) false
broken_hold = refl
