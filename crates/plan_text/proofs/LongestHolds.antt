-- The longest texts are as long as the bounds say.
use mathlib.Core.Path.{◌≡◌, refl}
use mathlib.Core.Bool.{true}
use lib.ListN.{length}
use Rattle.plan_text.specs.Decimal.{decimal}
use Rattle.placement.specs.Rack.{all_equal}
use Rattle.placement.specs.Plan.{well_formed}
use Rattle.plan_text.specs.Text.{text_of}
use Rattle.plan_text.specs.Longest.{longest_plan, longest_equal_plan}

-- The plan is well formed, and its text has 54,800 bytes.
pub longest_length : (well_formed longest_plan ≡ true) × (length (text_of longest_plan) ≡ 54800)
unfolding text_of decimal
longest_length = (refl, refl)

-- So is that of equal disks, and its text has 54,125 bytes.
pub longest_equal_length :
    (well_formed longest_equal_plan ≡ true) × (all_equal longest_equal_plan.rack ≡ true) × (length (text_of longest_equal_plan) ≡ 54125)
unfolding text_of decimal
longest_equal_length = (refl, refl, refl)
