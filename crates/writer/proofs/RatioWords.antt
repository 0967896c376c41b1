-- The words of refusal 13 in the writer's promise, on three disks of which the second and the third are of other ratios.
use Rattle.std.proofs.Common.{List, [], ◌∷◌, sym, refl, arith}
use Rattle.placement.specs.Rack.{Disk, disk}
use Rattle.placement.proofs.Conjunctions.{false_true}
use Rattle.writer.specs.WritePromise.{OtherRatio}

abbrev rack : List Disk
rack = disk 2 4 ∷ disk 4 9 ∷ disk 3 7 ∷ []

-- The second disk is the first of another ratio, ...
pub second_other : OtherRatio rack 1
second_other = record { inside = omega arith; before = refl; other = refl }

-- ... the third is not the first, and the first is none.
pub third_not_first : OtherRatio rack 2 → ⊥
third_not_first o = false_true o.before

pub first_not_other : OtherRatio rack 0 → ⊥
first_not_other o = false_true (sym o.other)
