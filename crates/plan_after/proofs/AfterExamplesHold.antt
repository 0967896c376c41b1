-- The rows of planning after an earlier plan, proved by computation on the definitions.
use mathlib.Core.Path.{◌≡◌, refl}
use mathlib.Core.List.{List, [], ◌∷◌, map}
use Rattle.placement.specs.Copies.{Copy, copy}
use Rattle.placement.specs.Rack.{rack_of}
use Rattle.placement.specs.Tables.{tables, copy_entry}
use Rattle.plan_text.specs.Decimal.{decimal}
use Rattle.plan_text.specs.Reading.{plan_read}
use Rattle.plan_after.specs.After.{planning_after, tables_after_earlier, without_marks}
use Rattle.plan_after.specs.AfterPromise.{on_disk, copy_at}
use Rattle.plan_after.specs.AfterExamples.{after_rows, outcome_after, expected_after}

-- Every row's outcome, the answer and all lent tables, is the one expected.
pub after_hold : map outcome_after after_rows ≡ map expected_after after_rows
unfolding planning_after tables_after_earlier plan_read decimal
after_hold = refl

-- Tables without their marks: the places of the rack alone are cleared.
pub without_hold :
    without_marks (rack_of 1 2 5) (tables (copy_entry (copy 7 1 4) ∷ copy_entry (copy 8 0 1) ∷ copy_entry (copy 9 1 1) ∷ []) (2 ∷ []) (65545 ∷ []))
    ≡ tables (copy_entry (copy 7 0 4) ∷ copy_entry (copy 8 0 1) ∷ copy_entry (copy 9 1 1) ∷ []) (2 ∷ []) (65545 ∷ [])
without_hold = refl

-- The copy at a place of a disk, both counted from 0, and the copies of a disk; there is no third disk.
abbrev two_disks : List (List Copy)
two_disks = (copy 7 0 1 ∷ copy 9 1 2 ∷ []) ∷ (copy 7 1 0 ∷ []) ∷ []

pub places_hold : (copy_at two_disks 0 1 ≡ copy 9 1 2) × (copy_at two_disks 1 0 ≡ copy 7 1 0) × (on_disk two_disks 2 ≡ [])
places_hold = (refl, refl, refl)
