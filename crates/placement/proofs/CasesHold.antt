-- The rows of the case table, proved by computation on the definitions.
use mathlib.Core.Path.{◌≡◌, refl}
use mathlib.Core.List.{[], ◌∷◌, map}
use Rattle.placement.specs.Items.{◌∶◌}
use Rattle.placement.specs.Copies.{copy, layout_of, marked}
use Rattle.placement.specs.Rack.{disk, least_slots}
use Rattle.placement.specs.Packed.{packed_disk, disks_in}
use Rattle.placement.specs.Tables.{entry_of, copy_entry, copies_in}
use Rattle.placement.specs.Planning.{planning, tables_after}
use Rattle.placement.specs.Cases.{rows, outcome, expected_of}

-- Every row's outcome, the answer and all lent tables, is the one expected.
pub cases_hold : map outcome rows ≡ map expected_of rows
unfolding planning tables_after
cases_hold = refl

-- An entry in numbers: film 11 with 3 viewers is 3 × 2³² + 11.
pub entry_holds : entry_of (11 ∶ 3) ≡ 12884901899
entry_holds = refl

-- A marked copy in numbers: film 8 with mark 1 and 3 viewers is 3 × 2³² + 2¹⁶ + 8, and back.
pub copy_holds : copy_entry (copy 8 1 3) ≡ 12884967432
copy_holds = refl

pub copies_hold : copies_in (12884967432 ∷ 12884901899 ∷ 131079 ∷ []) ≡ copy 8 1 3 ∷ copy 11 0 3 ∷ copy 7 2 0 ∷ []
copies_hold = refl

-- Without their marks, copies are films and viewers.
pub layout_holds : layout_of ((copy 8 1 3 ∷ copy 7 0 0 ∷ []) ∷ [] ∷ []) ≡ (8 ∶ 3 ∷ 7 ∶ 0 ∷ []) ∷ [] ∷ []
layout_holds = refl

-- Marks by what each disk held, whatever its viewers; the third disk held nothing.
pub marked_holds :
    marked ((8 ∶ 1 ∷ 9 ∶ 0 ∷ []) ∷ (7 ∶ 5 ∷ []) ∷ []) ((7 ∶ 1 ∷ 9 ∶ 2 ∷ []) ∷ (7 ∶ 0 ∷ []) ∷ (7 ∶ 4 ∷ []) ∷ [])
    ≡ (copy 7 0 1 ∷ copy 9 1 2 ∷ []) ∷ (copy 7 1 0 ∷ []) ∷ (copy 7 0 4 ∷ []) ∷ []
marked_holds = refl

-- The smallest slots of unequal disks.
pub least_holds : least_slots (disk 3 9 ∷ disk 2 6 ∷ disk 4 12 ∷ []) ≡ 2
least_holds = refl

-- A packed disk in numbers: 2 slots with load 4 are 4 × 2³² + 2, and back.
pub packed_holds : packed_disk (disk 2 4) ≡ 17179869186
packed_holds = refl

pub disks_hold : disks_in (17179869186 ∷ 25769803779 ∷ []) ≡ disk 2 4 ∷ disk 3 6 ∷ []
disks_hold = refl
