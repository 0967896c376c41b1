-- The plan of document 01's rack of N equal disks, which are filled in order 1 to N.
use Rattle.std.specs.Prelude.{ℕ, List, [], ◌++◌}
use Rattle.placement.specs.Items.{list_of, by_film}
use Rattle.placement.specs.Copies.{marked}
use Rattle.placement.specs.Rack.{rack_of}
use Rattle.placement.specs.Records.{records_of}
use Rattle.placement.specs.Method.{placement, remaining}
use Rattle.placement.specs.Shelf.{shelf_films, shelved, unshelved}
use Rattle.placement.specs.Plan.{Plan}

-- The plan for the bytes of a list.
abbrev pub equal_plan : ℕ → ℕ → ℕ → List ℕ → Plan
equal_plan disks slots load bytes =
    let rack = rack_of disks slots load in
    let films = shelf_films (records_of bytes) in
    let list = list_of (records_of bytes) in
    record {
      rack = rack;
      copies = marked [] (shelved rack films (placement rack list));
      left = by_film (unshelved rack films (placement rack list) ++ remaining rack list);
    }
