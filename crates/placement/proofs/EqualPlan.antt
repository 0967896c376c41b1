-- A rack of equal disks is filled in the order of numbers, so that it has the plan that document 01 gives it.
use mathlib.Core.Path.{◌≡◌, refl, sym, ap, ap₂, ◌∙◌}
use mathlib.Core.List.{List, [], ◌∷◌, ◌++◌}
use Prim.Native.Nat.{ℕ, zero, suc}
use native.Mathlib.Omega.{arith}
use borrow.Author.Tests.{le-leb}
use lib.ListN.{length}
use Rattle.placement.specs.Items.{Item, list_of, by_film}
use Rattle.placement.specs.Copies.{marked}
use Rattle.placement.specs.Rack.{Disk, disk, rack_of}
use Rattle.placement.specs.Records.{records_of}
use Rattle.placement.specs.Method.{placement, remaining, served, unserved}
use Rattle.placement.specs.FillingOrder.{insert_at, filling_place, filling, by_number, placed}
use Rattle.placement.specs.Shelf.{shelf_films, shelved, unshelved}
use Rattle.placement.specs.Tables.{Tables}
use Rattle.placement.specs.Plan.{Plan, served_of}
use Rattle.placement.specs.Planning.{Call, call, sums, sums_in, layout_in, plan_in, holding_for, holding_call}
use Rattle.placement.specs.EqualPlan.{equal_plan}
use Rattle.placement.proofs.MarkedCopies.{marked_layout}
use Rattle.placement.proofs.Racks.{rack_length}
use Rattle.placement.proofs.NumberOrder.{placement_length}

module _ (k l : ℕ) where
  -- A disk stands in front of equal ones,
  first_place : (n : ℕ) → filling_place (disk k l) (rack_of n k l) ≡ 0
  first_place zero = refl
  first_place (suc n) = rw (le-leb k k (omega arith))

  -- so that equal disks are in filling order as they are.
  pub equal_filling : (n : ℕ) → filling (rack_of n k l) ≡ rack_of n k l
  equal_filling zero = refl
  equal_filling (suc n) =
      ap (λ (ds : List Disk). insert_at (filling_place (disk k l) ds) (disk k l) ds) (equal_filling n)
      ∙ ap (λ (place : ℕ). insert_at place (disk k l) (rack_of n k l)) (first_place n)

  -- What belongs to them is by number as it is in filling order.
  equal_by_number : {A : Type 0} (none : A) (n : ℕ) (ordered : List A) → length ordered ≡ n → by_number none (rack_of n k l) ordered ≡ ordered
  equal_by_number none zero [] same = refl
  equal_by_number none zero (x ∷ xs) same = absurd (omega (arith, same))
  equal_by_number none (suc n) [] same = absurd (omega (arith, same))
  equal_by_number none (suc n) (x ∷ xs) same =
      rw (ap (filling_place (disk k l)) (equal_filling n) ∙ first_place n) (ap (λ (r : List _). x ∷ r) (equal_by_number none n xs (omega (arith, same))))

  -- The method's copies are those of the disks in order 1 to N.
  pub equal_placed : (n : ℕ) (list : List Item) → placed (rack_of n k l) list ≡ placement (rack_of n k l) list
  equal_placed n list =
      ap (λ (ds : List Disk). by_number [] (rack_of n k l) (placement ds list)) (equal_filling n)
      ∙ equal_by_number [] n (placement (rack_of n k l) list) (placement_length (rack_of n k l) list ∙ rack_length n k l)

  -- So is the plan of every list.
  pub equal_plan_lem : (n : ℕ) (bytes : List ℕ) → plan_in (call (rack_of n k l) bytes) ≡ equal_plan n k l bytes
  equal_plan_lem n bytes =
      ap₂ (λ (layout : List (List Item)) (ds : List Disk). plan_with layout (remaining ds (list_of (records_of bytes))))
      (equal_placed n (list_of (records_of bytes))) (equal_filling n)
    where
      plan_with : List (List Item) → List Item → Plan
      plan_with layout rest = record {
        rack = rack_of n k l;
        copies = marked [] (shelved (rack_of n k l) (shelf_films (records_of bytes)) layout);
        left = by_film (unshelved (rack_of n k l) (shelf_films (records_of bytes)) layout ++ rest);
      }

  -- And so is U.
  pub equal_unserved : (n : ℕ) (list : List Item) → unserved (filling (rack_of n k l)) list ≡ unserved (rack_of n k l) list
  equal_unserved n list = ap (λ (ds : List Disk). unserved ds list) (equal_filling n)

  -- So are the numbers of a plan, and the tables that hold it.
  pub equal_sums :
      (n : ℕ) (bytes : List ℕ)
      → sums_in (call (rack_of n k l) bytes)
      ≡ sums (served_of (equal_plan n k l bytes)) (unserved (rack_of n k l) (list_of (records_of bytes))) (length (equal_plan n k l bytes).left)
  equal_sums n bytes =
      ap (λ (layout : List (List Item)). sums (served layout) (sums_in c).unserved (sums_in c).left) (sym (marked_layout [] (layout_in c)))
      ∙ ap₂ (λ (p : Plan) (u : ℕ). sums (served_of p) u (length p.left)) (equal_plan_lem n bytes) (equal_unserved n (list_of (records_of bytes)))
    where
      c : Call
      c = call (rack_of n k l) bytes

  pub equal_tables :
      (n : ℕ) (bytes : List ℕ) (t : Tables)
      → holding_call (call (rack_of n k l) bytes) t ≡ holding_for (call (rack_of n k l) bytes) (equal_plan n k l bytes) t
  equal_tables n bytes t = ap (λ (p : Plan). holding_for (call (rack_of n k l) bytes) p t) (equal_plan_lem n bytes)
