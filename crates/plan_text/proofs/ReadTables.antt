-- The list of entries after reading begins with the rack that was read; the tables hold the plan, and hold it well formed.
use mathlib.Core.Path.{◌≡◌, refl, ap, ◌∙◌}
use mathlib.Core.Bool.{true}
use mathlib.Core.List.{List, [], ◌∷◌, ◌++◌, map, append_assoc}
use Prim.Native.Nat.{ℕ, zero, suc, ◌-◌, ◌≤◌}
use borrow.Author.Tests.{le-leb}
use lib.Dec.{leb}
use lib.ListN.{length, take, drop, replicate, length-map}
use lib.Seq.{take_at}
use Rattle.placement.specs.Items.{Item}
use Rattle.placement.specs.Copies.{halves_of}
use Rattle.placement.specs.Rack.{Disk, most_demand}
use Rattle.placement.specs.Tables.{Tables, tables, entry_of, padded, places}
use Rattle.placement.specs.Plan.{Plan, well_formed}
use Rattle.placement.specs.Held.{front, plan_held}
use Rattle.placement.proofs.Conjunctions.{and_holds}
use Rattle.placement.proofs.Formed.{left_entries, plan_left}
use Rattle.placement.proofs.Written.{padded_zeros}
use Rattle.placement.proofs.ReadBack.{Storable, written_back, places_behind, plan_fits, plan_read_back}
use Rattle.plan_text.specs.Held.{all_zero, unused_places, unused_zero, unused_zero_from, held_well_formed}
use Rattle.plan_text.specs.ReadCall.{holding_rack, holding_plan}

-- A list of zeros passes the test of zeros.
zeros_zero : (n : ℕ) → all_zero (replicate n 0) ≡ true
zeros_zero zero = refl
zeros_zero (suc n) = zeros_zero n

-- The places of a disk behind the items that fit are zero.
disk_unused :
    (d : Disk) (xs : List Item) (rest : List ℕ) → length xs ≤ d.slots
    → unused_zero d.slots (length xs) (padded d.slots (map entry_of xs) ++ rest) ≡ true
disk_unused d xs rest fits =
    and_holds (leb (length xs) d.slots) (all_zero (unused_places d.slots (length xs) (padded d.slots (map entry_of xs) ++ rest)))
    (le-leb (length xs) d.slots fits)
    (ap all_zero (padded_zeros d.slots (map entry_of xs) rest (length xs) (length-map xs entry_of)) ∙ zeros_zero (d.slots - length xs))

-- So are the unused places of all disks.
unused_zero_lem :
    (rack : List Disk) (layout : List (List Item)) (copies counts : List ℕ) → Storable rack layout
    → unused_zero_from rack (places rack layout ++ copies) (map length layout ++ counts) ≡ true
unused_zero_lem [] [] copies counts fits = refl
unused_zero_lem [] (xs ∷ layout) copies counts fits = absurd fits
unused_zero_lem (d ∷ ds) [] copies counts fits = absurd fits
unused_zero_lem (d ∷ ds) (xs ∷ layout) copies counts fits =
    let rest = places ds layout ++ copies in
    ap (λ (l : List ℕ). unused_zero_from (d ∷ ds) l (map length (xs ∷ layout) ++ counts))
    (append_assoc (padded d.slots (map entry_of xs)) (places ds layout) copies)
    ∙ and_holds (unused_zero d.slots (length xs) (padded d.slots (map entry_of xs) ++ rest)) _ (disk_unused d xs rest fits.0)
    (ap (λ (l : List ℕ). unused_zero_from ds l (map length layout ++ counts)) (places_behind d xs rest fits.0)
    ∙ unused_zero_lem ds layout copies counts fits.2)

module _ (p : Plan) (e : well_formed p ≡ true) (copies counts left : List ℕ) (back : front (length p.left) left ≡ p.left) where
  -- The halves of the entries of its copies.
  abbrev halves : List (List Item)
  halves = map (map halves_of) p.copies

  -- Tables whose first places hold a plan.
  abbrev held_in : Tables
  held_in = tables (places p.rack halves ++ copies) (map length halves ++ counts) left

  -- The plan that they hold is that plan.
  pub plan_held_lem : plan_held p.rack held_in (length p.left) ≡ p
  plan_held_lem = plan_read_back p e copies counts left back

  -- They hold it well formed, unused places included.
  pub plan_unused : held_well_formed p.rack held_in (length p.left) ≡ true
  plan_unused =
      and_holds (unused_zero_from p.rack (places p.rack halves ++ copies) (map length halves ++ counts)) _
      (unused_zero_lem p.rack halves copies counts (plan_fits p e)) (ap well_formed plan_held_lem ∙ e)

-- The first entries of the list after reading are the rack.
pub holding_rack_lem : (p : Plan) (lent : List Disk) → take (length p.rack) (holding_rack p lent) ≡ p.rack
holding_rack_lem p lent = take_at p.rack (drop (length p.rack) lent) (length p.rack) refl

module _ (p : Plan) (t : Tables) (e : well_formed p ≡ true) where
  -- The left films are read back.
  left_back : front (length p.left) (holding_plan p t).left ≡ p.left
  left_back = written_back most_demand p.left (left_entries p.left (plan_left p e)) t.left

  -- So the tables after reading hold the plan, and hold it well formed.
  pub holding_held : plan_held p.rack (holding_plan p t) (length p.left) ≡ p
  holding_held = plan_held_lem p e _ _ (holding_plan p t).left left_back

  pub holding_well_formed : held_well_formed p.rack (holding_plan p t) (length p.left) ≡ true
  holding_well_formed = plan_unused p e _ _ (holding_plan p t).left left_back
