-- Disks of one ratio in filling order: their slots ascend from the smallest on, so that the method's promises hold.
use mathlib.Core.Path.{◌≡◌, refl, sym, ap, subst, ◌∙◌}
use mathlib.Core.Bool.{Bool, true, false, cond}
use mathlib.Core.List.{List, [], ◌∷◌}
use Prim.Native.Nat.{ℕ, suc, ◌*◌, ◌≤◌, min}
use native.Mathlib.Nat.{mul_right_comm, eq_of_mul-eq-mul_right}
use native.Mathlib.Omega.{arith}
use borrow.Author.Tests.{leb-true, leb-false}
use lib.Dec.{leb}
use Rattle.placement.specs.Rack.{Disk, first_slots, first_load, least_from, least_slots, rack_accepted}
use Rattle.placement.specs.FillingOrder.{insert_at, filling_place, filling}
use Rattle.placement.specs.Promise.{UniformFrom, Uniform}
use Rattle.placement.specs.WellFormed.{Each}
use Rattle.placement.proofs.Tests.{by_order}
use Rattle.placement.proofs.Each.{each_map, each_both}
use Rattle.placement.proofs.Racks.{accepted_slots, accepted_load}
use Rattle.placement.proofs.DiskRanges.{DiskInRange, accepted_range, OfRatio, accepted_ratio}

-- A disk with at least so many slots, of the ratio l to k.
abbrev From : ℕ → ℕ → ℕ → Disk → Type 0
From k l least d = (least ≤ d.slots) × OfRatio k l d

-- Such disks ascend in filling order.
uniform_insert :
    (k l least : ℕ) (d : Disk) (ds : List Disk) → From k l least d → UniformFrom k l least ds
    → UniformFrom k l least (insert_at (filling_place d ds) d ds)
uniform_insert k l least d [] here uniform = (here.0, here.1, tt)
uniform_insert k l least d (e ∷ es) here uniform = go (leb d.slots e.slots) refl (uniform_insert k l e.slots d es)
  where
    go : (b : Bool) → leb d.slots e.slots ≡ b
        → (From k l e.slots d → UniformFrom k l e.slots es → UniformFrom k l e.slots (insert_at (filling_place d es) d es))
        → UniformFrom k l least (insert_at (cond b 0 (suc (filling_place d es))) d (e ∷ es))
    go true test later = (here.0, here.1, (leb-true d.slots e.slots test, uniform.1, uniform.2))
    go false test later =
        let below : e.slots ≤ d.slots = omega (arith, leb-false d.slots e.slots test) in
        (uniform.0, uniform.1, later (below, here.1) uniform.2)

pub filling_uniform : (k l least : ℕ) (rack : List Disk) → Each (From k l least) rack → UniformFrom k l least (filling rack)
filling_uniform k l least [] all = tt
filling_uniform k l least (d ∷ ds) all = uniform_insert k l least d (filling ds) all.0 (filling_uniform k l least ds all.1)

-- The smallest of a number and the slots of disks is at most the number, and at most each disk's slots.
least_most : (k : ℕ) (ds : List Disk) → least_from k ds ≤ k
least_most k [] = omega arith
least_most k (d ∷ ds) = omega (arith, least_most (min k d.slots) ds)

least_each : (k : ℕ) (ds : List Disk) → Each (λ d. least_from k ds ≤ d.slots) ds
least_each k [] = tt
least_each k (d ∷ ds) = (omega (arith, least_most (min k d.slots) ds), least_each (min k d.slots) ds)

-- A load for these slots, of the ratio of the given ones.
pub record LoadFor (k₁ l₁ k : ℕ) : Type 0 where
  pub load : ℕ
  pub some_slots : 1 ≤ k
  pub some_load : 1 ≤ load
  pub ratio : load * k₁ ≡ l₁ * k

-- The smallest slots of disks have one.
least_load :
    (k₁ l₁ k : ℕ) (ds : List Disk) → LoadFor k₁ l₁ k → Each (λ d. DiskInRange d × OfRatio k₁ l₁ d) ds → LoadFor k₁ l₁ (least_from k ds)
least_load k₁ l₁ k [] here all = here
least_load k₁ l₁ k (d ∷ ds) here all =
    least_load k₁ l₁ (min k d.slots) ds (by_order d.slots k (λ h. subst (LoadFor k₁ l₁) (smaller h) mine) (λ h. subst (LoadFor k₁ l₁) (same h) here))
    all.1
  where
    mine : LoadFor k₁ l₁ d.slots
    mine = record { load = d.load; some_slots = all.0.0.some_slots; some_load = all.0.0.some_load; ratio = all.0.1 }

    smaller : suc d.slots ≤ k → d.slots ≡ min k d.slots
    smaller h = omega arith

    same : k ≤ d.slots → k ≡ min k d.slots
    same h = omega arith

-- Two disks of the ratio of a third are of one ratio.
ratio_between : (k₁ l₁ k l : ℕ) (d : Disk) → 1 ≤ k₁ → l * k₁ ≡ l₁ * k → OfRatio k₁ l₁ d → OfRatio k l d
ratio_between k₁ l₁ k l d some e f =
    eq_of_mul-eq-mul_right k₁ some (d.load * k) (l * d.slots)
    (mul_right_comm d.load k k₁
    ∙ ap (λ (n : ℕ). n * k) f
    ∙ mul_right_comm l₁ d.slots k
    ∙ sym (ap (λ (n : ℕ). n * d.slots) e)
    ∙ mul_right_comm l k₁ d.slots)

-- An accepted rack in filling order is of one ratio by ascending slots, from its smallest slots on.
module _ (rack : List Disk) (e : rack_accepted rack ≡ true) where
  -- The load that goes with the smallest slots.
  pub smallest : LoadFor (first_slots rack) (first_load rack) (least_slots rack)
  smallest =
      least_load (first_slots rack) (first_load rack) (first_slots rack) rack
      (record { load = first_load rack; some_slots = (accepted_slots rack e).0; some_load = (accepted_load rack e).0; ratio = refl })
      (each_both DiskInRange (OfRatio (first_slots rack) (first_load rack)) rack (accepted_range rack e) (accepted_ratio rack e))

  pub accepted_uniform : Uniform (least_slots rack) smallest.load (filling rack)
  accepted_uniform = record {
    some_slots = smallest.some_slots;
    some_load = smallest.some_load;
    ratio =
        filling_uniform (least_slots rack) smallest.load (least_slots rack) rack
        (each_both (λ d. least_slots rack ≤ d.slots) (OfRatio (least_slots rack) smallest.load) rack (least_each (first_slots rack) rack)
        (each_map (OfRatio (first_slots rack) (first_load rack)) (OfRatio (least_slots rack) smallest.load) rack
        (λ d. ratio_between (first_slots rack) (first_load rack) (least_slots rack) smallest.load d (accepted_slots rack e).0 smallest.ratio)
        (accepted_ratio rack e)));
  }
