-- The share and U = 0, for disks of one ratio and an ascending list: the last two parts of demand 3.
use mathlib.Core.Path.{◌≡◌, sym, ap, subst}
use mathlib.Core.List.{List}
use Prim.Native.Nat.{ℕ, ◌+◌, ◌-◌, ◌*◌, ◌≤◌}
use native.Mathlib.Nat.{mul-zero, zero-mul}
use native.Mathlib.Omega.{arith}
use lib.ListN.{length}
use Rattle.placement.specs.Items.{Item, total}
use Rattle.placement.specs.Rack.{Disk, all_slots, all_loads}
use Rattle.placement.specs.Method.{placement, remaining, served}
use Rattle.placement.specs.Promise.{Uniform}
use Rattle.placement.proofs.Order.{Ascending, largest, total_largest}
use Rattle.placement.proofs.Share.{Result, nothing_left, all_full, mixed, share_result}
use Rattle.placement.proofs.Square.{share_bound, square_bound}

-- Both inequalities of the share.
abbrev pub Shared : ℕ → ℕ → ℕ → Type 0
Shared k s u = (k * u ≤ s) × (4 * (k * (u * u)) ≤ (s - k * u) * (s - k * u))

-- They hold where nobody is unserved.
shared_none : (k s u : ℕ) → u ≡ 0 → Shared k s u
shared_none k s u e =
    subst (λ (n : ℕ). Shared k s n) (sym e)
    (omega (arith, mul-zero k), omega (arith, mul-zero k))

module _ (k l : ℕ) (ds : List Disk) (list : List Item) (uniform : Uniform k l ds) (asc : Ascending 1 list)
    (whole : served (placement ds list) + total (remaining ds list) ≡ total list) (loads : total list ≤ all_loads ds) where
  abbrev s : ℕ
  s = served (placement ds list)

  abbrev u : ℕ
  u = total (remaining ds list)

  result : Result k l ds list
  result = share_result k l uniform.some_slots uniform.some_load k ds list (omega arith) uniform.ratio asc

  -- The share.
  pub shared : length list ≤ all_slots ds → Shared k s u
  shared slots = go result
    where
      go : Result k l ds list → Shared k s u
      go (nothing_left none) = shared_none k s u none
      go (all_full full) = shared_none k s u (omega arith)
      go (mixed m) = (
        share_bound k l s u (largest (remaining ds list)) (length (remaining ds list)) m.full m.full_slots m.full_load
            m.other_slots m.other_load uniform.some_slots (total_largest (remaining ds list)) few m.enough m.serves fits
            m.full_ratio m.other_ratio m.low,
        square_bound k l s u (largest (remaining ds list)) (length (remaining ds list)) m.full m.full_slots m.full_load
            m.other_slots m.other_load uniform.some_slots (total_largest (remaining ds list)) few m.enough m.serves fits
            m.full_ratio m.other_ratio m.low,
      )
        where
          few : length (remaining ds list) ≤ m.full
          few = omega (arith, m.count)

          fits : s + u ≤ m.full_load + m.other_load
          fits = omega (arith, m.all_loads)

  -- Enough slots for every film and one more for each disk but one: nobody is unserved.
  pub all_served : length list + length ds ≤ all_slots ds + 1 → u ≡ 0
  all_served slots = go result
    where
      go : Result k l ds list → u ≡ 0
      go (nothing_left none) = none
      go (all_full full) = omega arith
      go (mixed m) =
          omega (
            arith,
            total_largest (remaining ds list),
            ap (λ (n : ℕ). n * largest (remaining ds list)) none,
            zero-mul (largest (remaining ds list)),
          )
        where
          none : length (remaining ds list) ≡ 0
          none = omega (arith, m.count, m.some)
