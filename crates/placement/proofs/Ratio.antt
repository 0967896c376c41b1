-- Disks of one ratio of load to slots: what an amount below or above the ratio comes to on each of them.
use mathlib.Core.Path.{◌≡◌, refl, sym, subst}
use mathlib.Core.List.{List, [], ◌∷◌}
use Prim.Native.Nat.{ℕ, zero, suc, ◌*◌, ◌≤◌, ◌<◌}
use native.Mathlib.Nat.{mul_comm, mul_assoc, mul_right_comm, mul-pos, zero-mul, mul-lt-mul_of_pos_right, lt_of_mul-lt-mul_right}
use native.Mathlib.Omega.{arith}
use Rattle.placement.specs.Items.{Item, total}
use Rattle.placement.specs.Rack.{Disk}
use Rattle.placement.specs.Method.{remaining}
use Rattle.placement.specs.Promise.{UniformFrom}
use Rattle.placement.proofs.Steps.{after_empty}

module _ (k l : ℕ) (some_slots : 1 ≤ k) (some_load : 1 ≤ l) where
  -- A disk of the ratio has a load.
  pub load_some : (slots load : ℕ) → 1 ≤ slots → load * k ≡ l * slots → 1 ≤ load
  load_some slots zero some e = absurd (omega (arith, e, zero-mul k, mul-pos {m = l} {n = slots} some_load some))
  load_some slots (suc load) some e = omega arith

  -- An amount below the ratio: as many as there are slots stay below the load.
  pub slots_below : (x slots load : ℕ) → 1 ≤ slots → load * k ≡ l * slots → x * k < l → slots * x < load
  slots_below x slots load some e h =
      lt_of_mul-lt-mul_right k
      (omega (arith, e, mul_assoc slots x k, mul_comm slots (x * k), mul-lt-mul_of_pos_right {k = slots} h some))

  -- And the other way round.
  pub ratio_below : (x slots load : ℕ) → load * k ≡ l * slots → x * slots < load → x * k < l
  ratio_below x slots load e h =
      lt_of_mul-lt-mul_right slots
      (omega (arith, e, mul_right_comm x slots k, mul-lt-mul_of_pos_right {k = k} h some_slots))

  -- Of disks of the ratio from `least` slots on: an empty list stays empty.
  pub remaining_empty : (least : ℕ) (ds : List Disk) → 1 ≤ least → UniformFrom k l least ds → total (remaining ds []) ≡ 0
  remaining_empty least [] some uniform = refl
  remaining_empty least (d ∷ ds) some uniform =
      subst (λ (r : List Item). total (remaining ds r) ≡ 0) (sym (after_empty d slots (load_some d.slots d.load slots uniform.1)))
      (remaining_empty d.slots ds slots uniform.2)
    where
      slots : 1 ≤ d.slots
      slots = omega (arith, uniform.0)
