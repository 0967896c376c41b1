-- The new copies that the old ones lack: in parts, how many there are, and what each of them keeps.
use mathlib.Core.Path.{◌≡◌, refl}
use mathlib.Core.Bool.{Bool, true, false, cond, not}
use mathlib.Core.List.{List, [], ◌∷◌, ◌++◌}
use Prim.Native.Nat.{ℕ, ◌+◌, ◌≤◌}
use native.Mathlib.Omega.{arith}
use lib.ListN.{length}
use Rattle.placement.specs.WellFormed.{Each}
use Rattle.transfer_schedule.specs.Stored.{StoredCopy, is_stored}
use Rattle.transfer_schedule.specs.Schedule.{lacking}
use Rattle.transfer_schedule.specs.Counts.{count_by}
use Rattle.transfer_schedule.proofs.TableSum.{count_few}

module _ (old : List StoredCopy) where
  -- Those of two lists, one behind the other, stand so too.
  pub lacking_append : (xs ys : List StoredCopy) → lacking old (xs ++ ys) ≡ lacking old xs ++ lacking old ys
  lacking_append [] ys = refl
  lacking_append (x ∷ xs) ys = go (is_stored x old) (lacking_append xs ys)
    where
      go : (b : Bool) → lacking old (xs ++ ys) ≡ lacking old xs ++ lacking old ys
          → cond b (lacking old (xs ++ ys)) (x ∷ lacking old (xs ++ ys)) ≡ cond b (lacking old xs) (x ∷ lacking old xs) ++ lacking old ys
      go true later = later
      go false later = rw later

  -- They are as many as are not stored,
  pub lacking_number : (new : List StoredCopy) → length (lacking old new) ≡ count_by (λ c. not (is_stored c old)) new
  lacking_number [] = refl
  lacking_number (c ∷ cs) = go (is_stored c old) (lacking_number cs)
    where
      lacked : ℕ
      lacked = count_by (λ (x : StoredCopy). not (is_stored x old)) cs

      go : (b : Bool) → length (lacking old cs) ≡ lacked → length (cond b (lacking old cs) (c ∷ lacking old cs)) ≡ cond (not b) 1 0 + lacked
      go true later = omega arith
      go false later = omega arith

  -- so at most as many as all,
  pub lacking_few : (new : List StoredCopy) → length (lacking old new) ≤ length new
  lacking_few new = omega (arith, lacking_number new, count_few (λ (c : StoredCopy). not (is_stored c old)) new)

  -- and what holds of all holds of each of them.
  pub lacking_each : (P : StoredCopy → Type 0) (new : List StoredCopy) → Each P new → Each P (lacking old new)
  lacking_each P [] all = tt
  lacking_each P (c ∷ cs) all = go (is_stored c old) (lacking_each P cs all.1)
    where
      go : (b : Bool) → Each P (lacking old cs) → Each P (cond b (lacking old cs) (c ∷ lacking old cs))
      go true later = later
      go false later = (all.0, later)
