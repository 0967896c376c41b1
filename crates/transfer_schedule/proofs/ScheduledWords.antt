-- The words of a schedule, on four old copies and four new ones: the schedule that keeps them, and what its fields refuse.
use mathlib.Core.Path.{◌≡◌, refl, sym, ap, ◌∙◌}
use mathlib.Core.Bool.{true, false}
use mathlib.Core.List.{List, [], ◌∷◌}
use mathlib.Core.Logic.{◌⊎◌, inl, inr}
use Prim.Native.Nat.{ℕ, zero, suc, ◌<◌}
use native.Mathlib.Omega.{arith}
use lib.ListN.{length, get_or, take}
use Rattle.placement.specs.Items.{◌∶◌}
use Rattle.placement.specs.Copies.{copy}
use Rattle.placement.specs.Rack.{rack_of}
use Rattle.placement.specs.Plan.{Plan}
use Rattle.placement.proofs.Conjunctions.{false_true}
use Rattle.transfer_schedule.specs.Stored.{StoredCopy, stored_copy, stored_copies, is_stored}
use Rattle.transfer_schedule.specs.Schedule.{Transfer, transfer}
use Rattle.transfer_schedule.specs.Fits.{CopyFits}
use Rattle.transfer_schedule.specs.Words.{has_film, StoredAsPlanned, FromLoader, FromLowest, InEarliest, transfer_at, Scheduled}
use Rattle.transfer_schedule.proofs.Alone.{alone}
use Rattle.transfer_schedule.proofs.Scheduled.{schedule_words}

-- Film 8 is on disks 1 and 2, film 7 on disks 2 and 3. In the new plan film 7 is on disk 1 and stays on disk 2, and disk 3 has films 8 and 9.
abbrev old : List StoredCopy
old = stored_copy 1 8 ∷ stored_copy 2 7 ∷ stored_copy 2 8 ∷ stored_copy 3 7 ∷ []

abbrev new : List StoredCopy
new = stored_copy 1 7 ∷ stored_copy 2 7 ∷ stored_copy 3 8 ∷ stored_copy 3 9 ∷ []

abbrev Words : List Transfer → Type 0
Words ts = Scheduled old new ts

-- Film 8 waits for disk 1 until round 2; film 9 finds disk 3 and the loader free in round 1.
pub words_met : Words (transfer 2 1 7 1 ∷ transfer 1 3 8 2 ∷ transfer 0 3 9 1 ∷ [])
words_met =
    schedule_words old new (omega arith, (omega arith, (omega arith, (omega arith, tt)))) (on_1 8 (omega arith), (on_2 7 (omega arith), (on_2 8 (omega arith), (on_3 7 (omega arith), tt))))
    (on_1 7 (omega arith), (on_2 7 (omega arith), (on_3 8 (omega arith), (on_3 9 (omega arith), tt)))) (omega arith)
  where
    on_1 : (film : ℕ) → film < 65536 → CopyFits (stored_copy 1 film)
    on_1 film small = record { disk = omega arith; film = small }

    on_2 : (film : ℕ) → film < 65536 → CopyFits (stored_copy 2 film)
    on_2 film small = record { disk = omega arith; film = small }

    on_3 : (film : ℕ) → film < 65536 → CopyFits (stored_copy 3 film)
    on_3 film small = record { disk = omega arith; film = small }

-- A copy left out is refused, by the copies and by their number, ...
pub copy_missing : Words (transfer 2 1 7 1 ∷ transfer 1 3 8 2 ∷ []) → ⊥
copy_missing words = omega (arith, ap length words.copies)

pub number_wrong : Words (transfer 2 1 7 1 ∷ transfer 1 3 8 2 ∷ []) → ⊥
number_wrong words = omega (arith, words.number)

-- ... a copy that is on its disk, ...
pub stays_copied : Words (transfer 2 1 7 1 ∷ transfer 3 2 7 2 ∷ transfer 1 3 8 3 ∷ transfer 0 3 9 1 ∷ []) → ⊥
stays_copied words = omega (arith, ap length words.copies)

-- ... copies in another order, ...
pub order_wrong : Words (transfer 1 3 8 1 ∷ transfer 2 1 7 2 ∷ transfer 0 3 9 2 ∷ []) → ⊥
order_wrong words =
    let z : ◌≡◌ {A = ℕ} 3 1 = ap (λ (cs : List StoredCopy). (get_or cs 0 (stored_copy 0 0)).disk) words.copies in
    omega arith

-- ... a source that is not the lowest disk, ...
pub higher_source : Words (transfer 3 1 7 1 ∷ transfer 1 3 8 2 ∷ transfer 0 3 9 1 ∷ []) → ⊥
higher_source words = refute words.sources.0
  where
    refute : FromLoader old (transfer 3 1 7 1) ⊎ FromLowest old (transfer 3 1 7 1) → ⊥
    refute (inl loader) = omega (arith, loader.loader)
    refute (inr lowest) = omega (arith, lowest.lowest 2 refl)

-- ... one that does not hold the film, ...
pub source_without : Words (transfer 1 1 7 1 ∷ transfer 1 3 8 2 ∷ transfer 0 3 9 1 ∷ []) → ⊥
source_without words = refute words.sources.0
  where
    refute : FromLoader old (transfer 1 1 7 1) ⊎ FromLowest old (transfer 1 1 7 1) → ⊥
    refute (inl loader) = omega (arith, loader.loader)
    refute (inr lowest) = false_true lowest.holds

-- ... the loader for a film that a disk holds, ...
pub loader_for_held : Words (transfer 0 1 7 1 ∷ transfer 1 3 8 2 ∷ transfer 0 3 9 3 ∷ []) → ⊥
loader_for_held words = refute words.sources.0
  where
    refute : FromLoader old (transfer 0 1 7 1) ⊎ FromLowest old (transfer 0 1 7 1) → ⊥
    refute (inl loader) = loader.nowhere 2 refl
    refute (inr lowest) = omega (arith, lowest.a_disk)

-- ... a disk for a film that none holds, ...
pub disk_for_new : Words (transfer 2 1 7 1 ∷ transfer 1 3 8 2 ∷ transfer 2 3 9 3 ∷ []) → ⊥
disk_for_new words = refute words.sources.1.1.0
  where
    refute : FromLoader old (transfer 2 3 9 3) ⊎ FromLowest old (transfer 2 3 9 3) → ⊥
    refute (inl loader) = omega (arith, loader.loader)
    refute (inr lowest) = false_true lowest.holds

-- ... round 0, ...
pub round_zero : Words (transfer 2 1 7 0 ∷ transfer 1 3 8 1 ∷ transfer 0 3 9 0 ∷ []) → ⊥
round_zero words = omega (arith, (words.rounds 0 (omega arith)).from)

-- ... a round in which one end is busy, which two transfers of that end share, ...
abbrev sharing : List Transfer
sharing = transfer 2 1 7 1 ∷ transfer 1 3 8 1 ∷ transfer 0 3 9 2 ∷ []

pub round_busy : Words sharing → ⊥
round_busy words = false_true (words.rounds 1 (omega arith)).free

pub round_shared : Words sharing → ⊥
round_shared words = omega (arith, words.alone 1 1)

-- ... the round after the earliest, and more than 2d − 1 rounds, where no end has more than two transfers.
pub round_late : Words (transfer 2 1 7 1 ∷ transfer 1 3 8 3 ∷ transfer 0 3 9 1 ∷ []) → ⊥
round_late words = false_true (sym ((words.rounds 1 (omega arith)).earliest 2 (omega arith) (omega arith)))

pub rounds_many : Words (transfer 2 1 7 1 ∷ transfer 1 3 8 2 ∷ transfer 0 3 9 4 ∷ []) → ⊥
rounds_many words = omega (arith, words.few (omega arith))

-- One transfer takes 2d − 1 rounds, so that no smaller number is always kept.
pub bound_reached : Scheduled [] (stored_copy 1 7 ∷ []) (transfer 0 1 7 1 ∷ [])
bound_reached =
    record {
      copies = refl;
      number = refl;
      sources = (inl (record { loader = refl; nowhere = λ disk holds. false_true holds }), tt);
      rounds = first;
      within = (omega arith, tt);
      alone = alone [] (stored_copy 1 7 ∷ []);
      few = λ some. omega arith;
      summed = refl;
    }
  where
    first : (i : ℕ) → i < 1 → InEarliest (take i (transfer 0 1 7 1 ∷ [])) (transfer_at (transfer 0 1 7 1 ∷ []) i)
    first zero h = record { from = omega arith; free = refl; earliest = λ round some less. absurd (omega arith) }
    first (suc i) h = absurd (omega arith)

-- A transfer that the table has no row for is not in its sum.
pub sum_short : Words (transfer 9 1 7 1 ∷ transfer 1 3 8 2 ∷ transfer 0 3 9 1 ∷ []) → ⊥
sum_short words = omega (arith, words.summed)

-- A plan has a film on a disk, without viewers and with a mark too, and not one that it leaves.
abbrev plan : Plan
plan = record { rack = rack_of 2 2 5; copies = (copy 7 0 0 ∷ copy 8 1 2 ∷ []) ∷ (copy 6 0 3 ∷ []) ∷ []; left = 9 ∶ 1 ∷ [] }

pub film_hold :
    (has_film plan 0 7 ≡ true) × (has_film plan 0 8 ≡ true) × (has_film plan 1 8 ≡ false) × (has_film plan 1 6 ≡ true) × (has_film plan 0 9 ≡ false)
    × (has_film plan 2 7 ≡ false)
film_hold = (refl, refl, refl, refl, refl, refl)

-- Where stored copies are as planned, a film on the first disk of a plan is stored on disk 1, and one that is not is not.
pub planned_stored : (p : Plan) → StoredAsPlanned p → has_film p 0 7 ≡ true → is_stored (stored_copy 1 7) (stored_copies p) ≡ true
planned_stored p stored e = stored 0 7 ∙ e

pub planned_not_stored : (p : Plan) → StoredAsPlanned p → has_film p 0 7 ≡ false → is_stored (stored_copy 1 7) (stored_copies p) ≡ false
planned_not_stored p stored e = stored 0 7 ∙ e

-- The stored copies of this plan are these.
pub copies_hold : stored_copies plan ≡ stored_copy 1 7 ∷ stored_copy 1 8 ∷ stored_copy 2 6 ∷ []
copies_hold = refl
