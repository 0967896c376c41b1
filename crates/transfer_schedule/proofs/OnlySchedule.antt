-- Document 02's words determine the schedule: a list of transfers that keeps them is the definition's.
use mathlib.Core.Path.{◌≡◌, refl, sym, ap, ap₂, ◌∙◌}
use mathlib.Core.List.{List, [], ◌∷◌, ◌++◌, map}
use mathlib.Core.Logic.{◌⊎◌}
use Prim.Native.Nat.{ℕ, zero, suc, ◌≤◌, ◌<◌}
use native.Mathlib.Omega.{arith}
use lib.ListN.{length, take}
use lib.Seq.{take-length, take-suc}
use Rattle.placement.specs.WellFormed.{Each}
use Rattle.placement.proofs.Conjunctions.{false_true}
use Rattle.placement.proofs.Each.{each_at}
use Rattle.placement.proofs.Tests.{by_order}
use Rattle.transfer_schedule.specs.Stored.{StoredCopy}
use Rattle.transfer_schedule.specs.Schedule.{Transfer, transfer, earliest, transfer_for, placed_with, place_all, schedule}
use Rattle.transfer_schedule.specs.Words.{copy_made, FromLoader, FromLowest, InEarliest, transfer_at, Scheduled}
use Rattle.transfer_schedule.proofs.Mapped.{map_last}
use Rattle.transfer_schedule.proofs.Placing.{place_append}
use Rattle.transfer_schedule.proofs.Sources.{DisksAscend, source_only}
use Rattle.transfer_schedule.proofs.Earliest.{earliest_from_lem, earliest_free, earliest_least}

-- The earliest round by its words is the definition's: of two such rounds neither is before the other.
earliest_only : (placed : List Transfer) (t : Transfer) → InEarliest placed t → t.round ≡ earliest placed t.source t.destination
earliest_only placed t e =
    by_order t.round round
    (λ sooner. false_true (sym (earliest_least placed t.source t.destination t.round e.from sooner) ∙ e.free))
    (λ later.
    by_order round t.round
    (λ sooner.
    false_true (sym (e.earliest round (earliest_from_lem placed t.source t.destination) sooner) ∙ earliest_free placed t.source t.destination))
    (λ same. omega arith))
  where
    round : ℕ
    round = earliest placed t.source t.destination

module _ (old : List StoredCopy) (above : DisksAscend 1 old) where
  -- So a transfer with both words is that of its copy,
  transfer_only :
      (placed : List Transfer) (t : Transfer) → FromLoader old t ⊎ FromLowest old t → InEarliest placed t → t ≡ transfer_for old placed (copy_made t)
  transfer_only placed t from e =
      let source = source_only old above t from in
      ap₂ (λ (s r : ℕ). transfer s t.destination t.film r) source
      (earliest_only placed t e ∙ ap (λ (s : ℕ). earliest placed s t.destination) source)

  -- and a list in which each has them is placed one after the other.
  placed_only :
      (ts : List Transfer) → Each (λ t. FromLoader old t ⊎ FromLowest old t) ts → ((i : ℕ) → i < length ts → InEarliest (take i ts) (transfer_at ts i))
      → (i : ℕ) → i ≤ length ts → take i ts ≡ place_all old [] (map copy_made (take i ts))
  placed_only ts sources rounds zero within = refl
  placed_only ts sources rounds (suc i) within =
      more
      ∙ ap (λ (u : Transfer). take i ts ++ (u ∷ []))
      (transfer_only (take i ts) t (each_at (λ u. FromLoader old u ⊎ FromLowest old u) i ts none sources (omega arith)) (rounds i (omega arith)))
      ∙ ap (placed_with old (copy_made t)) (placed_only ts sources rounds i (omega arith))
      ∙ sym (place_append old [] (map copy_made (take i ts)) (copy_made t ∷ []))
      ∙ ap (place_all old []) (sym (ap (map copy_made) more ∙ map_last copy_made (take i ts) t))
    where
      none : Transfer
      none = transfer 0 0 0 0

      t : Transfer
      t = transfer_at ts i

      more : take (suc i) ts ≡ take i ts ++ (t ∷ [])
      more = take-suc ts i none (omega arith)

  -- There is no other schedule.
  pub schedule_only : (new : List StoredCopy) (ts : List Transfer) → Scheduled old new ts → ts ≡ schedule old new
  schedule_only new ts s =
      sym (take-length ts)
      ∙ placed_only ts s.sources s.rounds (length ts) (omega arith)
      ∙ ap (place_all old []) (ap (map copy_made) (take-length ts) ∙ s.copies)
