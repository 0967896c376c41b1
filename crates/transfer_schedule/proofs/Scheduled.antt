-- A schedule keeps document 02's words, and its transfers have room in their entries.
use mathlib.Core.Path.{◌≡◌, refl, sym, subst}
use mathlib.Core.List.{List, [], ◌∷◌}
use mathlib.Core.Logic.{◌⊎◌}
use Prim.Native.Nat.{ℕ, ◌+◌, ◌≤◌, ◌<◌}
use native.Mathlib.Omega.{arith}
use lib.ListN.{length, take, length-append, get_or-append}
use lib.Seq.{take_at, get_or_at, take-append-le}
use Rattle.placement.specs.WellFormed.{Each}
use Rattle.placement.proofs.Each.{each_append}
use Rattle.placement.proofs.Tests.{by_order}
use Rattle.transfer_schedule.specs.Stored.{StoredCopy}
use Rattle.transfer_schedule.specs.Schedule.{Transfer, transfer, transfer_for, placed_with, lacking, schedule, rounds_of}
use Rattle.transfer_schedule.specs.Fits.{CopyFits, TransferFits}
use Rattle.transfer_schedule.specs.Words.{FromLoader, FromLowest, InEarliest, transfer_at, Scheduled}
use Rattle.transfer_schedule.proofs.TableSum.{table_sum_lem}
use Rattle.transfer_schedule.proofs.Placing.{place_keeps, place_always, place_copies, place_length}
use Rattle.transfer_schedule.proofs.Lacking.{lacking_number, lacking_few, lacking_each}
use Rattle.transfer_schedule.proofs.Sources.{DisksAscend, source_fits, source_words}
use Rattle.transfer_schedule.proofs.Earliest.{earliest_free, earliest_least, earliest_from_lem, earliest_most}
use Rattle.transfer_schedule.proofs.Alone.{alone}
use Rattle.transfer_schedule.proofs.FewRounds.{few_rounds}

-- The same transfer behind the same ones.
moved : {xs ys : List Transfer} {t u : Transfer} → xs ≡ ys → t ≡ u → InEarliest xs t → InEarliest ys u
moved {xs} {ys} {t} {u} behind same h = subst (λ (zs : List Transfer). InEarliest zs u) behind (subst (InEarliest xs) same h)

module _ (old : List StoredCopy) where
  -- A transfer behind fewer than 256 has room in its entry,
  pub transfer_fits :
      Each CopyFits old → (placed : List Transfer) (c : StoredCopy) → CopyFits c → length placed < 256 → TransferFits (transfer_for old placed c)
  transfer_fits olds placed c fits few = record {
    source = omega (arith, source_fits old c.film olds);
    destination = omega (arith, fits.disk);
    film = fits.film;
    round = omega (arith, few, earliest_most placed (transfer_for old placed c).source c.disk);
  }

  -- and so has each with one more.
  fits_more :
      Each CopyFits old → (placed : List Transfer) (c : StoredCopy) → CopyFits c → (length placed ≤ 256 → Each TransferFits placed)
      → length (placed_with old c placed) ≤ 256 → Each TransferFits (placed_with old c placed)
  fits_more olds placed c fits all few =
      let longer : length (placed_with old c placed) ≡ length placed + 1 = length-append placed (transfer_for old placed c ∷ []) in
      each_append TransferFits placed (transfer_for old placed c ∷ []) (all (omega arith)) (transfer_fits olds placed c fits (omega arith), tt)

  -- Each has its source by the old plan,
  schedule_sources :
      DisksAscend 1 old → (new : List StoredCopy) → Each (λ t. FromLoader old t ⊎ FromLowest old t) (schedule old new)
  schedule_sources above new =
      place_always old (Each (λ t. FromLoader old t ⊎ FromLowest old t))
      (λ placed c all. each_append (λ t. FromLoader old t ⊎ FromLowest old t) placed (transfer_for old placed c ∷ []) all
      (source_words old above (transfer_for old placed c) refl, tt)) [] (lacking old new) tt

  -- and the earliest round behind those before it.
  own_earliest : (placed : List Transfer) (c : StoredCopy) → InEarliest placed (transfer_for old placed c)
  own_earliest placed c =
      let s = (transfer_for old placed c).source in
      record { from = earliest_from_lem placed s c.disk; free = earliest_free placed s c.disk; earliest = earliest_least placed s c.disk }

  -- So it is with a transfer more,
  rounds_more :
      (placed : List Transfer) (c : StoredCopy) → ((i : ℕ) → i < length placed → InEarliest (take i placed) (transfer_at placed i))
      → (i : ℕ) → i < length (placed_with old c placed) → InEarliest (take i (placed_with old c placed)) (transfer_at (placed_with old c placed) i)
  rounds_more placed c before i h =
      by_order i (length placed)
      (λ less. moved (sym (take-append-le i placed (t ∷ []) (omega arith))) (sym (get_or-append placed (t ∷ []) none i less)) (before i less))
      (λ more.
      let last : length placed ≡ i = omega (arith, length-append placed (t ∷ [])) in
      moved (sym (take_at placed (t ∷ []) i last)) (sym (get_or_at placed t [] none i last)) (own_earliest placed c))
    where
      t : Transfer
      t = transfer_for old placed c

      none : Transfer
      none = transfer 0 0 0 0

  -- and with all.
  schedule_rounds :
      (new : List StoredCopy) (i : ℕ) → i < length (schedule old new)
      → InEarliest (take i (schedule old new)) (transfer_at (schedule old new) i)
  schedule_rounds new =
      place_always old (λ ts. (i : ℕ) → i < length ts → InEarliest (take i ts) (transfer_at ts i)) rounds_more [] (lacking old new) (λ i h. absurd (omega arith))

-- The transfers of at most 256 copies have room in their entries.
pub schedule_fits :
    (old new : List StoredCopy) → Each CopyFits old → Each CopyFits new → length new ≤ 256 → Each TransferFits (schedule old new)
schedule_fits old new olds news few =
    place_keeps old (λ ts. length ts ≤ 256 → Each TransferFits ts) CopyFits (λ placed c fits. fits_more old olds placed c fits) []
    (lacking old new) (lacking_each old CopyFits new news) (λ h. tt)
    (omega (arith, place_length old [] (lacking old new), lacking_few old new))

-- No round is above the number of rounds.
rounds_within : (most : ℕ) (ts : List Transfer) → rounds_of ts ≤ most → Each (λ (t : Transfer). t.round ≤ most) ts
rounds_within most [] few = tt
rounds_within most (t ∷ ts) few = (omega arith, rounds_within most ts (omega arith))

-- All of 02's words.
pub schedule_words :
    (old new : List StoredCopy) → DisksAscend 1 old → Each CopyFits old → Each CopyFits new → length new ≤ 256
    → Scheduled old new (schedule old new)
schedule_words old new above olds news few =
    record {
      copies = place_copies old [] (lacking old new);
      number = omega (arith, place_length old [] (lacking old new), lacking_number old new);
      sources = schedule_sources old above new;
      rounds = schedule_rounds old new;
      alone = alone old new;
      few = few_rounds old new olds news;
      within = rounds_within (rounds_of (schedule old new)) (schedule old new) (omega arith);
      summed = table_sum_lem (schedule old new) (schedule_fits old new olds news few);
    }
