-- Transfers as numbers: a transfer is read back from its entry.
use mathlib.Core.Path.{◌≡◌, refl, ap₂, ◌∙◌}
use mathlib.Core.List.{List, [], ◌∷◌, map}
use Prim.Native.Nat.{ℕ, ◌/◌, ◌%◌}
use native.Mathlib.Omega.{arith}
use Rattle.placement.specs.WellFormed.{Each}
use Rattle.transfer_schedule.specs.Schedule.{Transfer, transfer}
use Rattle.transfer_schedule.specs.Transfers.{transfer_entry, transfer_in}
use Rattle.transfer_schedule.specs.Fits.{TransferFits}

-- A transfer whose numbers have room is read back with all four.
pub transfer_entry_lem : (t : Transfer) → TransferFits t → transfer_in (transfer_entry t) ≡ t
transfer_entry_lem t fits =
    ap₂ (λ (s d : ℕ). transfer s d (transfer_entry t % 65536) (transfer_entry t / 65536 / 256 / 256)) source destination
    ∙ ap₂ (λ (f r : ℕ). transfer t.source t.destination f r) film round
  where
    source : transfer_entry t / 65536 % 256 ≡ t.source
    source = omega (arith, fits.source, fits.destination, fits.film)

    destination : transfer_entry t / 65536 / 256 % 256 ≡ t.destination
    destination = omega (arith, fits.source, fits.destination, fits.film)

    film : transfer_entry t % 65536 ≡ t.film
    film = omega (arith, fits.film)

    round : transfer_entry t / 65536 / 256 / 256 ≡ t.round
    round = omega (arith, fits.source, fits.destination, fits.film)

-- So for a list of them.
pub transfers_entries : (ts : List Transfer) → Each TransferFits ts → map transfer_in (map transfer_entry ts) ≡ ts
transfers_entries [] fit = refl
transfers_entries (t ∷ ts) fit =
    ap₂ (λ (u : Transfer) (us : List Transfer). u ∷ us) (transfer_entry_lem t fit.0) (transfers_entries ts fit.1)
