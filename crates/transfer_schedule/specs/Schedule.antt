-- Transfers in rounds, document 02's P5: what is copied, from where, and in which round.
use Rattle.std.specs.Prelude.{ℕ, zero, suc, max, Bool, false, cond, not, ◌&&◌, ◌||◌, List, [], ◌∷◌, ◌++◌, eqb, length}
use Rattle.transfer_schedule.specs.Stored.{StoredCopy, is_stored, source_of}

-- A film copied from a source to a destination in a round. A disk's number is its own, the loader's is 0; rounds are counted from 1.
pub record Transfer : Type 0 where
  pub source : ℕ
  pub destination : ℕ
  pub film : ℕ
  pub round : ℕ

abbrev pub transfer : (source destination film round : ℕ) → Transfer
transfer source destination film round = record { source = source; destination = destination; film = film; round = round }

-- A disk or the loader takes part in a transfer: it is one of its two ends.
abbrev pub takes_part : (end : ℕ) → Transfer → Bool
takes_part end t = eqb end t.source || eqb end t.destination

-- It takes part in a transfer of this round.
abbrev pub busy_in : List Transfer → (end round : ℕ) → Bool
busy_in [] end round = false
busy_in (t ∷ ts) end round = (eqb round t.round && takes_part end t) || busy_in ts end round

-- Both ends are free in a round.
abbrev pub both_free : List Transfer → (source destination round : ℕ) → Bool
both_free ts source destination round = not (busy_in ts source round) && not (busy_in ts destination round)

-- The earliest of n rounds from `round` on where both ends are free, or the one behind them.
abbrev pub earliest_from : (n : ℕ) → List Transfer → (source destination round : ℕ) → ℕ
earliest_from zero ts source destination round = round
earliest_from (suc n) ts source destination round =
    let later = earliest_from n ts source destination (suc round) in
    cond (both_free ts source destination round) round later

-- "The earliest round, from 1, where both ends are free": n transfers keep at most n rounds busy.
abbrev pub earliest : List Transfer → (source destination : ℕ) → ℕ
earliest ts source destination = earliest_from (length ts) ts source destination 1

-- The transfer of a copy behind those that are placed.
abbrev pub transfer_for : (old : List StoredCopy) → (placed : List Transfer) → StoredCopy → Transfer
transfer_for old placed c =
    let source = source_of old c.film in
    transfer source c.disk c.film (earliest placed source c.disk)

-- "One for each new copy whose film the old plan hasn't on the same disk": the new copies that the old ones lack, in their order.
abbrev pub lacking : (old new : List StoredCopy) → List StoredCopy
lacking old [] = []
lacking old (c ∷ cs) =
    let rest = lacking old cs in
    cond (is_stored c old) rest (c ∷ rest)

-- Those that are placed, with the transfer of one copy more.
abbrev pub placed_with : (old : List StoredCopy) → StoredCopy → (placed : List Transfer) → List Transfer
placed_with old c placed = placed ++ (transfer_for old placed c ∷ [])

-- The transfers of some copies, placed one after the other.
abbrev pub place_all : (old : List StoredCopy) → (placed : List Transfer) → List StoredCopy → List Transfer
place_all old placed [] = placed
place_all old placed (c ∷ cs) = place_all old (placed_with old c placed) cs

-- The transfers from the stored copies of the old plan to those of the new one.
abbrev pub schedule : (old new : List StoredCopy) → List Transfer
schedule old new = place_all old [] (lacking old new)

-- The number of rounds: the largest round, 0 without transfers.
abbrev pub rounds_of : List Transfer → ℕ
rounds_of [] = 0
rounds_of (t ∷ ts) = max t.round (rounds_of ts)
