-- What the steps of transfers hold: stored copies and transfers as numbers, and which ends are busy in which round.
use Rattle.std.specs.Prelude.{ℕ, suc, ◌+◌, ◌*◌, ◌/◌, ◌%◌, ◌≤◌, ◌<◌, ◌≡◌, Bool, true, cond, List, [], ◌∷◌, ◌++◌, map, ◌⊎◌, eqb, length, take, get_or}
use Rattle.std.specs.Coded.{Unit-prop, ×_prop, →_prop, Π_prop}
use Rattle.refusal.specs.Verdict.{Verdict, given, refused, Numbers}
use Rattle.placement.specs.Rack.{Disk}
use Rattle.placement.specs.Packed.{disks_in}
use Rattle.placement.specs.Plan.{Plan}
use Rattle.placement.specs.WellFormed.{Each}
use Rattle.plan_text.specs.Held.{unused_zero_from}
use Rattle.writer.specs.Call.{CopyRoom}
use Rattle.transfer_schedule.specs.Stored.{StoredCopy, stored_copy, stored_copies}
use Rattle.transfer_schedule.specs.Schedule.{Transfer, transfer, busy_in, earliest_from, earliest, transfer_for, placed_with}
use Rattle.transfer_schedule.specs.Counts.{ends}
use Rattle.transfer_schedule.specs.Fits.{most_transfer_disks, most_transfers, TransferFits}
use Rattle.transfer_schedule.specs.Transfers.{racks_judged, Plans, transfers_of, transfer_entry, ScheduleSize, schedule_size, size_of}

-- The key of a stored copy, a number that ascends by disk, then film: the film has the lowest 24 bits. And the copy of a key.
abbrev pub copy_key : StoredCopy → ℕ
copy_key c = c.disk * 16777216 + c.film

abbrev pub stored_in : ℕ → StoredCopy
stored_in key = stored_copy (key / 16777216) (key % 16777216)

-- The stored copies of the first n keys.
abbrev pub stored_at : ℕ → List ℕ → List StoredCopy
stored_at n keys = map stored_in (take n keys)

-- The tables of a plan have a place for each slot and each disk, and zero entries behind at most as many copies as slots.
pub record TablesFit (rack : List Disk) (copies counts : List ℕ) : Type 0 where
  pub room : CopyRoom rack copies counts
  pub unused : unused_zero_from rack copies counts ≡ true

-- A row of the table of busy rounds for each end, with a place for each round.
abbrev pub row_length : ℕ
row_length = most_transfers

abbrev pub busy_places : ℕ
busy_places = ends * row_length

abbrev pub flag : Bool → ℕ
flag b = cond b 1 0

-- The table says which ends are busy in which round: 1 where the end takes part in a transfer of round r + 1, else 0.
pub record BusyTable (busy : List ℕ) (placed : List Transfer) : Type 0 where
  pub wide : length busy ≡ busy_places
  pub rows : (end r : ℕ) → end < ends → r < row_length → get_or busy (end * row_length + r) 0 ≡ flag (busy_in placed end (suc r))

-- An end is busy in the first n rounds.
abbrev pub BusyTo : (busy : List ℕ) → (end n : ℕ) → Type 0
BusyTo busy end n = (r : ℕ) → r < n → get_or busy (end * row_length + r) 0 ≡ 1

-- For each end a number of rounds, at most n: the end is busy in so many from the first on.
pub record FullTable (busy full : List ℕ) (n : ℕ) : Type 0 where
  pub wide : length full ≡ ends
  pub few : (end : ℕ) → end < ends → get_or full end 0 ≤ n
  pub ones : (end : ℕ) → end < ends → BusyTo busy end (get_or full end 0)

-- That number once a round is busy: the round itself where it is the next one.
abbrev pub next_full : (full round : ℕ) → ℕ
next_full full round = cond (eqb (full + 1) round) round full

-- In each of the first n rounds one of two ends is busy.
abbrev pub NoneFree : (busy : List ℕ) → (source destination n : ℕ) → Type 0
NoneFree busy source destination n =
    (r : ℕ) → r < n → (get_or busy (source * row_length + r) 0 ≡ 1) ⊎ (get_or busy (destination * row_length + r) 0 ≡ 1)

-- A round is the earliest of the first n where both ends are free, or the one behind them, for all transfers that the table says.
abbrev pub EarliestFor : (busy : List ℕ) → (source destination n round : ℕ) → Type 0
EarliestFor busy source destination n round =
    (placed : List Transfer) → BusyTable busy placed → round ≡ earliest_from n placed source destination 1

-- A round is the earliest behind n transfers, for all of them that the table says, and the table then has a transfer in it, whatever its film.
abbrev pub RoundTaken : (source destination n : ℕ) → (busy busy' : List ℕ) → (round : ℕ) → Type 0
RoundTaken source destination n busy busy' round =
    (placed : List Transfer) → length placed ≡ n → BusyTable busy placed
    → (round ≡ earliest placed source destination)
    × ((film : ℕ) → BusyTable busy' (placed ++ (transfer source destination film round ∷ [])))

-- An entry is that of the transfer of a copy behind n others, for all of them that the table says, and the table then has it too.
abbrev pub PlacedNext : (old : List StoredCopy) → StoredCopy → (n : ℕ) → (busy busy' : List ℕ) → (entry : ℕ) → Type 0
PlacedNext old c n busy busy' entry =
    (placed : List Transfer) → length placed ≡ n → BusyTable busy placed
    → (entry ≡ transfer_entry (transfer_for old placed c)) × BusyTable busy' (placed_with old c placed)

-- No copy has the film.
abbrev pub NoneOf : (film : ℕ) → List StoredCopy → Type 0
NoneOf film cs = Each (λ (c : StoredCopy). c.film ≡ film → ⊥) cs

-- How many remainders of films there are.
abbrev pub start_places : ℕ
start_places = 4096

-- There is one proof of it at most.
NoneOf-prop : (film : ℕ) (cs : List StoredCopy) → IsProp (NoneOf film cs)
NoneOf-prop film [] = Unit-prop
NoneOf-prop film (c ∷ cs) = ×_prop (→_prop (λ a b. absurd a)) (NoneOf-prop film cs)

-- No copy before the place where the search for a film starts, by its remainder, has the film.
abbrev pub NoneBefore : (starts : List ℕ) → (cs : List StoredCopy) → Type 0
NoneBefore starts cs = (film : ℕ) → NoneOf film (take (get_or starts (film % start_places) 0) cs)

pub NoneBefore-prop : (starts : List ℕ) (cs : List StoredCopy) → IsProp (NoneBefore starts cs)
NoneBefore-prop starts cs = Π_prop (λ film. NoneOf-prop film (take (get_or starts (film % start_places) 0) cs))

-- Where the search for a film starts, by its remainder: no copy before that place has the film.
pub record SearchStarts (starts : List ℕ) (cs : List StoredCopy) : Type 0 where
  pub wide : length starts ≡ start_places
  pub none : NoneBefore starts cs

-- The keys before a place are below a key, and the one there is not.
pub record PassedTo (keys : List ℕ) (key at : ℕ) : Type 0 where
  pub within : at ≤ length keys
  pub below : Each (λ k. k < key) (take at keys)
  pub next : at < length keys → key ≤ get_or keys at 0

-- The disks of a rack, and how many keys stand in front for these copies, unless the rack has more than 8 disks.
abbrev pub KeysHold : (disks : ℕ) → List StoredCopy → (keys : List ℕ) → Verdict (ℕ × ℕ) → Type 0
KeysHold disks copies keys v =
    (n : ℕ) × (v ≡ given (disks, n)) × (n ≤ length keys) × (disks ≤ most_transfer_disks → stored_at n keys ≡ copies)

-- A text that is refused, or whose plan's rack and stored copies stand in front.
abbrev pub StoredText : Verdict Plan → (rack keys : List ℕ) → Verdict (ℕ × ℕ) → Type 0
StoredText (refused number second) rack keys v = v ≡ refused number second
StoredText (given p) rack keys v =
    (disks_in (take (length p.rack) rack) ≡ p.rack) × KeysHold (length p.rack) (stored_copies p) keys v

-- The new text behind an old one with this rack and so many copies.
abbrev pub StoredNew : Verdict Plan → (old : List Disk) → (copies : ℕ) → (keys : List ℕ) → Verdict (ℕ × ℕ) → Type 0
StoredNew (refused number second) old copies keys v = v ≡ refused number second
StoredNew (given p) old copies keys v =
    (n : ℕ) × (v ≡ racks_judged old p.rack (given (copies, n))) × (n ≤ length keys)
    × (length p.rack ≤ most_transfer_disks → stored_at n keys ≡ stored_copies p)

-- Two texts that are refused, or whose plans' stored copies stand in front of both lists of keys.
abbrev pub StoredTexts : Verdict Plans → (oldkeys newkeys : List ℕ) → Verdict (ℕ × ℕ) → Type 0
StoredTexts (refused number second) oldkeys newkeys v = v ≡ refused number second
StoredTexts (given both) oldkeys newkeys v =
    (m : ℕ) × (n : ℕ) × (v ≡ given (m, n)) × (m ≤ length oldkeys) × (n ≤ length newkeys)
    × (stored_at m oldkeys ≡ stored_copies both.old) × (stored_at n newkeys ≡ stored_copies both.new)

-- The answer for some transfers, whose entries stand in front.
pub record TransfersMade (ts : List Transfer) (entries : List ℕ) (answer : Numbers ScheduleSize) : Type 0 where
  pub told : answer ≡ record { refusal = 0; second = 0; values = size_of ts }
  pub front : take (length ts) entries ≡ map transfer_entry ts
  pub fit : Each TransferFits ts
  pub room : length ts ≤ length entries

-- Two texts that are refused, or whose transfers stand in front of the entries.
abbrev pub WorkedOut : Verdict Plans → (entries : List ℕ) → Numbers ScheduleSize → Type 0
WorkedOut (refused number second) entries answer = answer ≡ record { refusal = number; second = second; values = schedule_size 0 0 }
WorkedOut (given both) entries answer = TransfersMade (transfers_of both) entries answer
