-- What transfers answer and what the lent list and the lent table hold afterwards, for every call: document 02's P5.
use Rattle.std.specs.Prelude.{ℕ, ◌+◌, ◌*◌, ◌/◌, ◌%◌, Bool, true, false, ◌&&◌, List, [], ◌∷◌, ◌++◌, map, leb, eqb, length, drop}
use Rattle.refusal.specs.Verdict.{Verdict, given, refused, unless, Numbers, answered, afterwards}
use Rattle.placement.specs.Rack.{Disk}
use Rattle.placement.specs.Tables.{written}
use Rattle.placement.specs.Plan.{Plan}
use Rattle.plan_text.specs.Text.{first_line}
use Rattle.plan_text.specs.ReadCall.{text_verdict}
use Rattle.transfer_schedule.specs.Stored.{stored_copies}
use Rattle.transfer_schedule.specs.Schedule.{Transfer, transfer, schedule, rounds_of}
use Rattle.transfer_schedule.specs.Counts.{ends, count_table}
use Rattle.transfer_schedule.specs.Fits.{most_transfer_disks}

-- A verdict, and where it is no refusal another one on its value.
abbrev pub followed_with : {A B : Type 0} → Verdict A → (A → Verdict B) → Verdict B
followed_with (given a) following = following a
followed_with (refused number second) following = refused number second

-- At most 8 disks.
abbrev pub few_disks : List Disk → Bool
few_disks rack = leb (length rack) most_transfer_disks

-- Two lists of numbers, as the bytes of two lines, are the same.
abbrev pub same_numbers : List ℕ → List ℕ → Bool
same_numbers [] [] = true
same_numbers [] (y ∷ ys) = false
same_numbers (x ∷ xs) [] = false
same_numbers (x ∷ xs) (y ∷ ys) = eqb x y && same_numbers xs ys

-- "14, more than 8 disks in either; 15, the first lines differ."
abbrev pub racks_judged : {A : Type 0} → (old new : List Disk) → Verdict A → Verdict A
racks_judged old new following =
    unless (few_disks old && few_disks new) 14 0 (unless (same_numbers (first_line old) (first_line new)) 15 0 following)

-- Two plans, the old and the new one.
pub record Plans : Type 0 where
  pub old : Plan
  pub new : Plan

abbrev pub plans : Plan → Plan → Plans
plans old new = record { old = old; new = new }

-- "Turned away, after the old text's refusals and then the new one's": 14, then 15.
abbrev pub texts_verdict : (old new : List ℕ) → Verdict Plans
texts_verdict old new =
    followed_with (text_verdict old) (λ p. followed_with (text_verdict new) (λ q. racks_judged p.rack q.rack (given (plans p q))))

-- The transfers from the old plan to the new one.
abbrev pub transfers_of : Plans → List Transfer
transfers_of both = schedule (stored_copies both.old) (stored_copies both.new)

-- "Then 7, space for fewer transfers than there are", or the table is lent and has fewer than nine rows.
abbrev pub space_judged : (places rows : ℕ) → List Transfer → Verdict (List Transfer)
space_judged places rows ts = unless (leb (length ts) places && leb ends rows) 7 0 (given ts)

abbrev pub transfers_verdict : (old new : List ℕ) → (places rows : ℕ) → Verdict (List Transfer)
transfers_verdict old new places rows = followed_with (texts_verdict old new) (λ both. space_judged places rows (transfers_of both))

-- A transfer as one number: the film has the lowest 16 bits, source and destination 8 each, and the round all above.
abbrev pub transfer_entry : Transfer → ℕ
transfer_entry t = ((t.round * 256 + t.destination) * 256 + t.source) * 65536 + t.film

abbrev pub transfer_in : ℕ → Transfer
transfer_in entry = transfer (entry / 65536 % 256) (entry / 65536 / 256 % 256) (entry % 65536) (entry / 65536 / 256 / 256)

-- The values of an answer: the number of transfers and the number of rounds.
pub record ScheduleSize : Type 0 where
  pub transfers : ℕ
  pub rounds : ℕ

abbrev pub schedule_size : ℕ → ℕ → ScheduleSize
schedule_size transfers rounds = record { transfers = transfers; rounds = rounds }

abbrev pub size_of : List Transfer → ScheduleSize
size_of ts = schedule_size (length ts) (rounds_of ts)

-- The numbers that a verdict gives.
abbrev pub transfers_answer : Verdict (List Transfer) → Numbers ScheduleSize
transfers_answer v = answered (schedule_size 0 0) size_of v

-- The lent list has an entry for each transfer in front, and is untouched beyond them.
abbrev pub list_given : List ℕ → Verdict (List Transfer) → List ℕ
list_given list v = afterwards list (λ ts. written (map transfer_entry ts) list) v

-- The lent table has the counts in its first nine rows, and is untouched beyond them.
abbrev pub table_given : List (List ℕ) → Verdict (List Transfer) → List (List ℕ)
table_given table v = afterwards table (λ ts. count_table ts ++ drop ends table) v

-- The counts by themselves, all zero where the texts are refused: the table of no transfers.
abbrev pub counts_given : Verdict Plans → List (List ℕ)
counts_given v = afterwards (count_table []) (λ both. count_table (transfers_of both)) v

-- The answer for two texts and a list and a table of these lengths.
unfoldable pub transferring : (old new : List ℕ) → (places rows : ℕ) → Numbers ScheduleSize
transferring old new places rows = transfers_answer (transfers_verdict old new places rows)

-- The list after it.
unfoldable pub entries_after : (old new list : List ℕ) → (rows : ℕ) → List ℕ
entries_after old new list rows = list_given list (transfers_verdict old new (length list) rows)

-- The table after it, lent with a list of so many places.
unfoldable pub table_after : (old new : List ℕ) → (places : ℕ) → List (List ℕ) → List (List ℕ)
table_after old new places table = table_given table (transfers_verdict old new places (length table))

-- The counts of two texts.
unfoldable pub counts_of : (old new : List ℕ) → List (List ℕ)
counts_of old new = counts_given (texts_verdict old new)
