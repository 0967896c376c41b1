-- Calls of transfers as one table: two texts, the lent list and the lent table, and what the answer, both of these and the counts then are.
use Rattle.std.specs.Prelude.{ℕ, ◌+◌, List, [], ◌∷◌, ◌++◌, map, length, replicate, get_or, set}
use Prim.Native.String.{String}
use Rattle.refusal.specs.Verdict.{Numbers}
use Rattle.plan_text.specs.Examples.{text_lines}
use Rattle.transfer_schedule.specs.Schedule.{Transfer, transfer}
use Rattle.transfer_schedule.specs.Transfers.{ScheduleSize, schedule_size, transfer_entry, transferring, entries_after, table_after, counts_of}

-- Two texts with what is lent; then what is expected: the numbers, the list, the table, and the counts of the two texts by themselves.
pub record TransferRow : Type 0 where
  pub old : List ℕ
  pub new : List ℕ
  pub list : List ℕ
  pub table : List (List ℕ)
  pub numbers : Numbers ScheduleSize
  pub list_then : List ℕ
  pub table_then : List (List ℕ)
  pub counts : List (List ℕ)

-- A list of so many places and a table of so many rows, lent with 77 everywhere.
abbrev lent_places : ℕ → List ℕ
lent_places n = replicate n 77

abbrev lent_rows : ℕ → List (List ℕ)
lent_rows n = replicate n (replicate 9 77)

-- Nine rows of nine zeros, and a table with a number in the row of a source and the column of a destination.
abbrev pub no_counts : List (List ℕ)
no_counts = replicate 9 (replicate 9 0)

abbrev pub at : (source destination count : ℕ) → List (List ℕ) → List (List ℕ)
at source destination count table = set table source (set (get_or table source []) destination count)

-- The numbers of a refusal.
abbrev declined : (number second : ℕ) → Numbers ScheduleSize
declined number second = record { refusal = number; second = second; values = schedule_size 0 0 }

-- A row of n transfers, with so many places and rows more than they need: n, the rounds, each transfer as source, destination, film, round, and the counts.
abbrev copies_with :
    (spare spare_rows : ℕ) → (old new : List ℕ) → (n rounds : ℕ) → List Transfer → (counts : List (List ℕ)) → TransferRow
copies_with spare spare_rows old new n rounds ts counts = record {
  old = old;
  new = new;
  list = lent_places (n + spare);
  table = lent_rows (9 + spare_rows);
  numbers = record { refusal = 0; second = 0; values = schedule_size n rounds };
  list_then = map transfer_entry ts ++ lent_places spare;
  table_then = counts ++ lent_rows spare_rows;
  counts = counts;
}

-- With two places and one row more.
abbrev copies : (old new : List ℕ) → (n rounds : ℕ) → List Transfer → (counts : List (List ℕ)) → TransferRow
copies = copies_with 2 1

-- A row of two texts that are refused, with these places and rows: the list and the table stay, and the counts are all zero.
abbrev refuses_with : (n m : ℕ) → (old new : List ℕ) → (number second : ℕ) → TransferRow
refuses_with n m old new number second = record {
  old = old;
  new = new;
  list = lent_places n;
  table = lent_rows m;
  numbers = declined number second;
  list_then = lent_places n;
  table_then = lent_rows m;
  counts = no_counts;
}

-- With space enough.
abbrev refuses : (old new : List ℕ) → (number second : ℕ) → TransferRow
refuses = refuses_with 4 9

-- A row of two texts whose transfers lack space in these places and rows: the list and the table stay. The counts by themselves need no space.
abbrev lacks_space : (n m : ℕ) → (old new : List ℕ) → (counts : List (List ℕ)) → TransferRow
lacks_space n m old new counts = record {
  old = old;
  new = new;
  list = lent_places n;
  table = lent_rows m;
  numbers = declined 7 0;
  list_then = lent_places n;
  table_then = lent_rows m;
  counts = counts;
}

-- A text with nothing left: the first line, the disk lines and the last line.
abbrev text : String → List String → String → List ℕ
text rack disks served = text_lines (rack ∷ (disks ++ ("(left)" ∷ served ∷ [])))

-- Two disks of two slots and load 5, without copies; and with two films each, of which one has no viewers.
abbrev two_empty : List ℕ
two_empty = text "(rack 2 2 5)" ("(disk 1)" ∷ "(disk 2)" ∷ []) "(served 0 0)"

abbrev two_filled : List ℕ
two_filled = text "(rack 2 2 5)" ("(disk 1 (1 2) (2 3))" ∷ "(disk 2 (3 4) (4 0))" ∷ []) "(served 9 0)"

-- The same text twice, and the new plan without copies: nothing to copy, no round, and an empty list is enough.
abbrev nothing : TransferRow
nothing = copies_with 0 0 two_filled two_filled 0 0 [] no_counts

abbrev nothing_kept : TransferRow
nothing_kept = copies two_filled two_empty 0 0 [] no_counts

-- Two disks exchange a film each. Both transfers touch both disks, so they take two rounds.
abbrev exchange : TransferRow
exchange =
    copies
    (text "(rack 2 2 5)" ("(disk 1 (1 2))" ∷ "(disk 2 (2 3))" ∷ []) "(served 5 0)")
    (text "(rack 2 2 5)" ("(disk 1 (2 3))" ∷ "(disk 2 (1 2))" ∷ []) "(served 5 0)")
    2 2 (transfer 2 1 2 1 ∷ transfer 1 2 1 2 ∷ []) (at 1 2 1 (at 2 1 1 no_counts))

-- All from the loader, which makes one transfer a round: a disk's films by number, 5, 41, 300, and neither as the text has them nor by digits.
abbrev empty_rack : List ℕ
empty_rack = text "(rack 2 3 9)" ("(disk 1)" ∷ "(disk 2)" ∷ []) "(served 0 0)"

abbrev unsorted : List ℕ
unsorted = text "(rack 2 3 9)" ("(disk 1 (300 0) (5 3) (41 2))" ∷ "(disk 2 (9 2) (5 1))" ∷ []) "(served 8 0)"

abbrev unsorted_transfers : List Transfer
unsorted_transfers = transfer 0 1 5 1 ∷ transfer 0 1 41 2 ∷ transfer 0 1 300 3 ∷ transfer 0 2 5 4 ∷ transfer 0 2 9 5 ∷ []

abbrev unsorted_counts : List (List ℕ)
unsorted_counts = at 0 1 3 (at 0 2 2 no_counts)

abbrev films_by_number : TransferRow
films_by_number = copies empty_rack unsorted 5 5 unsorted_transfers unsorted_counts

-- The same with a place for each transfer and nine rows, and no more.
abbrev exactly : TransferRow
exactly = copies_with 0 0 empty_rack unsorted 5 5 unsorted_transfers unsorted_counts

-- Film 7 is on disks 2 and 3, film 8 on disks 1 and 2: the lower of the two is the source.
abbrev lowest_source : TransferRow
lowest_source =
    copies
    (text "(rack 3 2 9)" ("(disk 1 (8 1))" ∷ "(disk 2 (7 1) (8 1))" ∷ "(disk 3 (7 2))" ∷ []) "(served 5 0)")
    (text "(rack 3 2 9)" ("(disk 1 (7 3))" ∷ "(disk 2)" ∷ "(disk 3 (8 1))" ∷ []) "(served 4 0)")
    2 2 (transfer 2 1 7 1 ∷ transfer 1 3 8 2 ∷ []) (at 2 1 1 (at 1 3 1 no_counts))

-- Copies with 0 viewers are copied and copied from. A mark counts for nothing: film 3 on disk 1 and film 1 on disk 2 have one in the new text and are
-- transfers, film 1 on disk 1 and film 3 on disk 2 have none there and are on their disks.
abbrev marks_ignored : TransferRow
marks_ignored =
    copies
    (text "(rack 2 2 5)" ("(disk 1 (1 0) (2 3 held))" ∷ "(disk 2 (3 0 held))" ∷ []) "(served 3 0)")
    (text "(rack 2 2 5)" ("(disk 1 (1 2) (3 1 held))" ∷ "(disk 2 (1 0 held) (3 4))" ∷ []) "(served 7 0)")
    2 2 (transfer 2 1 3 1 ∷ transfer 1 2 1 2 ∷ []) (at 2 1 1 (at 1 2 1 no_counts))

-- A copy with 0 viewers and without a mark, from the loader; one with 0 viewers that gets viewers is on its disk.
abbrev without_viewers : TransferRow
without_viewers =
    copies
    (text "(rack 2 2 5)" ("(disk 1)" ∷ "(disk 2 (6 0))" ∷ []) "(served 0 0)")
    (text "(rack 2 2 5)" ("(disk 1 (5 0))" ∷ "(disk 2 (6 5))" ∷ []) "(served 5 0)")
    1 1 (transfer 0 1 5 1 ∷ []) (at 0 1 1 no_counts)

-- Disk 2 is free in rounds 1 and 2 where the loader is not, so film 3 waits for round 3. Film 5 is placed after it, in round 1.
abbrev earlier_round : TransferRow
earlier_round =
    copies
    (text "(rack 3 2 9)" ("(disk 1)" ∷ "(disk 2 (5 1))" ∷ "(disk 3)" ∷ []) "(served 1 0)")
    (text "(rack 3 2 9)" ("(disk 1 (1 1) (2 1))" ∷ "(disk 2 (3 1))" ∷ "(disk 3 (5 1))" ∷ []) "(served 4 0)")
    4 3 (transfer 0 1 1 1 ∷ transfer 0 1 2 2 ∷ transfer 0 2 3 3 ∷ transfer 2 3 5 1 ∷ []) (at 0 1 2 (at 0 2 1 (at 2 3 1 no_counts)))

-- The source is free in round 1 and the destination is not.
abbrev destination_busy : TransferRow
destination_busy =
    copies
    (text "(rack 3 2 9)" ("(disk 1 (1 1))" ∷ "(disk 2 (2 1))" ∷ "(disk 3)" ∷ []) "(served 2 0)")
    (text "(rack 3 2 9)" ("(disk 1)" ∷ "(disk 2)" ∷ "(disk 3 (2 1) (1 1))" ∷ []) "(served 2 0)")
    2 2 (transfer 1 3 1 1 ∷ transfer 2 3 2 2 ∷ []) (at 1 3 1 (at 2 3 1 no_counts))

-- Transfers that share no end run in one round. A place for each round is not enough.
abbrev beside_old : List ℕ
beside_old = text "(rack 4 2 9)" ("(disk 1 (1 1))" ∷ "(disk 2)" ∷ "(disk 3 (3 1))" ∷ "(disk 4)" ∷ []) "(served 2 0)"

abbrev beside_new : List ℕ
beside_new = text "(rack 4 2 9)" ("(disk 1)" ∷ "(disk 2 (1 1))" ∷ "(disk 3)" ∷ "(disk 4 (3 1))" ∷ []) "(served 2 0)"

abbrev side_by_side : TransferRow
side_by_side = copies beside_old beside_new 2 1 (transfer 1 2 1 1 ∷ transfer 3 4 3 1 ∷ []) (at 1 2 1 (at 3 4 1 no_counts))

abbrev place_for_rounds : TransferRow
place_for_rounds = lacks_space 1 9 beside_old beside_new (at 1 2 1 (at 3 4 1 no_counts))

-- Disk 1 is the source of two transfers, which take a round each, and the loader's takes the first. Film 7 comes from disk 1, the lower of the two that
-- hold it, although disk 2 is free earlier, has fewer slots and names it first; on disk 1 it is marked and stays. Disks are taken by number, not by slots.
abbrev two_from_one : TransferRow
two_from_one =
    copies
    (text "(mixed (4 8) (2 4) (2 4) (2 4))" ("(disk 1 (8 1) (7 1))" ∷ "(disk 2 (7 1))" ∷ "(disk 3)" ∷ "(disk 4)" ∷ []) "(served 3 0)")
    (text "(mixed (4 8) (2 4) (2 4) (2 4))" ("(disk 1 (7 1 held) (5 1))" ∷ "(disk 2 (7 1))" ∷ "(disk 3 (8 1))" ∷ "(disk 4 (7 1))" ∷ []) "(served 5 0)")
    3 3 (transfer 0 1 5 1 ∷ transfer 1 3 8 2 ∷ transfer 1 4 7 3 ∷ []) (at 0 1 1 (at 1 3 1 (at 1 4 1 no_counts)))

-- A rack of unequal disks. Film 9 is left in the old plan, so it comes from the loader, to disk 1 in round 2 when film 3 is through. On disk 2, film 2
-- waits for disk 1 until round 3; film 4 finds disk 2 busy in rounds 1 and 3 and the loader in 2, film 9 so too and disk 2 in 4; film 8 is there.
abbrev mixed_old : List ℕ
mixed_old =
    text_lines ("(mixed (2 4) (4 8))" ∷ "(disk 1 (8 3) (2 1))" ∷ "(disk 2 (8 5) (1 0) (3 0))" ∷ "(left (9 3))" ∷ "(served 9 3)" ∷ [])

abbrev unequal : TransferRow
unequal =
    copies mixed_old
    (text "(mixed (2 4) (4 8))" ("(disk 1 (3 2) (9 2))" ∷ "(disk 2 (2 1) (8 1) (9 1) (4 1))" ∷ []) "(served 8 0)")
    5 5 (transfer 2 1 3 1 ∷ transfer 0 1 9 2 ∷ transfer 1 2 2 3 ∷ transfer 0 2 4 4 ∷ transfer 0 2 9 5 ∷ [])
    (at 2 1 1 (at 0 1 1 (at 1 2 1 (at 0 2 2 no_counts))))

-- Film 7 is on disks 1 and 2: none to disk 2, which has it, although disk 1 is lower and has it too; one to disk 3.
abbrev on_both : TransferRow
on_both =
    copies
    (text "(rack 3 2 9)" ("(disk 1 (7 1))" ∷ "(disk 2 (7 1))" ∷ "(disk 3)" ∷ []) "(served 2 0)")
    (text "(rack 3 2 9)" ("(disk 1)" ∷ "(disk 2 (7 2))" ∷ "(disk 3 (7 1))" ∷ []) "(served 3 0)")
    1 1 (transfer 1 3 7 1 ∷ []) (at 1 3 1 no_counts)

-- A film that is left in the old plan has no disk there, and one that is left in the new plan is no copy.
abbrev left_films : TransferRow
left_films =
    copies
    (text_lines ("(rack 2 2 5)" ∷ "(disk 1 (7 5))" ∷ "(disk 2)" ∷ "(left (9 6))" ∷ "(served 5 6)" ∷ []))
    (text_lines ("(rack 2 2 5)" ∷ "(disk 1)" ∷ "(disk 2 (9 5))" ∷ "(left (8 1) (9 1))" ∷ "(served 5 2)" ∷ []))
    1 1 (transfer 0 2 9 1 ∷ []) (at 0 2 1 no_counts)

-- At most two transfers touch the loader or a disk, and three rounds, 2 × 2 − 1, are taken: each two of three transfers share an end.
abbrev pub triangle_transfers : List Transfer
triangle_transfers = transfer 0 1 1 1 ∷ transfer 0 2 2 2 ∷ transfer 1 2 5 3 ∷ []

abbrev triangle : TransferRow
triangle =
    copies
    (text "(rack 2 2 5)" ("(disk 1 (5 1))" ∷ "(disk 2)" ∷ []) "(served 1 0)")
    (text "(rack 2 2 5)" ("(disk 1 (1 1))" ∷ "(disk 2 (5 1) (2 1))" ∷ []) "(served 3 0)")
    3 3 triangle_transfers (at 0 1 1 (at 0 2 1 (at 1 2 1 no_counts)))

-- So too where two rounds would do: the last transfer finds disk 4 busy in round 1 and disk 2 in round 2.
abbrev pub path_transfers : List Transfer
path_transfers = transfer 0 1 1 1 ∷ transfer 1 2 2 2 ∷ transfer 4 3 4 1 ∷ transfer 2 4 3 3 ∷ []

abbrev path : TransferRow
path =
    copies
    (text "(rack 4 2 9)" ("(disk 1 (2 1))" ∷ "(disk 2 (3 1))" ∷ "(disk 3)" ∷ "(disk 4 (4 1))" ∷ []) "(served 3 0)")
    (text "(rack 4 2 9)" ("(disk 1 (1 1))" ∷ "(disk 2 (2 1))" ∷ "(disk 3 (4 1))" ∷ "(disk 4 (3 1))" ∷ []) "(served 4 0)")
    4 3 path_transfers (at 0 1 1 (at 1 2 1 (at 4 3 1 (at 2 4 1 no_counts))))

-- Eight disks of one slot: the lines of the first and the last disk, no copies between, and the last line.
abbrev eight : (first last served : String) → List ℕ
eight first last served =
    text "(rack 8 1 1)" (first ∷ "(disk 2)" ∷ "(disk 3)" ∷ "(disk 4)" ∷ "(disk 5)" ∷ "(disk 6)" ∷ "(disk 7)" ∷ last ∷ []) served

-- Eight disks are not too many, and film 65,535 is a film: the last row and the last column.
abbrev eight_disks : TransferRow
eight_disks =
    copies
    (eight "(disk 1 (1 1))" "(disk 8 (65535 1))" "(served 2 0)")
    (eight "(disk 1 (65535 1))" "(disk 8 (1 1))" "(served 2 0)")
    2 2 (transfer 8 1 65535 1 ∷ transfer 1 8 1 2 ∷ []) (at 8 1 1 (at 1 8 1 no_counts))

-- All that is copied, and that has space enough.
abbrev copied : List TransferRow
copied =
    nothing ∷ nothing_kept ∷ exchange ∷ films_by_number ∷ exactly ∷ lowest_source ∷ marks_ignored ∷ without_viewers ∷ earlier_round ∷ destination_busy
    ∷ side_by_side ∷ two_from_one ∷ unequal ∷ on_both ∷ left_films ∷ triangle ∷ path ∷ eight_disks ∷ []

-- A place too few, no place, a row too few, no row; a place for each round; and a row too few where nothing is copied.
abbrev without_space : List TransferRow
without_space =
    lacks_space 4 9 empty_rack unsorted unsorted_counts
    ∷ lacks_space 0 10 empty_rack unsorted unsorted_counts
    ∷ lacks_space 5 8 empty_rack unsorted unsorted_counts
    ∷ lacks_space 6 0 empty_rack unsorted unsorted_counts
    ∷ place_for_rounds
    ∷ lacks_space 0 8 two_filled two_filled no_counts
    ∷ []

-- Texts that are refused: at line 2, at line 3, and for their length.
abbrev damaged_at2 : List ℕ
damaged_at2 = text "(rack 2 2 5)" ("(disk 2)" ∷ "(disk 2)" ∷ []) "(served 0 0)"

abbrev damaged_at3 : List ℕ
damaged_at3 = text "(rack 2 2 5)" ("(disk 1)" ∷ "(disk 2 (7 6))" ∷ []) "(served 6 0)"

abbrev long : List ℕ
long = replicate 65537 0

-- Nine disks.
abbrev nine : List ℕ
nine =
    text "(rack 9 1 1)"
    ("(disk 1)" ∷ "(disk 2)" ∷ "(disk 3)" ∷ "(disk 4)" ∷ "(disk 5)" ∷ "(disk 6)" ∷ "(disk 7)" ∷ "(disk 8)" ∷ "(disk 9)" ∷ [])
    "(served 0 0)"

-- The old text's refusal before the new one's, whichever they are; then the new one's, before 14 and 15 and before 7. An empty text lacks line 1.
abbrev texts_refused : List TransferRow
texts_refused =
    refuses damaged_at2 damaged_at3 9 2
    ∷ refuses damaged_at3 damaged_at2 9 3
    ∷ refuses damaged_at2 long 9 2
    ∷ refuses long damaged_at2 8 0
    ∷ refuses long two_filled 8 0
    ∷ refuses damaged_at3 two_filled 9 3
    ∷ refuses two_filled damaged_at3 9 3
    ∷ refuses two_filled long 8 0
    ∷ refuses [] [] 9 1
    ∷ refuses [] two_filled 9 1
    ∷ refuses two_filled [] 9 1
    ∷ refuses nine damaged_at2 9 2
    ∷ refuses_with 0 0 damaged_at2 two_filled 9 2
    ∷ refuses_with 0 0 two_filled damaged_at3 9 3
    ∷ []

-- Nine disks in both, in the old text alone, in the new one alone, where the first lines differ too; and before 7.
abbrev many_disks : List TransferRow
many_disks =
    refuses nine nine 14 0
    ∷ refuses nine two_filled 14 0
    ∷ refuses two_filled nine 14 0
    ∷ refuses_with 0 0 nine nine 14 0
    ∷ []

-- Two disks without copies by their first line, and three.
abbrev two_of : String → List ℕ
two_of rack = text rack ("(disk 1)" ∷ "(disk 2)" ∷ []) "(served 0 0)"

abbrev three_of : String → List ℕ
three_of rack = text rack ("(disk 1)" ∷ "(disk 2)" ∷ "(disk 3)" ∷ []) "(served 0 0)"

-- Other slots, another load, more disks and fewer, an equal rack and a mixed one, other disks and disks in another order; and before 7.
abbrev lines_differ : List TransferRow
lines_differ =
    refuses two_empty (two_of "(rack 2 3 5)") 15 0
    ∷ refuses two_empty (two_of "(rack 2 2 6)") 15 0
    ∷ refuses two_empty (three_of "(rack 3 2 5)") 15 0
    ∷ refuses (three_of "(rack 3 2 5)") two_empty 15 0
    ∷ refuses (two_of "(rack 2 2 4)") (two_of "(mixed (2 4) (4 8))") 15 0
    ∷ refuses (two_of "(mixed (2 4) (4 8))") (two_of "(rack 2 4 8)") 15 0
    ∷ refuses mixed_old (three_of "(mixed (2 4) (4 8) (1 2))") 15 0
    ∷ refuses (two_of "(mixed (2 4) (4 8))") (two_of "(mixed (4 8) (2 4))") 15 0
    ∷ refuses_with 0 0 (two_of "(rack 2 2 6)") two_filled 15 0
    ∷ []

abbrev pub transfer_rows : List TransferRow
transfer_rows = copied ++ (without_space ++ (texts_refused ++ (many_disks ++ lines_differ)))

-- What the definitions give for a row, and what it expects.
pub record TransferOutcome : Type 0 where
  pub numbers : Numbers ScheduleSize
  pub list : List ℕ
  pub table : List (List ℕ)
  pub counts : List (List ℕ)

abbrev pub transfer_outcome : TransferRow → TransferOutcome
transfer_outcome r = record {
  numbers = transferring r.old r.new (length r.list) (length r.table);
  list = entries_after r.old r.new r.list (length r.table);
  table = table_after r.old r.new (length r.list) r.table;
  counts = counts_of r.old r.new;
}

abbrev pub transfer_expected : TransferRow → TransferOutcome
transfer_expected r = record { numbers = r.numbers; list = r.list_then; table = r.table_then; counts = r.counts }
