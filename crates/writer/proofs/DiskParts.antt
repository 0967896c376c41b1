-- The tables from a disk on: that disk's places, then the tables from the next disk on.
use Rattle.std.proofs.Common.{◌≡◌, ℕ, zero, suc, ◌+◌, ◌-◌, ◌<◌, ◌≤◌, Bool, true, false, ◌&&◌, leb, List, [], ◌∷◌, ◌++◌, map, length, get_or, take, drop, sym, refl, ap, ◌∙◌, ap₂, add-one, arith, length-drop, drop_of_length-le, take_all, drop-drop, leb-true}
use Rattle.placement.specs.Copies.{unmarked, layout_of, copy_of}
use Rattle.placement.specs.Rack.{Disk, all_slots}
use Rattle.placement.specs.Tables.{tables, copies_in}
use Rattle.placement.specs.Packed.{disk_in, disks_in}
use Rattle.placement.specs.Held.{front, copies_from, marked_from}
use Rattle.placement.specs.Plan.{disk_accepted, disks_accepted, marks_accepted, copies_accepted, all_marks_accepted}
use Rattle.placement.proofs.Conjunctions.{both_true, false_true}
use Rattle.placement.proofs.Offsets.{offset, disk_at, offset_next, offset_room, copies_from_lem}
use Rattle.placement.proofs.PackedRacks.{disks_length, disk_packed}
use Rattle.plan_text.specs.Text.{lines, disks_then, disk_line}
use Rattle.plan_text.specs.Held.{unused_zero, unused_zero_from}
use Rattle.writer.specs.Call.{disks_formed, CopyRoom, Stated}
use Rattle.writer.specs.Space.{disk_lines}
use Rattle.plan_text.specs.WriteCall.{write_call}
use Rattle.writer.proofs.Runs.{line_before}
use Rattle.writer.proofs.Calls.{room_copies}

-- What is lent from a place on is all that stands from there on.
pub part_from : (xs : List ℕ) (a : ℕ) → take (length xs - a) (drop a xs) ≡ drop a xs
part_from xs a = take_all (length xs - a) (drop a xs) (omega (arith, length-drop a xs))

-- What one disk's places are tested for.
abbrev pub disk_formed : Disk → ℕ → List ℕ → Bool
disk_formed d n places = unused_zero d.slots n places && copies_accepted d (map copy_of (front n places))

-- Two conjunctions, taken disk by disk.
by_disk : (u us x xs : Bool) → ((u && us) && (x && xs)) ≡ ((u && x) && (us && xs))
by_disk true true x xs = refl
by_disk true false true xs = refl
by_disk true false false xs = refl
by_disk false us x xs = refl

-- The tests from a disk on: its own, then those from the next disk on.
formed_from :
    (rack : List Disk) (copies counts : List ℕ) (d : ℕ) → d < length rack → d < length counts
    → disks_formed (drop d rack) copies (drop d counts)
    ≡ (disk_formed (disk_at rack d) (get_or counts d 0) copies
    && disks_formed (drop (suc d) rack) (drop (disk_at rack d).slots copies) (drop (suc d) counts))
formed_from [] copies counts d h g = absurd (omega arith)
formed_from (x ∷ xs) copies [] d h g = absurd (omega arith)
formed_from (x ∷ xs) copies (n ∷ counts) zero h g =
    let mine = map copy_of (front n copies) in
    let later = marked_from xs (drop x.slots copies) counts in
    let unused = unused_zero x.slots n copies && unused_zero_from xs (drop x.slots copies) counts in
    ap (λ (b : Bool). unused && b)
    (by_disk (disk_accepted x (map unmarked mine)) (disks_accepted xs (layout_of later)) (marks_accepted mine) (all_marks_accepted later))
    ∙ by_disk (unused_zero x.slots n copies) (unused_zero_from xs (drop x.slots copies) counts) (copies_accepted x mine)
    (disks_accepted xs (layout_of later) && all_marks_accepted later)
formed_from (x ∷ xs) copies (n ∷ counts) (suc d) h g = formed_from xs copies counts d (omega arith) (omega arith)

-- Where the unused places are zero, no disk has more copies than slots.
unused_within :
    (rack : List Disk) (copies counts : List ℕ) → unused_zero_from rack copies counts ≡ true → (d : ℕ) → d < length rack
    → get_or counts d 0 ≤ (disk_at rack d).slots
unused_within [] copies counts e d h = absurd (omega arith)
unused_within (x ∷ xs) copies [] e d h = false_true e
unused_within (x ∷ xs) copies (n ∷ counts) e zero h =
    leb-true n x.slots (both_true (leb n x.slots) _ (both_true (unused_zero x.slots n copies) _ e).0).0
unused_within (x ∷ xs) copies (n ∷ counts) e (suc d) h =
    unused_within xs (drop x.slots copies) counts (both_true (unused_zero x.slots n copies) _ e).1 d (omega arith)

-- Behind the last disk there is none.
pub no_disk : (rack : List ℕ) (d : ℕ) → length rack ≤ d → drop d (disks_in rack) ≡ []
no_disk rack d h = drop_of_length-le (disks_in rack) {i = d} (omega (arith, disks_length rack))

-- A packed rack, disk d of it, and its slots.
module _ (rack : List ℕ) (d : ℕ) (more : d < length rack) (k : ℕ) (slots : k ≡ (disk_in (get_or rack d 0)).slots) where
  -- It is one of the disks, and has these slots.
  inside : d < length (disks_in rack)
  inside = omega (arith, disks_length rack, more)

  slots_here : (disk_at (disks_in rack) d).slots ≡ k
  slots_here = ap (λ (x : Disk). x.slots) (disk_packed rack d) ∙ sym slots

  -- The next disk's first place.
  pub first_next : offset (disks_in rack) (d + 1) ≡ offset (disks_in rack) d + k
  first_next = rw add-one (omega (arith, offset_next (disks_in rack) d inside, slots_here))

  module _ (copies counts : List ℕ) where
    -- The count table has a place for it.
    pub count_place : CopyRoom (disks_in rack) copies counts → d < length counts
    count_place room = omega (arith, inside, room.count_places)

    -- Its places are in the copy table.
    pub first_room : CopyRoom (disks_in rack) copies counts → offset (disks_in rack) d + k ≤ length copies
    first_room room = omega (arith, offset_room (disks_in rack) d inside, slots_here, room.copy_places)

    -- Its copies are in its places.
    pub count_within : unused_zero_from (disks_in rack) copies counts ≡ true → get_or counts d 0 ≤ k
    count_within e = omega (arith, unused_within (disks_in rack) copies counts e d inside, slots_here)

    module _ (counted : d < length counts) (first : ℕ) where
      -- The tests from disk d on, where its places are those from `first` on: its own, then those from the next disk on.
      pub formed_next :
          disks_formed (drop d (disks_in rack)) (drop first copies) (drop d counts)
          ≡ (disk_formed (disk_in (get_or rack d 0)) (get_or counts d 0) (drop first copies)
          && disks_formed (drop (d + 1) (disks_in rack)) (drop (first + k) copies) (drop (d + 1) counts))
      formed_next =
          rw add-one (formed_from (disks_in rack) (drop first copies) counts d inside counted
          ∙ ap₂ (λ (x : Disk) (s : ℕ). disk_formed x (get_or counts d 0) (drop first copies) && disks_formed (drop (suc d) (disks_in rack)) (drop s (drop first copies)) (drop (suc d) counts)) (disk_packed rack d) slots_here
          ∙ ap (λ (behind : List ℕ). disk_formed (disk_in (get_or rack d 0)) (get_or counts d 0) (drop first copies) && disks_formed (drop (suc d) (disks_in rack)) behind (drop (suc d) counts)) (drop-drop k first copies))

      -- The copies from disk d on: its own, as they are lent, then those from the next disk on.
      pub copies_next :
          marked_from (drop d (disks_in rack)) (drop first copies) (drop d counts)
          ≡ copies_in (take (first + get_or counts d 0 - first) (drop first copies))
          ∷ marked_from (drop (d + 1) (disks_in rack)) (drop (first + k) copies) (drop (d + 1) counts)
      copies_next =
          let count : get_or counts d 0 ≡ first + get_or counts d 0 - first = omega arith in
          rw add-one (ap (map (map copy_of)) (copies_from_lem (disks_in rack) (drop first copies) counts d inside counted
          ∙ ap₂ (λ (m s : ℕ). front m (drop first copies) ∷ copies_from (drop (suc d) (disks_in rack)) (drop s (drop first copies)) (drop (suc d) counts)) count slots_here
          ∙ ap (λ (behind : List ℕ). front (first + get_or counts d 0 - first) (drop first copies) ∷ copies_from (drop (suc d) (disks_in rack)) behind (drop (suc d) counts)) (drop-drop k first copies)))

      -- So for their lines.
      pub lines_next :
          disk_lines (d + 1) (marked_from (drop d (disks_in rack)) (drop first copies) (drop d counts))
          ≡ lines (disk_line (d + 1) (copies_in (take (first + get_or counts d 0 - first) (drop first copies))) ∷ [])
          ++ disk_lines (d + 1 + 1) (marked_from (drop (d + 1) (disks_in rack)) (drop (first + k) copies) (drop (d + 1) counts))
      lines_next =
          let here = disk_line (d + 1) (copies_in (take (first + get_or counts d 0 - first) (drop first copies))) in
          let behind = marked_from (drop (d + 1) (disks_in rack)) (drop (first + k) copies) (drop (d + 1) counts) in
          ap (disk_lines (d + 1)) copies_next
          ∙ ap (λ (number : ℕ). lines (here ∷ disks_then number behind [])) (sym (add-one (d + 1)))
          ∙ sym (line_before here (disks_then (d + 1 + 1) behind []))

-- The copy table has the places of disk d, and the count table one for it.
pub record DiskRoom (rack copies counts : List ℕ) (d first : ℕ) : Type 0 where
  pub places : first + (disk_in (get_or rack d 0)).slots ≤ length copies
  pub counted : d < length counts

pub disk_room :
    (rack copies counts : List ℕ) → CopyRoom (disks_in rack) copies counts → (d first : ℕ) → d < length rack
    → first ≡ offset (disks_in rack) d → DiskRoom rack copies counts d first
disk_room rack copies counts room d first more e = record {
  places = omega (arith, e, first_room rack d more _ refl copies counts room);
  counted = count_place rack d more _ refl copies counts room;
}

-- So for the tables of a stated plan.
pub stated_room :
    (rack copies counts left : List ℕ) (films : ℕ) → Stated (write_call (disks_in rack) (tables copies counts left) films)
    → (d first : ℕ) → d < length rack → first ≡ offset (disks_in rack) d → DiskRoom rack copies counts d first
stated_room rack copies counts left films stated d first more e = disk_room rack copies counts (room_copies _ stated.room) d first more e

-- Packed disks and counts that are left, with room from `first` on: the front ones, and those behind them.
module _ {ra rb : List ℕ} {n count : ℕ} {ns counts : List ℕ} (copies : List ℕ) (first : ℕ) (disks : ra ≡ n ∷ ns) (tallies : rb ≡ count ∷ counts) where
  -- The front disk's places are in the copy table.
  pub rest_places : CopyRoom (disks_in ra) (drop first copies) rb → first ≤ length copies → first + (disk_in n).slots ≤ length copies
  rest_places room few =
      omega (arith, room.copy_places, length-drop first copies, ap (λ (xs : List ℕ). all_slots (disks_in xs)) disks)

  -- Behind it there is room for the others.
  pub rest_room :
      CopyRoom (disks_in ra) (drop first copies) rb → first ≤ length copies
      → CopyRoom (disks_in ns) (drop (first + (disk_in n).slots) copies) counts
  rest_room room few = record {
    copy_places =
        omega (
          arith,
          room.copy_places,
          length-drop first copies,
          length-drop (first + (disk_in n).slots) copies,
          ap (λ (xs : List ℕ). all_slots (disks_in xs)) disks,
        );
    count_places =
        omega (arith, room.count_places, ap (λ (xs : List ℕ). length (disks_in xs)) disks, ap length tallies);
  }

  -- The tests of those that are left: the front disk's own, then those of the others.
  pub rest_formed :
      (tested : Bool) → tested ≡ disk_formed (disk_in n) count (take (length copies - first) (drop first copies))
      → disks_formed (disks_in ra) (drop first copies) rb
      ≡ (tested && disks_formed (disks_in ns) (drop (first + (disk_in n).slots) copies) counts)
  rest_formed tested e =
      ap₂ (λ (xs ys : List ℕ). disks_formed (disks_in xs) (drop first copies) ys) disks tallies
      ∙ formed_from (disks_in (n ∷ ns)) (drop first copies) (count ∷ counts) zero (omega arith) (omega arith)
      ∙ ap (λ (behind : List ℕ). disk_formed (disk_in n) count (drop first copies) && disks_formed (disks_in ns) behind counts) (drop-drop (disk_in n).slots first copies)
      ∙ ap (λ (b : Bool). b && disks_formed (disks_in ns) (drop (first + (disk_in n).slots) copies) counts)
      (ap (λ (places : List ℕ). disk_formed (disk_in n) count places) (sym (part_from copies first)) ∙ sym e)
