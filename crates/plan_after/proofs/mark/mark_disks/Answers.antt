-- `plan_after::mark_disks` meets its contract: each disk is marked by what it held, until a rack ends.
use mathlib.Core.Path.{◌≡◌, refl, sym, ap, ap₂, subst, ◌∙◌}
use mathlib.Core.Bool.{true}
use mathlib.Core.Logic.{◌⊎◌, inl, inr}
use mathlib.Core.List.{List, [], ◌∷◌, map}
use Prim.Native.Nat.{ℕ, ◌+◌, ◌-◌, ◌≤◌}
use native.Mathlib.Omega.{arith}
use borrow.Rule.Slice.PartMut.{put_mid, same_len_mid}
use lib.ListN.{length, take, drop, length-drop}
use lib.Seq.{drop-drop}
use Rattle.std.specs.Slice.Iter.{iter_rest}
use Rattle.placement.specs.Items.{Item}
use Rattle.placement.specs.Copies.{unmarked, layout_of}
use Rattle.placement.specs.Packed.{disk_in, disks_in}
use Rattle.placement.specs.Tables.{copies_in}
use Rattle.placement.specs.Held.{marked_from}
use Rattle.placement.proofs.Conjunctions.{both_true}
use Rattle.plan_text.specs.Held.{unused_zero_from}
use Rattle.writer.specs.Call.{CopyRoom}
use Rattle.writer.proofs.DiskParts.{count_within}
use Rattle.plan_after.specs.Marking.{marked_entry, marked_places}
use Rattle.plan_after.proofs.Marks.{marks_on, marks_done, none_held, marks_more}
use Rattle.plan_after.proofs.mark.mark_disks.Invariants.{MarksLeft}
use Rattle.plan_after.proofs.mark.mark_disks.Goals as goal

-- A disk that is left: its places are in the copy table, and its copies among those of the earlier plan.
pub record Roomy (slots held_slots count first held_first places held_places : ℕ) : Type 0 where
  pub room : first + slots ≤ places
  pub held_room : held_first + held_slots ≤ held_places
  pub few : count ≤ held_slots

module _ (whole : List ℕ) (disk held_disk count : ℕ) (rack held counts : List ℕ) (first held_first : ℕ) (now copies : List ℕ)
    (inside : held_first ≤ length copies)
    (m : MarksLeft whole (disk ∷ rack) (held_disk ∷ held) (count ∷ counts) first now (drop held_first copies)) where
  pub roomy : Roomy (disk_in disk).slots (disk_in held_disk).slots count first held_first (length now) (length copies)
  roomy = record {
    room = omega (arith, m.room);
    held_room = omega (arith, m.held_room.copy_places, length-drop held_first copies, inside);
    few = count_within (held_disk ∷ held) 0 (omega arith) _ refl (drop held_first copies) (count ∷ counts) m.unused;
  }

  -- It is marked.
  pub left_more :
      (size slots held_slots n : ℕ) (part : List ℕ) → size ≡ slots → n ≡ count → slots ≡ (disk_in disk).slots → held_slots ≡ (disk_in held_disk).slots
      → part ≡ map (marked_entry (map unmarked (copies_in (take n (drop held_first copies))))) (take size (drop first now))
      → length (put_mid first size now part) ≡ length now
      → MarksLeft whole rack held counts (first + slots) (put_mid first size now part) (drop (held_first + held_slots) copies)
  left_more size slots held_slots n part is counted slots_is held_is marked long =
      let behind : drop held_slots (drop held_first copies) ≡ drop (held_first + held_slots) copies = drop-drop held_slots held_first copies in
      let next : drop (disk_in held_disk).slots (drop held_first copies) ≡ drop (held_first + held_slots) copies =
      ap (λ (k : ℕ). drop k (drop held_first copies)) (sym held_is) ∙ behind in
      record {
        room = omega (arith, m.room, long, slots_is);
        held_room = record {
          copy_places = omega (arith, m.held_room.copy_places, length-drop held_first copies, length-drop (held_first + held_slots) copies, held_is);
          count_places = omega (arith, m.held_room.count_places);
        };
        unused = ap (λ (cs : List ℕ). unused_zero_from (disks_in held) cs counts) (sym next) ∙ (both_true _ (unused_zero_from (disks_in held) (drop (disk_in held_disk).slots (drop held_first copies)) counts) m.unused).1;
        marks = marks_more (disk_in disk) (disks_in rack) (map unmarked (copies_in (take n (drop held_first copies))))
            (layout_of (marked_from (disks_in held) (drop (held_first + held_slots) copies) counts)) now part first size (first + slots) (is ∙ slots_is)
            (ap (λ (k : ℕ). first + k) (sym is)) (omega (arith, roomy, slots_is)) marked
            ∙ ap₂ (λ (k : ℕ) (cs : List ℕ). marks_on (disk_in disk ∷ disks_in rack) now (map unmarked (copies_in (take k (drop held_first copies))) ∷ layout_of (marked_from (disks_in held) cs counts)) first)
            counted (sym next)
            ∙ m.marks;
      }

-- Where a rack or the counts end, all is marked.
ended :
    (whole rack held counts : List ℕ) (first : ℕ) (now copies : List ℕ) → MarksLeft whole rack held counts first now copies
    → (length rack ≡ 0) ⊎ (length held ≡ 0) ⊎ (length counts ≡ 0) → now ≡ whole
ended whole [] held counts first now copies m end = marks_done [] now (layout_of (marked_from (disks_in held) copies counts)) first refl ∙ m.marks
ended whole (disk ∷ rack) [] counts first now copies m end =
    marks_done (disks_in (disk ∷ rack)) now [] first (none_held (disks_in (disk ∷ rack)) (drop first now)) ∙ m.marks
ended whole (disk ∷ rack) (held_disk ∷ held) [] first now copies m end = absurd (omega (arith, m.held_room.count_places))
ended whole (disk ∷ rack) (held_disk ∷ held) (count ∷ counts) first now copies m (inl e) = absurd (omega (arith, e))
ended whole (disk ∷ rack) (held_disk ∷ held) (count ∷ counts) first now copies m (inr (inl e)) = absurd (omega (arith, e))
ended whole (disk ∷ rack) (held_disk ∷ held) (count ∷ counts) first now copies m (inr (inr e)) = absurd (omega (arith, e))

-- The disk of a turn is the first one that is left.
turn :
    (whole rack held counts rack' held' counts' : List ℕ) (disk held_disk count first : ℕ) (now copies : List ℕ)
    → rack ≡ disk ∷ rack' → held ≡ held_disk ∷ held' → counts ≡ count ∷ counts' → MarksLeft whole rack held counts first now copies
    → MarksLeft whole (disk ∷ rack') (held_disk ∷ held') (count ∷ counts') first now copies
turn whole rack held counts rack' held' counts' disk held_disk count first now copies er eh ec m =
    subst (λ (r : List ℕ). MarksLeft whole r (held_disk ∷ held') (count ∷ counts') first now copies) er
    (subst (λ (h : List ℕ). MarksLeft whole rack h (count ∷ counts') first now copies) eh
    (subst (λ (n : List ℕ). MarksLeft whole rack held n first now copies) ec m))

pub overflow_add-end : goal.overflow_add-end
overflow_add-end c =
    let s = c.in-Some.ensures.steps in
    let r = roomy _ _ _ _ _ _ _ _ _ _ _ c.loop-disk.invariant.0 (turn _ _ _ _ _ _ _ _ _ _ _ _ _ s.0.0 s.0.1 s.1 c.loop-disk.invariant.1) in
    omega (arith, r, c.disk_slots.ensures)

pub overflow_add-held_end : goal.overflow_add-held_end
overflow_add-held_end c =
    let s = c.in-Some.ensures.steps in
    let r = roomy _ _ _ _ _ _ _ _ _ _ _ c.loop-disk.invariant.0 (turn _ _ _ _ _ _ _ _ _ _ _ _ _ s.0.0 s.0.1 s.1 c.loop-disk.invariant.1) in
    omega (arith, r)

pub offset_bounds-copies-first : goal.offset_bounds-copies-first
offset_bounds-copies-first c =
    let s = c.in-Some.ensures.steps in
    let r = roomy _ _ _ _ _ _ _ _ _ _ _ c.loop-disk.invariant.0 (turn _ _ _ _ _ _ _ _ _ _ _ _ _ s.0.0 s.0.1 s.1 c.loop-disk.invariant.1) in
    omega (arith, r, c.disk_slots.ensures)

pub slice_bounds-mark_places-end : goal.slice_bounds-mark_places-end
slice_bounds-mark_places-end c =
    let s = c.in-Some.ensures.steps in
    let r = roomy _ _ _ _ _ _ _ _ _ _ _ c.loop-disk.invariant.0 (turn _ _ _ _ _ _ _ _ _ _ _ _ _ s.0.0 s.0.1 s.1 c.loop-disk.invariant.1) in
    omega (arith, r, c.disk_slots.ensures)

pub offset_bounds-held-held_first : goal.offset_bounds-held-held_first
offset_bounds-held-held_first c =
    let s = c.in-Some.ensures.steps in
    let r = roomy _ _ _ _ _ _ _ _ _ _ _ c.loop-disk.invariant.0 (turn _ _ _ _ _ _ _ _ _ _ _ _ _ s.0.0 s.0.1 s.1 c.loop-disk.invariant.1) in
    omega (arith, r)

pub slice_bounds-mark_places-end-in-loop-disk : goal.slice_bounds-mark_places-end-in-loop-disk
slice_bounds-mark_places-end-in-loop-disk c =
    let s = c.in-Some.ensures.steps in
    let r = roomy _ _ _ _ _ _ _ _ _ _ _ c.loop-disk.invariant.0 (turn _ _ _ _ _ _ _ _ _ _ _ _ _ s.0.0 s.0.1 s.1 c.loop-disk.invariant.1) in
    omega (arith, r)

pub overflow_add-held_first : goal.overflow_add-held_first
overflow_add-held_first c =
    let s = c.in-Some.ensures.steps in
    let r = roomy _ _ _ _ _ _ _ _ _ _ _ c.loop-disk.invariant.0 (turn _ _ _ _ _ _ _ _ _ _ _ _ _ s.0.0 s.0.1 s.1 c.loop-disk.invariant.1) in
    omega (arith, r, c.disk_slots-in-loop-disk.ensures)

pub loop-disk-preserved : goal.loop-disk-preserved
loop-disk-preserved c =
    let s = c.in-Some.ensures.steps in
    let inside = c.loop-disk.invariant.0 in
    let m = turn _ _ _ _ _ _ _ _ _ _ _ _ _ s.0.0 s.0.1 s.1 c.loop-disk.invariant.1 in
    let r = roomy _ _ _ _ _ _ _ _ _ _ _ inside m in
    let first = c.loop-disk.first in
    let slots = c.disk_slots.result.0 in
    let held_first = c.loop-disk.held_first in
    let count = c.in-Some.count.now in
    let size : (first + slots) - first ≡ slots = omega arith in
    let counted : (held_first + count) - held_first ≡ count = omega arith in (
      omega (arith, r, c.disk_slots-in-loop-disk.ensures),
      left_more _ _ _ _ _ _ _ _ _ _ _ inside m _ slots c.disk_slots-in-loop-disk.result.0 _ c.mark_places.new.places size counted c.disk_slots.ensures
          c.disk_slots-in-loop-disk.ensures c.mark_places.ensures (same_len_mid first _ c.loop-disk.copies c.mark_places.new.places c.mark_places.auto.places),
    )

pub returns : goal.returns
returns c =
    let left = c.loop-disk.invariant.1 in
    elim c.in-None.ensures.steps [
      | inl u ↦ elim u.1 [
        | inl v ↦ ended _ _ _ _ _ _ _ left (inl v.1.0)
        | inr v ↦ ended _ _ _ _ _ _ _ left (inr (inl v.1.0))
      ]
      | inr u ↦ ended _ _ _ _ _ _ _ left (inr (inr u.1.0))
    ]
