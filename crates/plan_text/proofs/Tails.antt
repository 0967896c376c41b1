-- What stands behind the rack's line as one disk and the rest, or as the left line and the rest.
use mathlib.Core.Path.{◌≡◌, refl, ap}
use mathlib.Core.Bool.{Bool, true, ◌&&◌}
use mathlib.Core.List.{List, [], ◌∷◌, ◌++◌, map}
use Prim.Native.Nat.{ℕ, suc, ◌+◌}
use native.Mathlib.Omega.{arith}
use borrow.Author.Tests.{le-leb}
use lib.Dec.{leb}
use Rattle.placement.specs.Items.{Item, total}
use Rattle.placement.specs.Copies.{Copy, unmarked, layout_of}
use Rattle.placement.specs.Rack.{Disk}
use Rattle.placement.specs.Method.{served}
use Rattle.placement.specs.Plan.{disk_accepted, disks_accepted, marks_accepted, copies_accepted, all_marks_accepted, left_accepted}
use Rattle.placement.proofs.Conjunctions.{both_true, and_holds, false_true}
use Rattle.plan_text.specs.Text.{line_feed, disk_head, left_line, served_line, lines, disks_then, copies_text}
use Rattle.plan_text.specs.Reading.{Tail, with_disk}
use Rattle.plan_text.proofs.Grammar.{Joins}

-- What stands behind the rack's line is accepted.
abbrev pub tail_accepted : List Disk → Tail → Bool
tail_accepted rack tail =
    disks_accepted rack (layout_of tail.copies) && (all_marks_accepted tail.copies && left_accepted tail.left)

-- Its text, with disks numbered from `number` on, where the disks before serve s.
abbrev pub tail_text : ℕ → ℕ → Tail → List ℕ
tail_text number s tail =
    lines (disks_then number tail.copies (left_line tail.left ∷ served_line (s + served (layout_of tail.copies)) (total tail.left) ∷ []))

-- Without disks: the left line, then the served line.
pub left_joins : (number s : ℕ)
    → Joins {B = Unit {0}} left_accepted left_line (λ left u. true) (λ left u. served_line s (total left) ++ (line_feed ∷ []))
    (tail_accepted []) (tail_text number s) (λ left u. record { copies = []; left = left })
left_joins number s = record {
  first = ([], refl);
  both = λ left u p q. p;
  split = λ c ok. split c.copies c.left ok;
  text = λ left u e.
      let none' : s + 0 ≡ s = omega arith in
      ap (λ (x : ℕ). left_line left ++ (line_feed ∷ (served_line x (total left) ++ (line_feed ∷ [])))) none';
}
  where
    split : (copies : List (List Copy)) (left : List Item) → tail_accepted [] (record { copies = copies; left = left }) ≡ true
        → (a : List Item) × (b : Unit {0}) × (left_accepted a ≡ true) × (true ≡ true)
        × (◌≡◌ {A = Tail} (record { copies = []; left = a }) (record { copies = copies; left = left }))
    split [] left ok = (left, tt, ok, refl, refl)
    split (x ∷ xs) left ok = false_true ok

-- With disks: the first one, then what stands behind it.
pub disk_joins : (d : Disk) (ds : List Disk) (number s : ℕ)
    → Joins (copies_accepted d) (λ copies. disk_head number ++ copies_text copies) (λ copies rest. tail_accepted ds rest)
    (λ copies rest. tail_text (suc number) (s + total (map unmarked copies)) rest) (tail_accepted (d ∷ ds)) (tail_text number s) with_disk
disk_joins d ds number s = record {
  first = (
    [],
    and_holds (disk_accepted d []) true
        (and_holds (leb 0 d.slots) (leb 0 d.load) (le-leb 0 d.slots (omega arith)) (le-leb 0 d.load (omega arith))) refl,
  );
  both = λ a b p q.
      let mine = both_true (disk_accepted d (map unmarked a)) (marks_accepted a) p in
      let rest = both_true (disks_accepted ds (layout_of b.copies)) (all_marks_accepted b.copies && left_accepted b.left) q in
      let marks = both_true (all_marks_accepted b.copies) (left_accepted b.left) rest.1 in
      and_holds (disk_accepted d (map unmarked a) && disks_accepted ds (layout_of b.copies)) _
      (and_holds (disk_accepted d (map unmarked a)) (disks_accepted ds (layout_of b.copies)) mine.0 rest.0)
      (and_holds (marks_accepted a && all_marks_accepted b.copies) (left_accepted b.left)
      (and_holds (marks_accepted a) (all_marks_accepted b.copies) mine.1 marks.0) marks.1);
  split = λ c ok. split c.copies c.left ok;
  text = λ copies rest e.
      let here = total (map unmarked copies) in
      let later = served (layout_of rest.copies) in
      let sums : s + (here + later) ≡ s + here + later = omega arith in
      ap (λ (x : ℕ). (disk_head number ++ copies_text copies)
      ++ (line_feed ∷ lines (disks_then (suc number) rest.copies (left_line rest.left ∷ served_line x (total rest.left) ∷ [])))) sums;
}
  where
    split : (copies : List (List Copy)) (left : List Item) → tail_accepted (d ∷ ds) (record { copies = copies; left = left }) ≡ true
        → (a : List Copy) × (b : Tail) × (copies_accepted d a ≡ true) × (tail_accepted ds b ≡ true)
        × (with_disk a b ≡ record { copies = copies; left = left })
    split [] left ok = false_true ok
    split (x ∷ xs) left ok =
        let parts = both_true (disk_accepted d (map unmarked x) && disks_accepted ds (layout_of xs)) _ ok in
        let disks = both_true (disk_accepted d (map unmarked x)) (disks_accepted ds (layout_of xs)) parts.0 in
        let rest = both_true (marks_accepted x && all_marks_accepted xs) (left_accepted left) parts.1 in
        let marks = both_true (marks_accepted x) (all_marks_accepted xs) rest.0 in (
          x,
          record { copies = xs; left = left },
          and_holds (disk_accepted d (map unmarked x)) (marks_accepted x) disks.0 marks.0,
          and_holds (disks_accepted ds (layout_of xs)) _ disks.1 (and_holds (all_marks_accepted xs) (left_accepted left) marks.1 rest.1),
          refl,
        )
