-- The laws of reading for the whole text of a plan, line by line from the last one.
use mathlib.Core.Path.{◌≡◌, refl, ap}
use mathlib.Core.List.{List, [], ◌∷◌, ◌++◌, map}
use Prim.Native.Nat.{ℕ, suc, ◌+◌}
use native.Mathlib.Omega.{arith}
use Rattle.placement.specs.Items.{total}
use Rattle.placement.specs.Copies.{unmarked, layout_of}
use Rattle.placement.specs.Method.{served}
use Rattle.placement.specs.Rack.{Disk, rack_of, rack_accepted}
use Rattle.placement.specs.Plan.{copies_accepted, left_accepted, most_left, well_formed}
use Rattle.placement.specs.WellFormed.{Each}
use Rattle.placement.proofs.Conjunctions.{both_true, and_holds}
use Rattle.placement.proofs.DiskRanges.{DiskInRange, accepted_range}
use Rattle.plan_text.specs.Text.{line_feed, first_line, disk_head, left_head, left_line, served_line, lines, disks_then, text_of}
use Rattle.plan_text.specs.Reading.{Tail, read_disks, with_rack, plan_read_with}
use Rattle.plan_text.proofs.Numbers.{Faithful}
use Rattle.plan_text.proofs.Grammar.{Grammar, Joins, line_of}
use Rattle.plan_text.proofs.LineThen.{grammar_then}
use Rattle.plan_text.proofs.OneLine.{disk_one_line, left_one_line}
use Rattle.plan_text.proofs.Bodies.{pairs_body_lem, copies_body_lem}
use Rattle.plan_text.proofs.Limits.{disk_few, left_few}
use Rattle.plan_text.proofs.FirstLine.{first_line_lem}
use Rattle.plan_text.proofs.LastLines.{served_grammar}
use Rattle.plan_text.proofs.Tails.{tail_accepted, tail_text, left_joins, disk_joins}

-- The lines of the disks and what follows them.
disks_grammar : {cap : ℕ → ℕ} → Faithful cap → (rack : List Disk) → Each DiskInRange rack → (number s : ℕ)
    → Grammar (tail_accepted rack) (tail_text number s) (read_disks cap rack number s)
disks_grammar f [] each number s =
    grammar_then (line_of left_accepted (pairs_body_lem f left_head most_left) left_few left_one_line)
    (λ left e. served_grammar s (total left)) (left_joins number s)
disks_grammar f (d ∷ ds) each number s =
    grammar_then
    (line_of (copies_accepted d) (copies_body_lem f (disk_head number) d.slots) (disk_few d (omega (arith, each.0.load))) (disk_one_line number))
    (λ copies e. disks_grammar f ds each.1 (suc number) (s + total (map unmarked copies))) (disk_joins d ds number s)

-- A plan is its rack's line and what stands behind it.
plan_joins : Joins rack_accepted first_line tail_accepted (λ rack. tail_text 1 0) well_formed text_of with_rack
unfolding text_of
plan_joins = record {
  first = (rack_of 1 1 1, refl);
  both = λ rack tail p q. and_holds (rack_accepted rack) (tail_accepted rack tail) p q;
  split = λ p ok.
      let tail : Tail = record { copies = p.copies; left = p.left } in
      let parts = both_true (rack_accepted p.rack) (tail_accepted p.rack tail) ok in
      (p.rack, tail, parts.0, parts.1, refl);
  text = λ rack tail e.
      let sum : served (layout_of tail.copies) ≡ 0 + served (layout_of tail.copies) = omega arith in
      ap (λ (x : ℕ). first_line rack ++ (line_feed ∷ behind tail x)) sum;
}
  where
    behind : Tail → ℕ → List ℕ
    behind tail s = lines (disks_then 1 tail.copies (left_line tail.left ∷ served_line s (total tail.left) ∷ []))

-- The text of a plan.
pub plan_grammar : {cap : ℕ → ℕ} → Faithful cap → Grammar well_formed text_of (plan_read_with cap)
plan_grammar f = grammar_then (first_line_lem f) (λ rack e. disks_grammar f rack (accepted_range rack e) 1 0) plan_joins
