-- The lines of a text as the runs that the writer stores.
use Rattle.std.proofs.Common.{◌≡◌, ℕ, zero, suc, ◌+◌, ◌<◌, ◌≤◌, List, [], ◌∷◌, ◌++◌, map, length, get_or, take, drop, take_all, arith, sym, refl, ap, ◌∙◌, append_assoc, add-one, drop-cons}
use Rattle.std.proofs.lemmas.Grind.{common_steps}
use Rattle.std.specs.List.{flat_map}
use Rattle.placement.specs.Items.{Item}
use Rattle.placement.specs.Copies.{Copy, copy_of}
use Rattle.placement.specs.Tables.{item_in, copy_in, copies_in}
use Rattle.placement.specs.Packed.{disks_in}
use Rattle.placement.specs.Plan.{Plan, served_of, unserved_of}
use Rattle.plan_text.specs.Ascii.{ascii}
use Rattle.plan_text.specs.Decimal.{decimal}
use Rattle.plan_text.specs.Text.{space, closed, line_feed, pair_text, pairs_text, mark_end, copy_text, spaced_text, copies_text, lines, disks_then, rack_line, disk_item, first_line, disk_line, left_line, served_line, text_of}
use Rattle.writer.specs.Space.{two_text, disk_lines}

-- What stands from i on is the element at i and what stands from i + 1 on.
pub drop_next : (l : List ℕ) (i : ℕ) → i < length l → drop i l ≡ get_or l i 0 ∷ drop (i + 1) l
drop_next l i h = rw (add-one, drop-cons l i 0)

-- The entries of a line, one behind the other, and the closing bracket.
spaced_runs : (text : ℕ → List ℕ) (es : List ℕ) → flat_map (λ e. space ∷ text e) es ++ (closed ∷ []) ≡ spaced_text text es
spaced_runs text [] = refl
spaced_runs text (x ∷ xs) = rw append_assoc (ap (λ (t : List ℕ). space ∷ (text x ++ t)) (spaced_runs text xs))

module _ (text : ℕ → List ℕ) (es : List ℕ) (i : ℕ) where
  -- One entry more.
  pub spaced_more :
      i < length es
      → flat_map (λ e. space ∷ text e) (take i es) ++ (space ∷ text (get_or es i 0)) ≡ flat_map (λ e. space ∷ text e) (take (i + 1) es)
  spaced_more h = grind (arith, common_steps)

  -- No entry more.
  pub spaced_end : length es ≤ i → flat_map (λ e. space ∷ text e) (take i es) ++ (closed ∷ []) ≡ spaced_text text es
  spaced_end h = rw (take_all i es h) (spaced_runs text es)

-- Entries stand as what they hold.
spaced_map :
    {A B : Type 0} (text : B → List ℕ) (held : A → B) (es : List A) → spaced_text (λ e. text (held e)) es ≡ spaced_text text (map held es)
spaced_map text held [] = refl
spaced_map text held (x ∷ xs) = ap (λ (t : List ℕ). space ∷ (text (held x) ++ t)) (spaced_map text held xs)

pub pairs_runs : (es : List ℕ) → spaced_text (λ e. pair_text (item_in e)) es ≡ pairs_text (map item_in es)
pairs_runs es = spaced_map pair_text item_in es

pub copies_runs : (es : List ℕ) → spaced_text (λ e. copy_text (copy_in e)) es ≡ copies_text (copies_in es)
copies_runs es = spaced_map (λ x. copy_text (copy_of x)) item_in es ∙ spaced_map copy_text copy_of (map item_in es)

-- Without a mark a copy ends in one bracket, else in `held` before it.
pub mark_none : (mark : ℕ) → mark ≡ 0 → closed ∷ [] ≡ mark_end mark
mark_none mark none = sym (ap mark_end none)

pub mark_some : (mark : ℕ) → (mark ≡ 0 → ⊥) → ascii " held)" ≡ mark_end mark
mark_some zero some = absurd (some refl)
mark_some (suc mark) some = refl

-- The rack line is five runs, and a disk's line four.
pub rack_runs :
    (d k l : ℕ) → ascii "(rack " ++ (decimal d ++ ((space ∷ []) ++ (two_text k l ++ (line_feed ∷ [])))) ≡ lines (rack_line d k l ∷ [])
rack_runs d k l = simp append_assoc

pub disk_runs :
    (n : ℕ) (copies : List Copy) → ascii "(disk " ++ (decimal n ++ (copies_text copies ++ (line_feed ∷ []))) ≡ lines (disk_line n copies ∷ [])
disk_runs n copies = simp append_assoc

-- Packed disks as pairs.
pub items_packed : (rack : List ℕ) → map item_in rack ≡ map disk_item (disks_in rack)
items_packed [] = refl
items_packed (n ∷ ns) = ap (λ (xs : List Item). item_in n ∷ xs) (items_packed ns)

-- A line stands before the lines after it.
pub line_before : (line : List ℕ) (after : List (List ℕ)) → lines (line ∷ []) ++ lines after ≡ lines (line ∷ after)
line_before line after = append_assoc line (line_feed ∷ []) (lines after)

-- The disks' lines stand before the lines after them.
disks_before :
    (number : ℕ) (copies : List (List Copy)) (after : List (List ℕ))
    → disk_lines number copies ++ lines after ≡ lines (disks_then number copies after)
disks_before number [] after = refl
disks_before number (copies ∷ rest) after =
    append_assoc (disk_line number copies) (line_feed ∷ disk_lines (suc number) rest) (lines after)
    ∙ ap (λ (t : List ℕ). disk_line number copies ++ (line_feed ∷ t)) (disks_before (suc number) rest after)

-- The text of a plan is four runs.
pub text_runs :
    (p : Plan)
    → lines (first_line p.rack ∷ []) ++ (disk_lines 1 p.copies ++ (lines (left_line p.left ∷ []) ++ lines (served_line (served_of p) (unserved_of p) ∷ [])))
    ≡ text_of p
unfolding text_of
text_runs p =
    let served = served_line (served_of p) (unserved_of p) ∷ [] in
    let after = left_line p.left ∷ served in
    ap (λ (t : List ℕ). lines (first_line p.rack ∷ []) ++ (disk_lines 1 p.copies ++ t)) (line_before (left_line p.left) served)
    ∙ ap (λ (t : List ℕ). lines (first_line p.rack ∷ []) ++ t) (disks_before 1 p.copies after)
    ∙ line_before (first_line p.rack) (disks_then 1 p.copies after)
