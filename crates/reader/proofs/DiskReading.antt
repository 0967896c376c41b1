-- What a text says of the disks, when some of their lines were read.
use mathlib.Core.Path.{◌≡◌, refl, sym, ap, ◌∙◌}
use mathlib.Core.List.{List, [], ◌∷◌, ◌++◌, map, append_assoc}
use Prim.Native.Nat.{ℕ, suc, ◌+◌}
use native.Mathlib.Omega.{arith}
use lib.ListN.{length, length-append}
use Rattle.placement.specs.Items.{total}
use Rattle.placement.specs.Copies.{Copy, unmarked}
use Rattle.placement.specs.Rack.{Disk}
use Rattle.placement.specs.Plan.{copies_accepted}
use Rattle.plan_text.specs.Parse.{Parse, parsed, unparsed}
use Rattle.plan_text.specs.Text.{disk_head}
use Rattle.plan_text.specs.Reading.{Reading, whole, refused_after, Tail, line, line_then, joined, with_disk, copies_body, read_disks, read_left}
use Rattle.plan_text.specs.Capped.{saturated}
use Rattle.reader.specs.Disks.{prefixed}

-- At first no line was read.
pub prefixed_none : (r : Reading Tail) → r ≡ prefixed [] r
prefixed_none (whole tail) = refl
prefixed_none (refused_after n) = let e : n ≡ 0 + n = omega arith in ap {B = Reading Tail} refused_after e

-- One disk more before the rest.
prefixed_more :
    (layout : List (List Copy)) (x : List Copy) (r : Reading Tail) → prefixed layout (joined (with_disk x) r) ≡ prefixed (layout ++ (x ∷ [])) r
prefixed_more layout x (whole tail) =
    ap (λ (l : List (List Copy)). whole (record { copies = l; left = tail.left })) (sym (append_assoc layout (x ∷ []) tail.copies))
prefixed_more layout x (refused_after n) =
    let e : length layout + suc n ≡ length (layout ++ (x ∷ [])) + n = omega (arith, length-append layout (x ∷ [])) in
    ap {B = Reading Tail} refused_after e

-- The lines of the disks that are left, the first of them with number i + 1, behind those of `layout`, which serve s.
module _ (layout : List (List Copy)) (t : List ℕ) (left : List Disk) (i s : ℕ) where
  abbrev said : List Disk → Reading Tail
  said disks = prefixed layout (read_disks saturated disks (i + 1) s t)

  module _ (d : Disk) (ds : List Disk) (e : left ≡ d ∷ ds) where
    -- What its line leaves to say.
    abbrev behind : Parse (List Copy) → Reading Tail
    behind p = prefixed layout (line_then with_disk p (λ x. read_disks saturated ds (suc (i + 1)) (s + total (map unmarked x))))

    abbrev first : Parse (List Copy)
    first = line (copies_body saturated (disk_head (i + 1)) d.slots) (copies_accepted d) t

    -- The first of them has a line.
    pub disks_more :
        (x : List Copy) (after : List ℕ) → first ≡ parsed x after
        → said left ≡ prefixed (layout ++ (x ∷ [])) (read_disks saturated ds ((i + 1) + 1) (s + total (map unmarked x)) after)
    disks_more x after h =
        let one : suc (i + 1) ≡ (i + 1) + 1 = omega arith in
        ap said e
        ∙ ap behind h
        ∙ prefixed_more layout x (read_disks saturated ds (suc (i + 1)) (s + total (map unmarked x)) after)
        ∙ ap (λ (n : ℕ). prefixed (layout ++ (x ∷ [])) (read_disks saturated ds n (s + total (map unmarked x)) after)) one

    -- Or its line is refused.
    pub disks_refused : length layout ≡ i → first ≡ unparsed → said left ≡ refused_after i
    disks_refused n h =
        let none : length layout + 0 ≡ i = omega arith in
        ap said e ∙ ap behind h ∙ ap {B = Reading Tail} refused_after none

  -- Behind the last disk stands the left line.
  pub disks_done : left ≡ [] → said left ≡ prefixed layout (read_left saturated s t)
  disks_done e = ap said e
