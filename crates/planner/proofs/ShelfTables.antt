-- The tables with a layout, as shelving finds them and leaves them.
use mathlib.Core.Path.{◌≡◌, sym, ap, ap₂, ◌∙◌, subst}
use mathlib.Core.Bool.{true}
use mathlib.Core.List.{List, [], ◌∷◌, ◌++◌, map, append_assoc}
use Prim.Native.Nat.{ℕ, ◌≤◌}
use native.Mathlib.Omega.{arith}
use lib.ListN.{length, take, drop, length-map}
use lib.Seq.{take_at}
use Rattle.placement.specs.Items.{Item}
use Rattle.placement.specs.Rack.{Disk}
use Rattle.placement.specs.Plan.{disk_accepted, disks_accepted}
use Rattle.placement.specs.Tables.{entry_of, padded, written, places}
use Rattle.placement.specs.Held.{copies_from}
use Rattle.placement.proofs.Conjunctions.{both_true, false_true}
use Rattle.placement.proofs.Formed.{disk_count, disks_length}
use Rattle.placement.proofs.Written.{padded_length, padded_front, written_behind}
use Rattle.placement.proofs.ReadBack.{places_behind, places_length, copies_read_back}
use Rattle.planner.specs.Shelf.{Laid}

-- Accepted copies in their places, zero entries behind those of each disk.
laid_places :
    (rack : List Disk) (layout : List (List Item)) (copies counts : List ℕ) → disks_accepted rack layout ≡ true
    → Laid rack (places rack layout ++ copies) (map length layout ++ counts)
laid_places [] layout copies counts e = tt
laid_places (d ∷ ds) [] copies counts e = false_true e
laid_places (d ∷ ds) (mine ∷ rest) copies counts e =
    subst (λ (l : List ℕ). Laid (d ∷ ds) l (length mine ∷ (map length rest ++ counts)))
    (sym (append_assoc (padded d.slots (map entry_of mine)) (places ds rest) copies))
    (fits, zeros, subst (λ (l : List ℕ). Laid ds l (map length rest ++ counts)) (sym (places_behind d mine more fits)) (laid_places ds rest copies counts both.1))
  where
    both : (disk_accepted d mine ≡ true) × (disks_accepted ds rest ≡ true)
    both = both_true (disk_accepted d mine) (disks_accepted ds rest) e

    fits : length mine ≤ d.slots
    fits = disk_count d mine both.0

    more : List ℕ
    more = places ds rest ++ copies

    zeros :
        take d.slots (padded d.slots (map entry_of mine) ++ more)
        ≡ padded d.slots (take (length mine) (padded d.slots (map entry_of mine) ++ more))
    zeros =
        take_at (padded d.slots (map entry_of mine)) more d.slots
        (padded_length d.slots (map entry_of mine) (omega (arith, length-map mine entry_of, fits)))
        ∙ ap (padded d.slots) (sym (padded_front d.slots (map entry_of mine) more (length mine) (length-map mine entry_of)))

-- A table that is overwritten twice with lists of one length is overwritten with the second.
written_twice : (new first old : List ℕ) → length new ≡ length first → written new (written first old) ≡ written new old
written_twice new first old e =
    ap (λ (l : List ℕ). new ++ l) (written_behind first old (length new) (sym e))

-- Tables that are overwritten with accepted copies,
module _
    (rack : List Disk) (layout : List (List Item)) (e : disks_accepted rack layout ≡ true) (copies₀ counts₀ : List ℕ) {copies counts : List ℕ}
    (copies_are : copies ≡ written (places rack layout) copies₀) (counts_are : counts ≡ written (map length layout) counts₀)
  where
    -- hold them,
    pub layout_held : copies_from rack copies counts ≡ layout
    layout_held =
        ap₂ (λ (a b : List ℕ). copies_from rack a b) copies_are counts_are
        ∙ copies_read_back rack layout (drop (length (places rack layout)) copies₀) (drop (length (map length layout)) counts₀) e

    -- with zero entries behind those of each disk,
    pub layout_laid : Laid rack copies counts
    layout_laid =
        subst (λ (l : List ℕ). Laid rack l counts) (sym copies_are)
        (subst (λ (l : List ℕ). Laid rack (written (places rack layout) copies₀) l) (sym counts_are)
        (laid_places rack layout (drop (length (places rack layout)) copies₀) (drop (length (map length layout)) counts₀) e))

    -- and overwritten with others again, hold those.
    module _ (others : List (List Item)) (f : disks_accepted rack others ≡ true) where
      pub copies_again : {exit : List ℕ} → exit ≡ written (places rack others) copies → exit ≡ written (places rack others) copies₀
      copies_again again =
          again ∙ ap (written (places rack others)) copies_are
          ∙ written_twice (places rack others) (places rack layout) copies₀ (places_length rack others f ∙ sym (places_length rack layout e))

      pub counts_again : {exit : List ℕ} → exit ≡ written (map length others) counts → exit ≡ written (map length others) counts₀
      counts_again again =
          again ∙ ap (written (map length others)) counts_are
          ∙ written_twice (map length others) (map length layout) counts₀
          (length-map others length ∙ disks_length rack others f ∙ sym (length-map layout length ∙ disks_length rack layout e))
