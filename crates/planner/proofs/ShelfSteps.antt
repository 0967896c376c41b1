-- The tables that the method has filled, and the films of demand 0 shelved in them: they hold the copies of the plan.
use mathlib.Core.Path.{◌≡◌, sym, ap, ap₂, ◌∙◌}
use mathlib.Core.Bool.{true}
use mathlib.Core.List.{List, [], map, ◌++◌}
use Prim.Native.Nat.{ℕ}
use lib.ListN.{length}
use Rattle.placement.specs.Items.{Item, list_of}
use Rattle.placement.specs.Method.{placement, remaining}
use Rattle.placement.specs.FillingOrder.{filling}
use Rattle.placement.specs.Shelf.{shelf_films, shelved, unshelved}
use Rattle.placement.specs.Tables.{Tables, written, places}
use Rattle.placement.specs.Held.{copies_from}
use Rattle.placement.specs.Plan.{disks_accepted}
use Rattle.placement.specs.Planning.{Call, records_in, placed_in, layout_in, left_in, plan_in}
use Rattle.placement.specs.WellFormed.{CallWellFormed}
use Rattle.placement.proofs.Listed.{list_of_distinct}
use Rattle.placement.proofs.Formed.{plan_disks}
use Rattle.placement.proofs.MarkedCopies.{marked_layout}
use Rattle.placement.proofs.NumberOrder.{accepted_by_number}
use Rattle.placement.proofs.WellFormed.{accepted_usable, list_of_entries, placement_accepted}
use Rattle.planner.specs.Shelf.{Laid}
use Rattle.planner.proofs.ShelfTables.{layout_held, layout_laid, copies_again, counts_again}

module _ (c : Call) (formed : CallWellFormed c) where
  -- The method's copies are accepted.
  placed_accepted : disks_accepted c.rack (placed_in c) ≡ true
  placed_accepted =
      accepted_by_number c.rack (placement (filling c.rack) (list_of (records_in c)))
      (placement_accepted (filling c.rack) (list_of (records_in c)) (accepted_usable c.rack formed.rack)
      (list_of_entries (records_in c) formed.accepted) (list_of_distinct (records_in c) formed.accepted.distinct))

  -- So is the plan, shelf copies included.
  plan_accepted : disks_accepted c.rack (layout_in c) ≡ true
  plan_accepted = ap (disks_accepted c.rack) (sym (marked_layout [] (layout_in c))) ∙ plan_disks (plan_in c) formed.plan

  -- The tables that the method has filled,
  module _
      (t : Tables) {copies counts : List ℕ} (copies_are : copies ≡ written (places c.rack (placed_in c)) t.copies)
      (counts_are : counts ≡ written (map length (placed_in c)) t.counts)
    where
      -- have zero entries behind each disk's copies,
      pub filled_laid : Laid c.rack copies counts
      filled_laid = layout_laid c.rack (placed_in c) placed_accepted t.copies t.counts copies_are counts_are

      -- and with the films of demand 0 shelved hold the copies of the plan.
      module _ {films : List Item} (films_are : films ≡ shelf_films (records_in c)) where
        layout_is : shelved c.rack films (copies_from c.rack copies counts) ≡ layout_in c
        layout_is =
            ap₂ (shelved c.rack) films_are
            (layout_held c.rack (placed_in c) placed_accepted t.copies t.counts copies_are counts_are)

        pub copies_planned :
            {exit : List ℕ} → exit ≡ written (places c.rack (shelved c.rack films (copies_from c.rack copies counts))) copies
            → exit ≡ written (places c.rack (layout_in c)) t.copies
        copies_planned shelving =
            copies_again c.rack (placed_in c) placed_accepted t.copies t.counts copies_are counts_are (layout_in c)
            plan_accepted
            (shelving ∙ ap (λ (layout : List (List Item)). written (places c.rack layout) copies) layout_is)

        pub counts_planned :
            {exit : List ℕ} → exit ≡ written (map length (shelved c.rack films (copies_from c.rack copies counts))) counts
            → exit ≡ written (map length (layout_in c)) t.counts
        counts_planned shelving =
            counts_again c.rack (placed_in c) placed_accepted t.copies t.counts copies_are counts_are (layout_in c)
            plan_accepted
            (shelving ∙ ap (λ (layout : List (List Item)). written (map length layout) counts) layout_is)

        -- The films without a slot, and what the method leaves, are what is left.
        pub left_is :
            {rest last : List Item} → rest ≡ unshelved c.rack films (copies_from c.rack copies counts)
            → last ≡ remaining (filling c.rack) (list_of (records_in c)) → rest ++ last ≡ left_in c
        left_is without remains =
            ap₂ ◌++◌
            (without
            ∙ ap₂ (unshelved c.rack) films_are
            (layout_held c.rack (placed_in c) placed_accepted t.copies t.counts copies_are counts_are))
            remains
