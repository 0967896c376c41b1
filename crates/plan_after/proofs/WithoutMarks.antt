-- The tables with a marked plan: what they hold, and what they are without marks.
use mathlib.Core.Path.{◌≡◌, sym, ap, ap₂, ◌∙◌}
use mathlib.Core.Bool.{true}
use mathlib.Core.List.{List, [], map, ◌++◌}
use Prim.Native.Nat.{ℕ}
use lib.ListN.{length, take, drop}
use Rattle.placement.specs.Items.{Item}
use Rattle.placement.specs.Copies.{layout_of, halves_of, marked}
use Rattle.placement.specs.Rack.{all_slots}
use Rattle.placement.specs.Tables.{Tables, tables, places, written}
use Rattle.placement.specs.Plan.{Plan, disks_accepted, well_formed}
use Rattle.placement.specs.Held.{copies_held}
use Rattle.placement.specs.Records.{record_count}
use Rattle.placement.specs.Planning.{Call, layout_in, plan_after, plan_in, holding_for, holding_call}
use Rattle.placement.specs.WellFormed.{CallWellFormed}
use Rattle.placement.proofs.Formed.{plan_disks}
use Rattle.placement.proofs.MarkedCopies.{marked_layout, marked_none, halves_lengths}
use Rattle.placement.proofs.Written.{written_front, written_behind}
use Rattle.placement.proofs.ReadBack.{plan_fits, fits_length, padded_held}
use Rattle.placement.proofs.Calls.{after_well_formed}
use Rattle.plan_after.specs.After.{unmarked_entry, without_marks}
use Rattle.plan_after.proofs.MarkedTables.{places_unmarked}

-- A call that is not refused, and what the disks of an earlier plan held.
module _ (c : Call) (t : Tables) (formed : CallWellFormed c) (earlier : List (List Item)) where
  abbrev pub halves : List (List Item)
  halves = map (map halves_of) (marked earlier (layout_in c))

  -- The plan without marks is accepted, and the marked one well formed.
  pub layout_accepted : disks_accepted c.rack (layout_in c) ≡ true
  layout_accepted = ap (disks_accepted c.rack) (sym (marked_layout [] (layout_in c))) ∙ plan_disks (plan_in c) formed.plan

  after_formed : well_formed (plan_after earlier c) ≡ true
  after_formed = after_well_formed c earlier formed

  -- Its places are as many as all slots.
  pub wide : length (places c.rack halves) ≡ all_slots c.rack
  wide = fits_length c.rack halves (plan_fits (plan_after earlier c) after_formed)

  -- Without marks its tables are those of planning without an earlier text.
  copies_same :
      map unmarked_entry (take (all_slots c.rack) (written (places c.rack halves) t.copies)) ++ drop (all_slots c.rack) (written (places c.rack halves) t.copies)
      ≡ written (places c.rack (map (map halves_of) (plan_in c).copies)) t.copies
  copies_same =
      ap₂ (λ (a b : List ℕ). map unmarked_entry a ++ b) (written_front (places c.rack halves) t.copies (all_slots c.rack) wide)
      (written_behind (places c.rack halves) t.copies (all_slots c.rack) wide)
      ∙ ap₂ (λ (a : List ℕ) (n : ℕ). a ++ drop n t.copies) (places_unmarked c.rack (layout_in c) earlier layout_accepted) (sym bare)
      ∙ ap (λ (l : List (List Item)). written (places c.rack l) t.copies) (sym (marked_none (layout_in c)))
    where
      bare : length (places c.rack (layout_in c)) ≡ all_slots c.rack
      bare =
          ap (λ (l : List (List Item)). length (places c.rack l)) (sym (marked_none (layout_in c)))
          ∙ fits_length c.rack (map (map halves_of) (plan_in c).copies) (plan_fits (plan_in c) formed.plan)

  pub lengths_same : map length halves ≡ map length (map (map halves_of) (plan_in c).copies)
  lengths_same =
      halves_lengths (marked earlier (layout_in c))
      ∙ ap (map length) (marked_layout earlier (layout_in c) ∙ sym (marked_layout [] (layout_in c)))
      ∙ sym (halves_lengths (plan_in c).copies)

  pub without_marks_lem : without_marks c.rack (holding_for c (plan_after earlier c) t) ≡ holding_call c t
  without_marks_lem =
      ap₂ (λ (a b : List ℕ). tables a b (holding_call c t).left) copies_same (ap (λ (l : List ℕ). written l t.counts) lengths_same)

  -- The copies that they hold are the marked ones.
  pub copies_held_lem : copies_held c.rack (holding_for c (plan_after earlier c) t) ≡ marked earlier (layout_in c)
  copies_held_lem = ap (λ (q : Plan). q.copies) (padded_held (plan_after earlier c) after_formed (record_count c.list) t)

  -- Their layout is the same with marks and without.
  pub layout_same :
      layout_of (copies_held c.rack (holding_for c (plan_after earlier c) t)) ≡ layout_of (copies_held c.rack (without_marks c.rack (holding_for c (plan_after earlier c) t)))
  layout_same =
      ap layout_of copies_held_lem
      ∙ marked_layout earlier (layout_in c)
      ∙ sym (marked_layout [] (layout_in c))
      ∙ ap (λ (q : Plan). layout_of q.copies) (sym (padded_held (plan_in c) formed.plan (record_count c.list) t))
      ∙ ap (λ (x : Tables). layout_of (copies_held c.rack x)) (sym without_marks_lem)
