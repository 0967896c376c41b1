-- The first line: what is read in either form is the line of a rack that is accepted, and the line of such a rack is read.
use mathlib.Core.Path.{◌≡◌, refl, sym, ap, ◌∙◌}
use mathlib.Core.Bool.{Bool, true, false, not, cond, ◌&&◌}
use mathlib.Core.List.{List, [], ◌∷◌, ◌++◌, map}
use Prim.Native.Nat.{ℕ, zero, suc}
use native.Mathlib.Omega.{arith}
use borrow.Author.Tests.{not-true}
use lib.ListN.{length}
use Rattle.placement.specs.Items.{Item}
use Rattle.placement.specs.Rack.{Disk, first_slots, first_load, most_disks, rack_accepted, all_equal}
use Rattle.placement.proofs.Tests.{by_test}
use Rattle.placement.proofs.Conjunctions.{both_true, and_holds, false_true, cond_true, cond_false}
use Rattle.placement.proofs.Racks.{rack_length, rack_equal, rack_accepted_lem, equal_disks}
use Rattle.plan_text.specs.Text.{line_feed, rack_line, pairs_text, disk_item, mixed_head, mixed_line, first_line}
use Rattle.plan_text.specs.Parse.{Parse, parsed, next, or_else}
use Rattle.plan_text.specs.Reading.{Sizes, line, sizes_accepted, rack_in, rack_body, pairs_body, item_disk, mixed_accepted, equal_read, mixed_read, rack_read}
use Rattle.plan_text.proofs.Numbers.{Faithful}
use Rattle.plan_text.proofs.Pieces.{parsed_value, parsed_rest, next_parsed, or_else_parsed}
use Rattle.plan_text.proofs.Grammar.{Line, line_of}
use Rattle.plan_text.proofs.Upto.{one_line}
use Rattle.plan_text.proofs.OneLine.{rack_one_line, mixed_one_line}
use Rattle.plan_text.proofs.Bodies.{pairs_body_lem, rack_body_lem, sizes_line}
use Rattle.plan_text.proofs.Limits.{sizes_disks, sizes_slots, sizes_streams, mixed_few}

-- Disks as pairs and back, and pairs as disks and back.
items_disks : (rack : List Disk) → map item_disk (map disk_item rack) ≡ rack
items_disks [] = refl
items_disks (d ∷ ds) = ap {B = List Disk} (λ r. d ∷ r) (items_disks ds)

disks_items : (xs : List Item) → map disk_item (map item_disk xs) ≡ xs
disks_items [] = refl
disks_items (x ∷ xs) = ap {B = List Item} (λ r. x ∷ r) (disks_items xs)

-- The line of a rack of equal disks says its numbers.
line_said : (n k l : ℕ) → sizes_accepted (record { disks = n; slots = k; streams = l }) ≡ true
    → first_line (rack_in (record { disks = n; slots = k; streams = l })) ≡ rack_line n k l
line_said zero k l e = false_true e
line_said (suc n) k l e =
    cond_true (all_equal (rack_in (record { disks = suc n; slots = k; streams = l }))) _ _ (rack_equal (suc n) k l)
    ∙ ap (λ (m : ℕ). rack_line m k l) (rack_length (suc n) k l)

-- The numbers of a rack.
abbrev sizes_of : List Disk → Sizes
sizes_of rack = record { disks = length rack; slots = first_slots rack; streams = first_load rack }

-- The line of a mixed rack says its pairs.
mixed_said : (xs : List Item) → all_equal (map item_disk xs) ≡ false → first_line (map item_disk xs) ≡ mixed_head ++ pairs_text xs
mixed_said xs e =
    cond_false (all_equal (map item_disk xs)) _ _ e ∙ ap (λ (ys : List Item). mixed_head ++ pairs_text ys) (disks_items xs)

-- Neither form has a line feed inside.
first_one_line : (rack : List Disk) → one_line (first_line rack) ≡ true
first_one_line rack = go (all_equal rack)
  where
    go : (b : Bool) → one_line (cond b (rack_line (length rack) (first_slots rack) (first_load rack)) (mixed_line rack)) ≡ true
    go true = rack_one_line (length rack) (first_slots rack) (first_load rack)
    go false = mixed_one_line (map disk_item rack)

module _ {cap : ℕ → ℕ} (f : Faithful cap) where
  -- The two forms as lines.
  equal_line : Line (line (rack_body cap) sizes_accepted) sizes_line sizes_accepted
  equal_line =
      line_of sizes_accepted (rack_body_lem f)
      (λ z e. (omega (arith, sizes_disks z e), omega (arith, sizes_slots z e), omega (arith, sizes_streams z e)))
      (λ z. rack_one_line z.disks z.slots z.streams)

  mixed_line_lem : Line (line (pairs_body cap mixed_head most_disks) mixed_accepted) (λ xs. mixed_head ++ pairs_text xs) mixed_accepted
  mixed_line_lem = line_of mixed_accepted (pairs_body_lem f mixed_head most_disks) mixed_few mixed_one_line

  -- What is read as equal disks is accepted, and is their line.
  equal_sound : (t : List ℕ) (rack : List Disk) (r : List ℕ) → equal_read cap t ≡ parsed rack r
      → (rack_accepted rack ≡ true) × (t ≡ first_line rack ++ (line_feed ∷ r))
  equal_sound t rack r e =
      next_parsed (line (rack_body cap) sizes_accepted t) _ e (λ z t₁ e₁ d₁.
      let same : rack_in z ≡ rack = parsed_value d₁ in
      let ok = equal_line.passes t z t₁ e₁ in (
        ap rack_accepted (sym same) ∙ rack_accepted_lem z.disks z.slots z.streams ∙ ok,
        equal_line.sound t z t₁ e₁
            ∙ ap (λ (s : List ℕ). s ++ (line_feed ∷ t₁)) (sym (line_said z.disks z.slots z.streams ok))
            ∙ ap (λ (x : List Disk). first_line x ++ (line_feed ∷ t₁)) same
            ∙ ap (λ (s : List ℕ). first_line rack ++ (line_feed ∷ s)) (parsed_rest d₁),
      ))

  -- So is what is read as unequal ones.
  mixed_sound : (t : List ℕ) (rack : List Disk) (r : List ℕ) → mixed_read cap t ≡ parsed rack r
      → (rack_accepted rack ≡ true) × (t ≡ first_line rack ++ (line_feed ∷ r))
  mixed_sound t rack r e =
      next_parsed (line (pairs_body cap mixed_head most_disks) mixed_accepted t) _ e (λ xs t₁ e₁ d₁.
      let same : map item_disk xs ≡ rack = parsed_value d₁ in
      let ok = both_true (rack_accepted (map item_disk xs)) (not (all_equal (map item_disk xs))) (mixed_line_lem.passes t xs t₁ e₁) in (
        ap rack_accepted (sym same) ∙ ok.0,
        mixed_line_lem.sound t xs t₁ e₁
            ∙ ap (λ (s : List ℕ). s ++ (line_feed ∷ t₁)) (sym (mixed_said xs (not-true (all_equal (map item_disk xs)) ok.1)))
            ∙ ap (λ (x : List Disk). first_line x ++ (line_feed ∷ t₁)) same
            ∙ ap (λ (s : List ℕ). first_line rack ++ (line_feed ∷ s)) (parsed_rest d₁),
      ))

  either_sound : (t : List ℕ) (rack : List Disk) (r : List ℕ) → rack_read cap t ≡ parsed rack r
      → (rack_accepted rack ≡ true) × (t ≡ first_line rack ++ (line_feed ∷ r))
  either_sound t rack r e = or_else_parsed (equal_read cap t) (mixed_read cap t) e (equal_sound t rack r) (mixed_sound t rack r)

  module _ (rack : List Disk) (r : List ℕ) (ok : rack_accepted rack ≡ true) where
    -- The line of equal disks is read.
    equal_complete : all_equal rack ≡ true → rack_read cap (first_line rack ++ (line_feed ∷ r)) ≡ parsed rack r
    equal_complete equal =
        ap (λ (s : List ℕ). rack_read cap (s ++ (line_feed ∷ r))) (cond_true (all_equal rack) _ _ equal)
        ∙ ap (λ (p : Parse Sizes). or_else (next p (λ z t. parsed (rack_in z) t)) (mixed_read cap (sizes_line (sizes_of rack) ++ (line_feed ∷ r))))
        (equal_line.complete (sizes_of rack) r accepted)
        ∙ ap (λ (x : List Disk). parsed x r) (sym (equal_disks rack equal))
      where
        accepted : sizes_accepted (sizes_of rack) ≡ true
        accepted =
            sym (rack_accepted_lem (length rack) (first_slots rack) (first_load rack))
            ∙ ap rack_accepted (sym (equal_disks rack equal))
            ∙ ok

    -- The line of unequal ones is no line of equal disks, and is read.
    mixed_complete : all_equal rack ≡ false → rack_read cap (first_line rack ++ (line_feed ∷ r)) ≡ parsed rack r
    mixed_complete unequal =
        ap (λ (s : List ℕ). rack_read cap (s ++ (line_feed ∷ r))) (cond_false (all_equal rack) _ _ unequal)
        ∙ ap (λ (p : Parse (List Item)). next p (λ xs t. parsed (map item_disk xs) t)) (mixed_line_lem.complete (map disk_item rack) r accepted)
        ∙ ap (λ (x : List Disk). parsed x r) (items_disks rack)
      where
        accepted : mixed_accepted (map disk_item rack) ≡ true
        accepted =
            ap (λ (x : List Disk). rack_accepted x && not (all_equal x)) (items_disks rack)
            ∙ and_holds (rack_accepted rack) (not (all_equal rack)) ok (ap not unequal)

  -- The first line of a text.
  pub first_line_lem : Line (rack_read cap) first_line rack_accepted
  first_line_lem = record {
    passes = λ t rack r e. (either_sound t rack r e).0;
    sound = λ t rack r e. (either_sound t rack r e).1;
    complete = λ rack r ok. by_test (all_equal rack) (equal_complete rack r ok) (mixed_complete rack r ok);
    one_line = first_one_line;
  }
