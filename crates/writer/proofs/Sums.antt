-- S as one sum: where the unused places are zero, the sum over all places of the rack is the sum over all copies.
use Rattle.std.proofs.Common.{◌≡◌, ℕ, ◌+◌, ◌-◌, ◌^◌, ◌<◌, ◌≤◌, true, eqb, leb, List, [], ◌∷◌, ◌++◌, map, take, drop, sym, refl, ap, ◌∙◌, arith, length-take-le, take-add, eqb-true, leb-true}
use lib.ListN.{length-map}
use Rattle.placement.specs.Items.{total}
use Rattle.placement.specs.Rack.{Disk, all_slots}
use Rattle.placement.specs.Tables.{item_in}
use Rattle.placement.specs.Method.{served}
use Rattle.placement.specs.Held.{front, copies_from}
use Rattle.placement.specs.Plan.{served_of, unserved_of}
use Rattle.placement.proofs.Conjunctions.{both_true, false_true}
use Rattle.placement.proofs.Racks.{accepted_all_slots}
use Rattle.plan_text.specs.Held.{all_zero, unused_places, unused_zero, unused_zero_from}
use Rattle.plan_text.specs.WriteCall.{WriteCall, plan_of, well_formed_call}
use Rattle.placement.proofs.MarkedCopies.{copied_served}
use Rattle.well_formed.specs.Sum.{Summed}
use Rattle.writer.specs.Call.{Stated}
use Rattle.writer.proofs.Calls.{room_copies, room_left, formed_unused}

-- Zero entries sum to zero.
zeros_sum : (es : List ℕ) → all_zero es ≡ true → total (map item_in es) ≡ 0
zeros_sum [] e = refl
zeros_sum (x ∷ es) e =
    let parts = both_true (eqb x 0) (all_zero es) e in
    omega (arith, eqb-true x 0 parts.0, zeros_sum es parts.1)

-- A sum over two runs of entries.
sum_append : (xs ys : List ℕ) → total (map item_in (xs ++ ys)) ≡ total (map item_in xs) + total (map item_in ys)
sum_append [] ys = omega arith
sum_append (x ∷ xs) ys = omega (arith, sum_append xs ys)

-- A sum over a prefix, cut in two.
sum_cut : (n m : ℕ) (es : List ℕ) → total (front (n + m) es) ≡ total (front n es) + total (front m (drop n es))
sum_cut n m es = ap (λ (l : List ℕ). total (map item_in l)) (take-add n m es) ∙ sum_append (take n es) (take m (drop n es))

-- The places of one disk sum to the viewers of its copies.
disk_sum : (k n : ℕ) (places : List ℕ) → unused_zero k n places ≡ true → total (front n places) ≡ total (front k places)
disk_sum k n places e =
    let parts = both_true (leb n k) (all_zero (unused_places k n places)) e in
    let few : n ≤ k = leb-true n k parts.0 in
    let whole : n + (k - n) ≡ k = omega arith in
    omega (
      arith,
      zeros_sum (unused_places k n places) parts.1,
      sum_cut n (k - n) places,
      ap (λ (m : ℕ). total (front m places)) whole,
    )

-- The places of all disks sum to S.
served_sum :
    (rack : List Disk) (copies counts : List ℕ) → unused_zero_from rack copies counts ≡ true
    → served (copies_from rack copies counts) ≡ total (front (all_slots rack) copies)
served_sum [] copies counts e = refl
served_sum (d ∷ ds) copies [] e = false_true e
served_sum (d ∷ ds) copies (n ∷ counts) e =
    let parts = both_true (unused_zero d.slots n copies) (unused_zero_from ds (drop d.slots copies) counts) e in
    omega (
      arith,
      disk_sum d.slots n copies parts.0,
      served_sum ds (drop d.slots copies) counts parts.1,
      sum_cut d.slots (all_slots ds) copies,
    )

module _ (c : WriteCall) (stated : Stated c) (formed : well_formed_call c ≡ true) (r : ℕ) where
  -- The sum over all places of the rack is S.
  pub served_held : (places : ℕ) → all_slots c.rack ≡ places → Summed (front places c.tables.copies) r → r ≡ served_of (plan_of c)
  served_held places same summed =
      let few = accepted_all_slots c.rack stated.accepted in
      let taken = length-take-le places c.tables.copies (omega (arith, same, (room_copies c stated.room).copy_places)) in
      summed.plain (omega (arith, same, few, taken, length-map (take places c.tables.copies) item_in))
      ∙ ap (λ (n : ℕ). total (front n c.tables.copies)) (sym same)
      ∙ sym (served_sum c.rack c.tables.copies c.tables.counts (formed_unused c formed))
      ∙ sym (copied_served (copies_from c.rack c.tables.copies c.tables.counts))

  -- The sum over the stated left places is U.
  pub unserved_held : c.left < 2 ^ 32 → Summed (front c.left c.tables.left) r → r ≡ unserved_of (plan_of c)
  unserved_held few summed =
      let taken = length-take-le c.left c.tables.left (room_left c stated.room) in
      summed.plain (omega (arith, few, taken, length-map (take c.left c.tables.left) item_in))
