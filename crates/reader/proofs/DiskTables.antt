-- The tables when one disk more is stored.
use mathlib.Core.Path.{◌≡◌, refl, sym, ap, ◌∙◌}
use mathlib.Core.List.{List, [], ◌∷◌, ◌++◌, map, append_assoc, append-nil}
use Prim.Native.Nat.{ℕ, zero, suc, ◌+◌, ◌≤◌, ◌<◌}
use native.Mathlib.Omega.{arith}
use lib.ListN.{length, take, drop, set, replicate, length-append, length-map, length-replicate, take-append-drop, drop_of_length-le}
use borrow.Rule.Slice.PartMut.{put_mid}
use Rattle.placement.specs.Items.{Item, total}
use Rattle.placement.specs.Copies.{Copy, copy_of}
use Rattle.placement.specs.Rack.{Disk, all_slots}
use Rattle.placement.specs.Method.{served}
use Rattle.placement.specs.Tables.{entry_of, padded, places, written}
use Rattle.placement.specs.Held.{front}
use Rattle.placement.proofs.Written.{padded_length, zeros_written, written_behind, written_one, written_part}
use Rattle.placement.proofs.ReadBack.{front_length, front_entries}
use Rattle.reader.specs.Pairs.{Stored}
use Rattle.reader.specs.Disks.{Filled}

-- The places of one disk more stand behind the others.
places_end :
    (disks : List Disk) (layout : List (List Item)) (d : Disk) (x : List Item) → length layout ≡ length disks
    → places (disks ++ (d ∷ [])) (layout ++ (x ∷ [])) ≡ places disks layout ++ padded d.slots (map entry_of x)
places_end [] [] d x e = append-nil (padded d.slots (map entry_of x))
places_end [] (y ∷ layout) d x e = absurd (omega arith)
places_end (b ∷ disks) [] d x e = absurd (omega arith)
places_end (b ∷ disks) (y ∷ layout) d x e =
    ap (λ (r : List ℕ). padded b.slots (map entry_of y) ++ r) (places_end disks layout d x (omega arith))
    ∙ sym (append_assoc (padded b.slots (map entry_of y)) (places disks layout) (padded d.slots (map entry_of x)))

slots_end : (disks : List Disk) (d : Disk) → all_slots (disks ++ (d ∷ [])) ≡ all_slots disks + d.slots
slots_end [] d = omega arith
slots_end (b ∷ disks) d = omega (arith, slots_end disks d)

pub served_end : (layout : List (List Item)) (x : List Item) → served (layout ++ (x ∷ [])) ≡ served layout + total x
served_end [] x = omega arith
served_end (y ∷ layout) x = omega (arith, served_end layout x)

lengths_end : (layout : List (List Item)) (x : List Item) → map length (layout ++ (x ∷ [])) ≡ map length layout ++ (length x ∷ [])
lengths_end [] x = refl
lengths_end (y ∷ layout) x = ap (λ (r : List ℕ). length y ∷ r) (lengths_end layout x)

-- The copies of one disk more stand behind the others.
pub copied_end :
    (layout : List (List Item)) (x : List Item) → map (map copy_of) (layout ++ (x ∷ [])) ≡ map (map copy_of) layout ++ (map copy_of x ∷ [])
copied_end [] x = refl
copied_end (y ∷ layout) x = ap (λ (r : List (List Copy)). map copy_of y ∷ r) (copied_end layout x)

-- A part of a list of zeros is zeros.
part_zeros : (a k m : ℕ) → a + k ≤ m → take {A = ℕ} k (drop a (replicate m 0)) ≡ replicate k 0
part_zeros zero zero m h = refl
part_zeros zero (suc k) zero h = absurd (omega arith)
part_zeros zero (suc k) (suc m) h = ap (λ (l : List ℕ). 0 ∷ l) (part_zeros zero k m (omega arith))
part_zeros (suc a) k zero h = absurd (omega arith)
part_zeros (suc a) k (suc m) h = part_zeros a k m (omega arith)

-- One disk more, number i from 0, whose n copies stand at the front of its part, lent from place a on.
module _
    (disks : List Disk) (layout : List (List Item)) (d : Disk) (n a size i m : ℕ) (copies₀ counts₀ copies counts part : List ℕ)
    (before : Filled disks layout copies₀ counts₀ copies counts)
    (zeros : copies₀ ≡ replicate m 0)
    (first : a ≡ all_slots disks)
    (sized : size ≡ d.slots)
    (room : a + d.slots ≤ m)
    (number : i ≡ length disks)
    (counts_room : i < length counts₀)
    (stored : Stored n (take size (drop a copies)) part)
    (wide : length part ≡ d.slots)
  where
    -- The disk's copies, and its places.
    abbrev here : List Item
    here = front n part

    abbrev mine : List ℕ
    mine = padded d.slots (map entry_of here)

    lent : take size (drop a copies) ≡ replicate d.slots 0
    lent =
        ap (λ (k : ℕ). take k (drop a copies)) sized
        ∙ ap (λ (l : List ℕ). take d.slots (drop a l)) before.in_copies
        ∙ ap (take d.slots) (written_behind (places disks layout) copies₀ a (before.whole ∙ sym first))
        ∙ ap (λ (l : List ℕ). take d.slots (drop a l)) zeros
        ∙ part_zeros a d.slots m room

    few : n ≤ d.slots
    few = omega (arith, stored.few, ap length lent, length-replicate {A = ℕ} d.slots 0)

    count : length here ≡ n
    count = front_length n part (omega (arith, few))

    same_count : length (map entry_of here) ≡ n
    same_count = length-map here entry_of ∙ count

    mine_length : length mine ≡ d.slots
    mine_length = padded_length d.slots (map entry_of here) (omega (arith, same_count, few))

    -- The part holds them.
    part_mine : part ≡ mine
    part_mine =
        sym (take-append-drop n part)
        ∙ ap (λ (l : List ℕ). l ++ drop n part) (sym (front_entries n part))
        ∙ ap (λ (l : List ℕ). map entry_of here ++ l) (stored.kept ∙ ap (drop n) lent)
        ∙ ap (λ (k : ℕ). map entry_of here ++ drop k (replicate d.slots 0)) (sym same_count)
        ∙ zeros_written d.slots (map entry_of here)

    part_written : part ≡ written mine (take size (drop a copies))
    part_written =
        let none : length (take size (drop a copies)) ≤ length mine =
        omega (arith, ap length lent, length-replicate {A = ℕ} d.slots 0, mine_length) in
        part_mine ∙ sym (append-nil mine) ∙ ap (λ (l : List ℕ). mine ++ l) (sym (drop_of_length-le (take size (drop a copies)) none))

    more_places : places (disks ++ (d ∷ [])) (layout ++ (here ∷ [])) ≡ places disks layout ++ mine
    more_places = places_end disks layout d here before.number

    pub filled_more :
        Filled (disks ++ (d ∷ [])) (layout ++ (here ∷ [])) copies₀ counts₀ (put_mid a size copies part) (set counts i n)
    filled_more = record {
      number = omega (arith, length-append layout (here ∷ []), length-append disks (d ∷ []), before.number);
      whole =
          omega (
            arith,
            ap length more_places,
            length-append (places disks layout) mine,
            before.whole,
            mine_length,
            slots_end disks d,
          );
      in_copies =
          written_part (places disks layout) mine copies₀ copies part a size before.in_copies (before.whole ∙ sym first)
          (omega (arith, mine_length)) part_written
          ∙ ap (λ (l : List ℕ). written l copies₀) (sym more_places);
      in_counts =
          written_one (map length layout) counts₀ counts i n before.in_counts (length-map layout length ∙ before.number ∙ sym number) counts_room
          ∙ ap (λ (k : ℕ). written (map length layout ++ (k ∷ [])) counts₀) (sym count)
          ∙ ap (λ (l : List ℕ). written l counts₀) (sym (lengths_end layout here));
    }
