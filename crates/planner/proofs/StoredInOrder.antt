-- Disks filled in any order: each writes its own stretch of the copy table and its own count, so that the tables are those by number.
use mathlib.Core.Path.{◌≡◌, refl, sym, ap, ap₂, ◌∙◌}
use mathlib.Core.List.{List, [], ◌∷◌, ◌++◌, map, append_assoc}
use Prim.Native.Nat.{ℕ, zero, suc, ◌+◌, ◌-◌, ◌≤◌, ◌<◌}
use native.Mathlib.Nat.{zero-add, add_assoc}
use native.Mathlib.Omega.{arith}
use borrow.Rule.Slice.PartMut.{put_mid}
use lib.ListN.{length, take, drop, get_or, set, take-append-drop, length-take, length-drop, length-map, length-append}
use lib.Seq.{take_at, drop_at, drop-drop, take-add}
use Rattle.placement.specs.Items.{Item}
use Rattle.placement.specs.Rack.{Disk, all_slots}
use Rattle.placement.specs.FillingOrder.{insert_at, remove_at, filling_place, filling, by_number}
use Rattle.placement.specs.Tables.{entry_of, padded, written, places}
use Rattle.placement.proofs.InsertedAt.{Pairwise, pair_out}
use Rattle.placement.proofs.FillingOrder.{place_most, filling_length, rest_length}
use Rattle.placement.proofs.Offsets.{offset, disk_at}
use Rattle.placement.proofs.Written.{padded_length, written_part}
use Rattle.planner.specs.Order.{order_of}
use Rattle.planner.proofs.FillingKeys.{order_length}

-- The table with new entries in the places of one disk.
abbrev pub written_at : List Disk → ℕ → List ℕ → List ℕ → List ℕ
written_at [] o new t = t
written_at (d ∷ ds) zero new t = new ++ drop d.slots t
written_at (d ∷ ds) (suc o) new t = take d.slots t ++ written_at ds o new (drop d.slots t)

-- The entries of a disk's copies.
abbrev pub entries_on : Disk → List Item → List ℕ
entries_on d copies = padded d.slots (map entry_of copies)

-- The table once disks with these numbers have stored their copies, one after the other.
abbrev pub stored_in : List Disk → List ℕ → List (List Item) → List ℕ → List ℕ
stored_in rack [] layout t = t
stored_in rack (o ∷ os) [] t = t
stored_in rack (o ∷ os) (copies ∷ rest) t = stored_in rack os rest (written_at rack o (entries_on (disk_at rack o) copies) t)

-- A disk has at most as many copies as slots.
abbrev pub Fits : Disk → List Item → Type 0
Fits d copies = length copies ≤ d.slots

pub entries_length : (d : Disk) (copies : List Item) → Fits d copies → length (entries_on d copies) ≡ d.slots
entries_length d copies fits = padded_length d.slots (map entry_of copies) (omega (arith, length-map copies entry_of))

module _ (d : Disk) (ds : List Disk) where
  -- The other disks leave the places of the first one,
  others_stored :
      (os : List ℕ) (layout : List (List Item)) (own rest : List ℕ) → length own ≡ d.slots
      → stored_in (d ∷ ds) (map suc os) layout (own ++ rest) ≡ own ++ stored_in ds os layout rest
  others_stored [] layout own rest e = refl
  others_stored (o ∷ os) [] own rest e = refl
  others_stored (o ∷ os) (copies ∷ later) own rest e =
      ap (stored_in (d ∷ ds) (map suc os) later)
      (ap₂ (λ (a b : List ℕ). a ++ written_at ds o (entries_on (disk_at ds o) copies) b) (take_at own rest d.slots e) (drop_at own rest d.slots e))
      ∙ others_stored os later own (written_at ds o (entries_on (disk_at ds o) copies) rest) e

  -- and it has its copies there, whenever it is filled.
  first_stored :
      (n : ℕ) (os : List ℕ) (layout : List (List Item)) (own rest : List ℕ) → length own ≡ d.slots → n ≤ length os → n < length layout
      → Fits d (get_or layout n [])
      → stored_in (d ∷ ds) (insert_at n 0 (map suc os)) layout (own ++ rest)
      ≡ entries_on d (get_or layout n []) ++ stored_in ds os (remove_at n layout) rest
  first_stored n os [] own rest e h k fits = absurd (omega arith)
  first_stored zero os (copies ∷ later) own rest e h k fits =
      ap (λ (r : List ℕ). stored_in (d ∷ ds) (map suc os) later (entries_on d copies ++ r)) (drop_at own rest d.slots e)
      ∙ others_stored os later (entries_on d copies) rest (entries_length d copies fits)
  first_stored (suc n) [] (copies ∷ later) own rest e h k fits = absurd (omega arith)
  first_stored (suc n) (o ∷ os) (copies ∷ later) own rest e h k fits =
      ap (stored_in (d ∷ ds) (insert_at n 0 (map suc os)) later)
      (ap₂ (λ (a b : List ℕ). a ++ written_at ds o (entries_on (disk_at ds o) copies) b) (take_at own rest d.slots e) (drop_at own rest d.slots e))
      ∙ first_stored n os later own (written_at ds o (entries_on (disk_at ds o) copies) rest) e (omega arith) (omega arith) fits

-- Filled in filling order, the table has the places by number.
pub stored_places :
    (rack : List Disk) (layout : List (List Item)) (t : List ℕ) → Pairwise Fits (filling rack) layout → length layout ≡ length rack
    → all_slots rack ≤ length t → stored_in rack (order_of rack) layout t ≡ places rack (by_number [] rack layout) ++ drop (all_slots rack) t
stored_places [] layout t fits same room = refl
stored_places (d ∷ ds) layout t fits same room =
    ap (stored_in (d ∷ ds) (order_of (d ∷ ds)) layout) (sym (take-append-drop d.slots t))
    ∙ first_stored d ds place (order_of ds) layout (take d.slots t) (drop d.slots t) (omega (arith, length-take d.slots t))
    (omega (arith, place_most d (filling ds), filling_length ds, order_length ds)) (omega (arith, same, place_most d (filling ds), filling_length ds))
    out.0
    ∙ ap (λ (r : List ℕ). entries_on d (get_or layout place []) ++ r)
    (stored_places ds (remove_at place layout) (drop d.slots t) out.1 rest_same (omega (arith, length-drop d.slots t)))
    ∙ sym (append_assoc (entries_on d (get_or layout place [])) (places ds (by_number [] ds (remove_at place layout))) (drop (all_slots ds) (drop d.slots t)))
    ∙ ap (λ (r : List ℕ). (entries_on d (get_or layout place []) ++ places ds (by_number [] ds (remove_at place layout))) ++ r)
    (drop-drop (all_slots ds) d.slots t)
  where
    place : ℕ
    place = filling_place d (filling ds)

    out : Fits d (get_or layout place []) × Pairwise Fits (filling ds) (remove_at place layout)
    out = pair_out Fits place d (filling ds) layout [] (place_most d (filling ds)) fits

    rest_same : length (remove_at place layout) ≡ length ds
    rest_same = rest_length d ds layout same

-- The count table likewise.
abbrev pub counted_in : List ℕ → List (List Item) → List ℕ → List ℕ
counted_in [] layout counts = counts
counted_in (o ∷ os) [] counts = counts
counted_in (o ∷ os) (copies ∷ rest) counts = counted_in os rest (set counts o (length copies))

others_counted :
    (os : List ℕ) (layout : List (List Item)) (own : ℕ) (rest : List ℕ) → counted_in (map suc os) layout (own ∷ rest) ≡ own ∷ counted_in os layout rest
others_counted [] layout own rest = refl
others_counted (o ∷ os) [] own rest = refl
others_counted (o ∷ os) (copies ∷ later) own rest = others_counted os later own (set rest o (length copies))

first_counted :
    (n : ℕ) (os : List ℕ) (layout : List (List Item)) (own : ℕ) (rest : List ℕ) → n ≤ length os → n < length layout
    → counted_in (insert_at n 0 (map suc os)) layout (own ∷ rest) ≡ length (get_or layout n []) ∷ counted_in os (remove_at n layout) rest
first_counted n os [] own rest h k = absurd (omega arith)
first_counted zero os (copies ∷ later) own rest h k = others_counted os later (length copies) rest
first_counted (suc n) [] (copies ∷ later) own rest h k = absurd (omega arith)
first_counted (suc n) (o ∷ os) (copies ∷ later) own rest h k = first_counted n os later own (set rest o (length copies)) (omega arith) (omega arith)

pub counted_lengths :
    (rack : List Disk) (layout : List (List Item)) (counts : List ℕ) → length layout ≡ length rack → length rack ≤ length counts
    → counted_in (order_of rack) layout counts ≡ map length (by_number [] rack layout) ++ drop (length rack) counts
counted_lengths [] layout counts same room = refl
counted_lengths (d ∷ ds) layout [] same room = absurd (omega arith)
counted_lengths (d ∷ ds) layout (own ∷ rest) same room =
    first_counted place (order_of ds) layout own rest (omega (arith, place_most d (filling ds), filling_length ds, order_length ds))
    (omega (arith, same, place_most d (filling ds), filling_length ds))
    ∙ ap (λ (r : List ℕ). length (get_or layout place []) ∷ r)
    (counted_lengths ds (remove_at place layout) rest (rest_length d ds layout same) (omega arith))
  where
    place : ℕ
    place = filling_place d (filling ds)

-- The places of a disk begin at its first place.
pub written_at_lem :
    (rack : List Disk) (o : ℕ) (new t : List ℕ) → o < length rack → all_slots rack ≤ length t
    → written_at rack o new t ≡ take (offset rack o) t ++ (new ++ drop (offset rack o + (disk_at rack o).slots) t)
written_at_lem [] o new t h room = absurd (omega arith)
written_at_lem (d ∷ ds) zero new t h room = ap (λ (n : ℕ). new ++ drop n t) (sym (zero-add d.slots))
written_at_lem (d ∷ ds) (suc o) new t h room =
    ap (λ (r : List ℕ). take d.slots t ++ r) (written_at_lem ds o new (drop d.slots t) (omega arith) (omega (arith, length-drop d.slots t)))
    ∙ sym (append_assoc (take d.slots t) (take (offset ds o) (drop d.slots t)) (new ++ drop (offset ds o + (disk_at ds o).slots) (drop d.slots t)))
    ∙ ap₂ (λ (a b : List ℕ). a ++ (new ++ b)) (sym (take-add d.slots (offset ds o) t)) (drop-drop (offset ds o + (disk_at ds o).slots) d.slots t ∙ more)
  where
    more : drop (d.slots + (offset ds o + (disk_at ds o).slots)) t ≡ drop (offset (d ∷ ds) (suc o) + (disk_at (d ∷ ds) (suc o)).slots) t
    more = ap (λ (n : ℕ). drop n t) (sym (add_assoc d.slots (offset ds o) (disk_at ds o).slots))

-- The part of the table from there on is lent, and comes back with the new entries in front.
pub part_stored :
    (rack : List Disk) (o first : ℕ) (new t part : List ℕ) → o < length rack → all_slots rack ≤ length t → first ≡ offset rack o
    → length new ≡ (disk_at rack o).slots → first + length new ≤ length t → part ≡ written new (take (length t - first) (drop first t))
    → put_mid first (length t - first) t part ≡ written_at rack o new t
part_stored rack o first new t part h room is fits more e =
    written_part (take first t) new t t part first (length t - first) (sym whole) front_length (omega arith) e
    ∙ ap (λ (n : ℕ). (take first t ++ new) ++ drop n t) (length-append (take first t) new ∙ ap₂ ◌+◌ (front_length ∙ is) fits)
    ∙ append_assoc (take first t) new (drop (offset rack o + (disk_at rack o).slots) t)
    ∙ ap (λ (n : ℕ). take n t ++ (new ++ drop (offset rack o + (disk_at rack o).slots) t)) is
    ∙ sym (written_at_lem rack o new t h room)
  where
    front_length : length (take first t) ≡ first
    front_length = omega (arith, length-take first t)

    whole : written (take first t) t ≡ t
    whole = ap (λ (n : ℕ). take first t ++ drop n t) front_length ∙ take-append-drop first t

-- The table keeps its length.
pub stored_length :
    (rack : List Disk) (o : ℕ) (new t : List ℕ) → o < length rack → length new ≡ (disk_at rack o).slots → all_slots rack ≤ length t
    → length (written_at rack o new t) ≡ length t
stored_length [] o new t h fits room = refl
stored_length (d ∷ ds) zero new t h fits room = omega (arith, length-append new (drop d.slots t), length-drop d.slots t)
stored_length (d ∷ ds) (suc o) new t h fits room =
    omega (
      arith,
      length-append (take d.slots t) (written_at ds o new (drop d.slots t)),
      length-take d.slots t,
      length-drop d.slots t,
      stored_length ds o new (drop d.slots t) (omega arith) fits (omega (arith, length-drop d.slots t)),
    )

-- Places by number are as many as all slots.
pub places_all : (rack : List Disk) (layout : List (List Item)) → Pairwise Fits rack layout → length (places rack layout) ≡ all_slots rack
places_all [] [] fits = refl
places_all [] (copies ∷ rest) fits = absurd fits
places_all (d ∷ ds) [] fits = absurd fits
places_all (d ∷ ds) (copies ∷ rest) fits =
    omega (arith, length-append (entries_on d copies) (places ds rest), entries_length d copies fits.0, places_all ds rest fits.1)
