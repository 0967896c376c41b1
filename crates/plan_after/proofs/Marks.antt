-- Marking disk by disk: what is left to mark gives the whole.
use mathlib.Core.Path.{◌≡◌, refl, sym, ap, ap₂, ◌∙◌}
use mathlib.Core.List.{List, [], ◌∷◌, map, ◌++◌, append_assoc, append-nil}
use Prim.Native.Nat.{ℕ, zero, suc, ◌+◌, ◌≤◌, ◌<◌}
use native.Mathlib.Numerals.{add-one}
use native.Mathlib.Omega.{arith}
use lib.ListN.{length, take, drop, get_or, set, length-append, length-map, length-drop, take-append-drop, drop_of_length-le}
use lib.Seq.{take_at, drop_at, length-take-le}
use borrow.Rule.Slice.PartMut.{put_mid}
use Rattle.placement.specs.Items.{Item}
use Rattle.placement.specs.Rack.{Disk, all_slots}
use Rattle.placement.specs.Packed.{disk_in, disks_in}
use Rattle.placement.specs.Tables.{written}
use Rattle.placement.proofs.Offsets.{offset, disk_at, disks_from, offset_room}
use Rattle.placement.proofs.PackedRacks.{disks_length, disk_packed}
use Rattle.placement.proofs.Written.{written_more, overwritten, overwritten_length, overwritten_all}
use Rattle.plan_after.specs.Marking.{marked_entry, marked_places}

-- A table that is changed entry by entry: the entries before a place are changed.
module _ (f : ℕ → ℕ) where
  abbrev pub changed_to : List ℕ → ℕ → List ℕ
  changed_to old i = overwritten (map f old) old i

  -- One entry more.
  pub changed_more : (old : List ℕ) (i : ℕ) → i < length old → set (changed_to old i) i (f (get_or (changed_to old i) i 0)) ≡ changed_to old (i + 1)
  changed_more old i h = go old i h ∙ ap (changed_to old) (sym (add-one i))
    where
      go : (old : List ℕ) (i : ℕ) → i < length old → set (changed_to old i) i (f (get_or (changed_to old i) i 0)) ≡ changed_to old (suc i)
      go [] i h = absurd (omega arith)
      go (x ∷ old) zero h = refl
      go (x ∷ old) (suc i) h = ap (λ (r : List ℕ). f x ∷ r) (go old i (omega arith))

  pub changed_length : (old : List ℕ) (i : ℕ) → i ≤ length old → length (changed_to old i) ≡ length old
  changed_length old i h = overwritten_length (map f old) old i (omega (arith, length-map old f)) h

  -- All of them.
  pub changed_all : (old : List ℕ) (i : ℕ) → i ≤ length old → length old ≤ i → changed_to old i ≡ map f old
  changed_all old i h g =
      let all : i ≡ length old = omega arith in
      let none : length old ≤ length (map f old) = omega (arith, length-map old f) in
      overwritten_all (map f old) old i (length-map old f ∙ sym all)
      ∙ ap (λ (r : List ℕ). map f old ++ r) (drop_of_length-le old none)
      ∙ append-nil (map f old)

-- A table up to a place, and what marking the rest leaves of it.
abbrev pub marks_on : List Disk → List ℕ → List (List Item) → ℕ → List ℕ
marks_on rack now held first = take first now ++ written (marked_places rack (drop first now) held) (drop first now)

-- Where no place is left to mark, the table is as it should be.
pub marks_done : (rack : List Disk) (now : List ℕ) (held : List (List Item)) (first : ℕ) → marked_places rack (drop first now) held ≡ [] → now ≡ marks_on rack now held first
marks_done rack now held first none =
    sym (take-append-drop first now) ∙ ap (λ (l : List ℕ). take first now ++ written l (drop first now)) (sym none)

-- Without disks that held something there is none.
pub none_held : (rack : List Disk) (copies : List ℕ) → marked_places rack copies [] ≡ []
none_held [] copies = refl
none_held (d ∷ ds) copies = refl

-- The disks of a packed rack from one on, and the places of that disk.
module _ (rack : List ℕ) (d : ℕ) (more : d < length rack) where
  inside : d < length (disks_in rack)
  inside = omega (arith, disks_length rack)

  pub disks_next : drop d (disks_in rack) ≡ disk_in (get_or rack d 0) ∷ drop (d + 1) (disks_in rack)
  disks_next = rw add-one (disks_from (disks_in rack) d inside ∙ ap (λ (x : Disk). x ∷ drop (suc d) (disks_in rack)) (disk_packed rack d))

  pub slots_room :
      (copies : List ℕ) → all_slots (disks_in rack) ≤ length copies → offset (disks_in rack) d + (disk_in (get_or rack d 0)).slots ≤ length copies
  slots_room copies room =
      let here : (disk_at (disks_in rack) d).slots ≡ (disk_in (get_or rack d 0)).slots = ap (λ (x : Disk). x.slots) (disk_packed rack d) in
      omega (arith, room, offset_room (disks_in rack) d inside, here)

-- One disk more: its places are lent and come back marked.
pub marks_more :
    (d : Disk) (rack : List Disk) (h : List Item) (held : List (List Item)) (now part : List ℕ) (first size next : ℕ)
    → size ≡ d.slots → next ≡ first + size → next ≤ length now → part ≡ map (marked_entry h) (take size (drop first now))
    → marks_on rack (put_mid first size now part) held next ≡ marks_on (d ∷ rack) now (h ∷ held) first
marks_more d rack h held now part first size next slots ends room is =
    ap₂ (λ (a b : List ℕ). a ++ written (marked_places rack b held) b) front behind
    ∙ append_assoc (take first now) part _
    ∙ ap (λ (l : List ℕ). take first now ++ l) later
  where
    start : length (take first now) ≡ first
    start = length-take-le first now (omega arith)

    wide : length part ≡ size
    wide =
        ap length is
        ∙ length-map (take size (drop first now)) (marked_entry h)
        ∙ length-take-le size (drop first now) (omega (arith, length-drop first now))

    both : length (take first now ++ part) ≡ next
    both = omega (arith, length-append (take first now) part, start, wide)

    same : put_mid first size now part ≡ (take first now ++ part) ++ drop size (drop first now)
    same = sym (append_assoc (take first now) part (drop size (drop first now)))

    front : take next (put_mid first size now part) ≡ take first now ++ part
    front = ap (take next) same ∙ take_at (take first now ++ part) (drop size (drop first now)) next both

    behind : drop next (put_mid first size now part) ≡ drop size (drop first now)
    behind = ap (drop next) same ∙ drop_at (take first now ++ part) (drop size (drop first now)) next both

    later :
        part ++ written (marked_places rack (drop size (drop first now)) held) (drop size (drop first now))
        ≡ written (marked_places (d ∷ rack) (drop first now) (h ∷ held)) (drop first now)
    later =
        ap (λ (n : ℕ). part ++ written (marked_places rack (drop size (drop first now)) held) (drop n (drop first now))) (sym wide)
        ∙ written_more part (marked_places rack (drop size (drop first now)) held) (drop first now)
        ∙ ap (λ (p : List ℕ). written (p ++ marked_places rack (drop size (drop first now)) held) (drop first now)) is
        ∙ ap (λ (n : ℕ). written (map (marked_entry h) (take n (drop first now)) ++ marked_places rack (drop n (drop first now)) held) (drop first now)) slots
