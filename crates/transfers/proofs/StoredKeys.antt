-- A rack of at most 8 disks has at most 256 slots, and keys are read back as their copies.
use mathlib.Core.Path.{◌≡◌, refl, sym, ap, ap₂, ◌∙◌}
use mathlib.Core.Bool.{true}
use mathlib.Core.List.{List, [], ◌∷◌, map}
use Prim.Native.Nat.{ℕ, suc, ◌+◌, ◌*◌, ◌/◌, ◌%◌, ◌≤◌, ◌<◌}
use native.Mathlib.Omega.{arith}
use lib.ListN.{length, drop, length-map}
use lib.Seq.{take_at}
use Rattle.placement.specs.Items.{Item}
use Rattle.placement.specs.Copies.{copy_of}
use Rattle.placement.specs.Rack.{Disk, all_slots, all_in_range, disk_in_range, disks_in_range, in_range, most_disks, most_slots, most_load, rack_accepted}
use Rattle.placement.specs.Tables.{written}
use Rattle.placement.specs.Held.{copies_from, marked_from}
use Rattle.placement.specs.WellFormed.{Each}
use Rattle.placement.proofs.Conjunctions.{both_true}
use Rattle.placement.proofs.Each.{each_append}
use Rattle.placement.proofs.Tests.{in_range_bounds}
use Rattle.transfer_schedule.specs.Stored.{StoredCopy, stored_copy, ascending, films_of, stored_from}
use Rattle.transfers.specs.Keys.{copy_key, stored_in, stored_at}
use Rattle.transfer_schedule.proofs.Inserted.{ascending_each}

-- Disks in range have at most 32 slots each.
slots_most : (rack : List Disk) → all_in_range rack ≡ true → all_slots rack ≤ 32 * length rack
slots_most [] e = omega arith
slots_most (d ∷ ds) e =
    let both = both_true (disk_in_range d) (all_in_range ds) e in
    let slots = in_range_bounds most_slots d.slots (both_true (in_range most_slots d.slots) (in_range most_load d.load) both.0).0 in
    omega (arith, slots.1, slots_most ds both.1)

-- So an accepted rack of at most 8 disks has at most 256.
pub slots_few : (rack : List Disk) → rack_accepted rack ≡ true → length rack ≤ 8 → all_slots rack ≤ 256
slots_few rack e few =
    let ranges = (both_true (disks_in_range rack) _ e).0 in
    omega (arith, slots_most rack (both_true (in_range most_disks (length rack)) (all_in_range rack) ranges).1, few)

-- A film number of 16 bits.
abbrev Small : ℕ → Type 0
Small film = film < 65536

films_small : (xs : List Item) → Each Small (films_of (map copy_of xs))
films_small [] = tt
films_small (x ∷ xs) = (omega arith, films_small xs)

disk_small : (number : ℕ) (films : List ℕ) → Each Small films → Each (λ (c : StoredCopy). c.film < 65536) (map (stored_copy number) films)
disk_small number [] all = tt
disk_small number (f ∷ fs) all = (all.0, disk_small number fs all.1)

copies_small : (number : ℕ) (layout : List (List Item)) → Each (λ (c : StoredCopy). c.film < 65536) (stored_from number (map (map copy_of) layout))
copies_small number [] = tt
copies_small number (xs ∷ rest) =
    each_append (λ (c : StoredCopy). c.film < 65536) (map (stored_copy number) (ascending (films_of (map copy_of xs)))) (stored_from (suc number) (map (map copy_of) rest))
    (disk_small number (ascending (films_of (map copy_of xs))) (ascending_each Small (films_of (map copy_of xs)) (films_small xs)))
    (copies_small (suc number) rest)

-- A key is read back as its copy.
key_read : (c : StoredCopy) → c.film < 65536 → stored_in (copy_key c) ≡ c
key_read c small = ap₂ stored_copy disk film
  where
    disk : (c.disk * 16777216 + c.film) / 16777216 ≡ c.disk
    disk = omega (arith, small)

    film : (c.disk * 16777216 + c.film) % 16777216 ≡ c.film
    film = omega (arith, small)

all_read : (cs : List StoredCopy) → Each (λ (c : StoredCopy). c.film < 65536) cs → map stored_in (map copy_key cs) ≡ cs
all_read [] all = refl
all_read (c ∷ cs) all = ap₂ (λ (x : StoredCopy) (xs : List StoredCopy). x ∷ xs) (key_read c all.0) (all_read cs all.1)

-- The keys of a plan's tables, put in front, are read back as its stored copies.
pub keys_read :
    (rack : List Disk) (copies counts keys keys' : List ℕ) (n : ℕ) → keys' ≡ written (map copy_key (stored_from 1 (marked_from rack copies counts))) keys
    → n ≡ length (stored_from 1 (marked_from rack copies counts)) → stored_at n keys' ≡ stored_from 1 (marked_from rack copies counts)
keys_read rack copies counts keys keys' n e number =
    let cs = stored_from 1 (marked_from rack copies counts) in
    ap (stored_at n) e
    ∙ ap (map stored_in) (take_at (map copy_key cs) (drop (length (map copy_key cs)) keys) n (length-map cs copy_key ∙ sym number))
    ∙ all_read cs (copies_small 1 (copies_from rack copies counts))
