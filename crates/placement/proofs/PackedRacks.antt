-- A rack of packed disks gone over from one disk to the next: its ranges, its ratios and its slots.
use mathlib.Core.Path.{◌≡◌, refl, sym, ap, ◌∙◌}
use mathlib.Core.Bool.{Bool, true, false, ◌&&◌}
use mathlib.Core.List.{List, [], ◌∷◌, map}
use Prim.Native.Nat.{ℕ, suc, ◌+◌, ◌≤◌, ◌<◌, min}
use native.Mathlib.Numerals.{add-one}
use native.Mathlib.Omega.{arith}
use lib.ListN.{length, get_or, drop, length-map, drop_of_length-le, get_or-map}
use lib.Seq.{drop-cons}
use Rattle.std.specs.List.{list_all, fold}
use Rattle.refusal.specs.Verdict.{Verdict, given, refused, unless}
use Rattle.placement.specs.Rack.{Disk, first_slots, first_load, all_slots, disk_in_range, all_in_range, disks_in_range, same_ratio, in_range, most_disks}
use Rattle.placement.specs.Packed.{disk_in, disks_in}
use Rattle.placement.specs.Planning.{ratio_judged_from}
use Rattle.placement.proofs.Conjunctions.{both_true}
use Rattle.placement.proofs.Tests.{in_range_bounds}
use Rattle.placement.proofs.Offsets.{disk_at}

-- There are as many disks as numbers,
pub disks_length : (rack : List ℕ) → length (disks_in rack) ≡ length rack
disks_length rack = length-map rack disk_in

-- and 1 to 64 of them where they are in range.
pub disks_count : (rack : List ℕ) → disks_in_range (disks_in rack) ≡ true → (1 ≤ length rack) × (length rack ≤ most_disks)
disks_count rack e =
    let few = in_range_bounds most_disks (length (disks_in rack)) (both_true (in_range most_disks (length (disks_in rack))) (all_in_range (disks_in rack)) e).0 in
    (omega (arith, disks_length rack), omega (arith, disks_length rack))

-- Past the last disk there is none.
pub disks_end : (rack : List ℕ) (d : ℕ) → length rack ≤ d → disks_in (drop d rack) ≡ []
disks_end rack d h = ap disks_in (drop_of_length-le rack h)

-- Disk 1 is that of the first number.
pub first_slots_lem : (rack : List ℕ) → 1 ≤ length rack → first_slots (disks_in rack) ≡ (disk_in (get_or rack 0 0)).slots
first_slots_lem [] some = absurd (omega arith)
first_slots_lem (n ∷ ns) some = refl

pub first_load_lem : (rack : List ℕ) → 1 ≤ length rack → first_load (disks_in rack) ≡ (disk_in (get_or rack 0 0)).load
first_load_lem [] some = absurd (omega arith)
first_load_lem (n ∷ ns) some = refl

-- The verdict on the ratios of disks, from a position on.
abbrev pub ratios_judged : (slots load position : ℕ) → List Disk → Verdict (Unit {0})
ratios_judged slots load position ds = ratio_judged_from slots load position ds (given tt)

-- The ranges of all disks, one number after the other,
pub all_disks_in_range : (rack : List ℕ) → list_all (λ number. disk_in_range (disk_in number)) rack ≡ all_in_range (disks_in rack)
all_disks_in_range [] = refl
all_disks_in_range (n ∷ ns) = ap (λ (b : Bool). disk_in_range (disk_in n) && b) (all_disks_in_range ns)

-- and all slots, added up and cut off at the largest number of 64 bits.
pub slots_folded :
    (rack : List ℕ) (sum : ℕ) → sum ≤ 18446744073709551615
    → fold (λ sum slots. min (sum + slots) 18446744073709551615) sum (map (λ number. (disk_in number).slots) rack) ≡ min (sum + all_slots (disks_in rack)) 18446744073709551615
slots_folded [] sum small = omega arith
slots_folded (n ∷ ns) sum small =
    slots_folded ns (min (sum + (disk_in n).slots) 18446744073709551615) (omega arith) ∙ omega arith

module _ (rack : List ℕ) (d : ℕ) (here : d < length rack) where
  -- The disks from one on: it, and those behind it.
  pub disks_next : disks_in (drop d rack) ≡ (disk_in (get_or rack d 0) ∷ disks_in (drop (d + 1) rack))
  disks_next = rw add-one (ap disks_in (drop-cons rack d 0 here))

  -- So for their ranges,
  pub range_next : all_in_range (disks_in (drop d rack)) ≡ (disk_in_range (disk_in (get_or rack d 0)) && all_in_range (disks_in (drop (d + 1) rack)))
  range_next = ap all_in_range disks_next

  -- their slots,
  pub slots_next : all_slots (disks_in (drop d rack)) ≡ (disk_in (get_or rack d 0)).slots + all_slots (disks_in (drop (d + 1) rack))
  slots_next = ap all_slots disks_next

  -- and the verdict on their ratios.
  ratio_next :
      (slots load : ℕ) (same : Bool) → same_ratio slots load (disk_in (get_or rack d 0)) ≡ same
      → ratios_judged slots load (suc d) (disks_in (drop d rack))
      ≡ unless same 13 (suc d) (ratios_judged slots load (suc (suc d)) (disks_in (drop (d + 1) rack)))
  ratio_next slots load same e =
      ap (ratios_judged slots load (suc d)) disks_next
      ∙ ap (λ (b : Bool). unless b 13 (suc d) (ratios_judged slots load (suc (suc d)) (disks_in (drop (d + 1) rack)))) e

  -- A disk of another ratio is refused,
  pub ratio_refused :
      (slots load : ℕ) → same_ratio slots load (disk_in (get_or rack d 0)) ≡ false
      → ratios_judged slots load (suc d) (disks_in (drop d rack)) ≡ refused 13 (d + 1)
  ratio_refused slots load e = ratio_next slots load false e ∙ ap (λ (n : ℕ). refused 13 n) (sym (add-one d))

  -- and one of the ratio leaves the verdict to those behind it.
  pub ratio_passed :
      (slots load : ℕ) → same_ratio slots load (disk_in (get_or rack d 0)) ≡ true
      → ratios_judged slots load (suc d) (disks_in (drop d rack)) ≡ ratios_judged slots load (suc (d + 1)) (disks_in (drop (d + 1) rack))
  ratio_passed slots load e =
      ratio_next slots load true e
      ∙ ap (λ (n : ℕ). ratios_judged slots load (suc n) (disks_in (drop (d + 1) rack))) (sym (add-one d))

-- The disk with a number, counted from 0.
pub disk_packed : (rack : List ℕ) (d : ℕ) → disk_at (disks_in rack) d ≡ disk_in (get_or rack d 0)
disk_packed rack d = get_or-map disk_in rack d 0
