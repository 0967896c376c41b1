-- Disks as numbers: when another disk is equal to the first one.
use mathlib.Core.Path.{◌≡◌, refl, sym, ap, ap₂, ◌∙◌}
use mathlib.Core.Bool.{Bool, true, false, ◌&&◌}
use mathlib.Core.List.{List, [], ◌∷◌}
use Prim.Native.Nat.{ℕ, ◌/◌, ◌%◌, ◌-◌, ◌≤◌}
use native.Mathlib.Omega.{arith}
use borrow.Author.Tests.{eqb-true, eqb-false}
use lib.Dec.{eqb}
use lib.ListN.{length, get_or, take, drop}
use lib.Seq.{take_all}
use store.Seg.{eqb_same}
use Rattle.std.specs.List.{list_all}
use Rattle.placement.specs.Rack.{first_slots, first_load, all_like, all_equal}
use Rattle.placement.specs.Packed.{disk_in, disks_in}
use Rattle.placement.proofs.Tests.{by_test}
use Rattle.placement.proofs.Conjunctions.{both_true}
use Rattle.placement.proofs.PackedRacks.{first_slots_lem, first_load_lem}

-- A disk has the slots and the load of the first one.
abbrev like_first : List ℕ → ℕ → Bool
like_first s e = eqb (first_slots (disks_in s)) (disk_in e).slots && eqb (first_load (disks_in s)) (disk_in e).load

-- It does where the numbers are the same,
pub like_same : (s : List ℕ) (e : ℕ) → 1 ≤ length s → e ≡ get_or s 0 0 → like_first s e ≡ true
like_same s e some is =
    ap (λ (x : ℕ). like_first s x) is
    ∙ ap₂ (λ (k l : ℕ). eqb k (disk_in (get_or s 0 0)).slots && eqb l (disk_in (get_or s 0 0)).load) (first_slots_lem s some) (first_load_lem s some)
    ∙ ap₂ ◌&&◌ (eqb_same (disk_in (get_or s 0 0)).slots) (eqb_same (disk_in (get_or s 0 0)).load)

-- and only there.
pub like_other : (s : List ℕ) (e : ℕ) → 1 ≤ length s → (e ≡ get_or s 0 0 → ⊥) → like_first s e ≡ false
like_other s e some other =
    by_test (like_first s e)
    (λ held.
    let both = both_true (eqb (first_slots (disks_in s)) (disk_in e).slots) (eqb (first_load (disks_in s)) (disk_in e).load) held in
    let low : get_or s 0 0 % 4294967296 ≡ e % 4294967296 = sym (first_slots_lem s some) ∙ eqb-true (first_slots (disks_in s)) (disk_in e).slots both.0 in
    let high : get_or s 0 0 / 4294967296 ≡ e / 4294967296 = sym (first_load_lem s some) ∙ eqb-true (first_load (disks_in s)) (disk_in e).load both.1 in
    absurd (other (omega (arith, low, high))))
    (λ failed. failed)

-- All disks are equal where those behind the first are it.
pub equal_all : (s : List ℕ) → 1 ≤ length s → list_all (λ n. eqb n (get_or s 0 0)) (take (length s - 1) (drop 1 s)) ≡ all_equal (disks_in s)
equal_all [] some = absurd (omega arith)
equal_all (n ∷ ns) some =
    ap (λ (es : List ℕ). list_all (λ e. eqb e n) es) (take_all (length (n ∷ ns) - 1) ns (omega arith))
    ∙ others ns
    ∙ sym (ap (λ (b : Bool). b && all_like (disk_in n).slots (disk_in n).load (disks_in ns)) (like_same (n ∷ ns) n some refl))
  where
    others : (es : List ℕ) → list_all (λ e. eqb e n) es ≡ all_like (disk_in n).slots (disk_in n).load (disks_in es)
    others [] = refl
    others (e ∷ es) =
        by_test (eqb e n)
        (λ same. ap₂ ◌&&◌ (same ∙ sym (like_same (n ∷ ns) e some (eqb-true e n same))) (others es))
        (λ other. ap₂ ◌&&◌ (other ∙ sym (like_other (n ∷ ns) e some (eqb-false e n other))) (others es))
