-- The output of an input that is shorter than the head, and of a longer one.
use mathlib.Core.Path.{◌≡◌, refl, sym, ap, ap₂, ◌∙◌}
use mathlib.Core.Bool.{true, false}
use mathlib.Core.List.{List, ◌∷◌}
use Prim.Native.Nat.{ℕ, zero, suc, ◌-◌, ◌≤◌, ◌<◌}
use native.Mathlib.Omega.{arith}
use borrow.Author.Tests.{lt-ltb, le-ltb}
use lib.Dec.{ltb}
use lib.ListN.{length, take, drop, replicate, length-drop}
use lib.Seq.{take-length}
use Rattle.placement.specs.Rack.{Disk, in_range, most_disks, rack_of, sizes_in_range}
use Rattle.placement.specs.Packed.{disk_in, disks_in}
use Rattle.placement.specs.Records.{number32}
use Rattle.placement.specs.Planning.{call}
use Rattle.placement.proofs.Conjunctions.{both_true, cond_true, cond_false}
use Rattle.placement.proofs.Tests.{in_range_bounds}
use Rattle.plan_text.specs.RefusalLine.{refusal_text}
use Rattle.plan_output.specs.Input.{head_bytes, sizes_in, call_in}
use Rattle.plan_output.specs.Output.{printed_for, sized_output, output_of}

module _ (input : List ℕ) where
  -- An input without a whole head is refused 2.
  pub short_output : length input < head_bytes → output_of input ≡ refusal_text 2 0
  unfolding output_of
  short_output short = cond_true (ltb (length input) head_bytes) (refusal_text 2 0) _ (lt-ltb (length input) head_bytes short)

  -- Any other is refused 1, where N, k or L is outside its range,
  pub sized_output_lem : head_bytes ≤ length input → output_of input ≡ sized_output input
  unfolding output_of
  sized_output_lem long = cond_false (ltb (length input) head_bytes) (refusal_text 2 0) _ (le-ltb (length input) head_bytes long)

  pub sizes_output : head_bytes ≤ length input → sizes_in input ≡ false → output_of input ≡ refusal_text 1 0
  sizes_output long outside = sized_output_lem long ∙ cond_false (sizes_in input) (printed_for (call_in input)) (refusal_text 1 0) outside

  -- or answered as its call.
  pub long_output : head_bytes ≤ length input → sizes_in input ≡ true → output_of input ≡ printed_for (call_in input)
  long_output long inside = sized_output_lem long ∙ cond_true (sizes_in input) (printed_for (call_in input)) (refusal_text 1 0) inside

  -- N, k and L as they are read are those of the input.
  pub sizes_same :
      {disks slots streams : ℕ} → disks ≡ number32 input 0 → slots ≡ number32 input 4 → streams ≡ number32 input 8
      → sizes_in_range disks slots streams ≡ sizes_in input
  sizes_same {disks} {slots} {streams} d k l =
      ap₂ (λ (n m : ℕ). sizes_in_range n m streams) d k ∙ ap (λ (n : ℕ). sizes_in_range (number32 input 0) (number32 input 4) n) l

  -- The numbers of the head and the bytes behind it make the call of an input.
  pub call_same :
      {disks slots streams : ℕ} → disks ≡ number32 input 0 → slots ≡ number32 input 4 → streams ≡ number32 input 8
      → call (rack_of disks slots streams) (take (length input - head_bytes) (drop head_bytes input)) ≡ call_in input
  call_same {disks} {slots} {streams} d k l =
      ap (λ (list : List ℕ). call (rack_of disks slots streams) list)
      (ap (λ (n : ℕ). take n (drop head_bytes input)) (sym (length-drop head_bytes input)) ∙ take-length (drop head_bytes input))
      ∙ ap₂ (λ (n m : ℕ). call (rack_of n m streams) (drop head_bytes input)) d k
      ∙ ap (λ (n : ℕ). call (rack_of (number32 input 0) (number32 input 4) n) (drop head_bytes input)) l

-- The first n of equal numbers are n equal disks.
pub equal_disks : (n number : ℕ) {d : Disk} → n ≤ 64 → disk_in number ≡ d → disks_in (take n (replicate 64 number)) ≡ replicate n d
equal_disks n number {d} few is = go n 64 few
  where
    go : (n m : ℕ) → n ≤ m → disks_in (take n (replicate m number)) ≡ replicate n d
    go zero m h = refl
    go (suc n) zero h = absurd (omega arith)
    go (suc n) (suc m) h = ap₂ (λ (x : Disk) (xs : List Disk). x ∷ xs) is (go n m (omega arith))

-- N of them, where N, k and L are in range.
pub sized_disks :
    (n k l number : ℕ) {d : Disk} → sizes_in_range n k l ≡ true → disk_in number ≡ d → disks_in (take n (replicate 64 number)) ≡ replicate n d
sized_disks n k l number sizes is =
    equal_disks n number (in_range_bounds most_disks n (both_true (in_range most_disks n) _ sizes).0).1 is
