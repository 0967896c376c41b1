-- The first line by its form: equal disks, or a mixed line where the text begins with none of equal disks.
use mathlib.Core.Path.{◌≡◌, sym, ap, ◌∙◌}
use mathlib.Core.Bool.{Bool, false, not, ◌&&◌}
use mathlib.Core.List.{List, map}
use Prim.Native.Nat.{ℕ, ◌≤◌}
use native.Mathlib.Omega.{arith}
use Rattle.std.specs.Prelude.{Option, Some, None}
use lib.ListN.{length, take, drop, replicate, length-append, length-replicate}
use Rattle.refusal.specs.Verdict.{Verdict, given, refused}
use Rattle.refusal.proofs.Verdicts.{and_then}
use Rattle.placement.specs.Items.{Item}
use Rattle.placement.specs.Rack.{Disk, disk, most_disks, rack_accepted, all_equal}
use Rattle.placement.specs.Tables.{item_in, written}
use Rattle.placement.specs.Held.{front}
use Rattle.placement.specs.Packed.{disk_in, disks_in}
use Rattle.placement.specs.Planning.{rack_judged}
use Rattle.placement.proofs.Tests.{by_test}
use Rattle.placement.proofs.Conjunctions.{first_fails, second_decides}
use Rattle.placement.proofs.Chains.{rack_given_lem, rack_passes}
use Rattle.placement.proofs.Written.{written_front}
use Rattle.plan_text.specs.Text.{mixed_head}
use Rattle.plan_text.specs.Parse.{Parse, parsed, unparsed, next, or_else}
use Rattle.plan_text.specs.Reading.{Sizes, line, rack_body, rack_in, sizes_accepted, pairs_body, item_disk, mixed_accepted, mixed_read, rack_read}
use Rattle.plan_text.specs.Capped.{saturated}
use Rattle.plan_text.proofs.Limits.{sizes_disks}
use Rattle.reader.specs.First.{MixedRead, FirstRead}
use Rattle.reader.proofs.PlanParts.{line_passed}
use Rattle.reader.proofs.PackedDisks.{same_disks, items_disks}

-- The test of a mixed line's pairs, on packed disks.
mixed_packed : (s : List ℕ) → mixed_accepted (map item_in s) ≡ (rack_accepted (disks_in s) && not (all_equal (disks_in s)))
mixed_packed s = ap (λ (ds : List Disk). rack_accepted ds && not (all_equal ds)) (items_disks s)

module _ (s : List ℕ) (v : Verdict (Unit {0})) (e : v ≡ rack_judged (disks_in s) (given tt)) where
  -- A rack that is refused fails it.
  pub mixed_refused : v ≡ and_then v (refused 7 0) → false ≡ mixed_accepted (map item_in s)
  mixed_refused settles =
      by_test (rack_accepted (disks_in s))
      (λ holds.
      let passed : v ≡ given tt = e ∙ rack_passes (disks_in s) (given tt) holds in
      let z : ◌≡◌ {A = ℕ} 0 7 = ap number (sym passed ∙ settles ∙ ap (λ (w : Verdict (Unit {0})). and_then w (refused 7 0)) passed) in
      absurd (omega arith))
      (λ fails. first_fails (rack_accepted (disks_in s)) (not (all_equal (disks_in s))) fails ∙ sym (mixed_packed s))
    where
      number : Verdict (Unit {0}) → ℕ
      number (given u) = 0
      number (refused n m) = n

  -- One that passes leaves it to whether the disks differ.
  pub mixed_passed : v ≡ given tt → (equal : Bool) → equal ≡ all_equal (disks_in s) → not equal ≡ mixed_accepted (map item_in s)
  mixed_passed passed equal is =
      ap not is
      ∙ second_decides (rack_accepted (disks_in s)) (not (all_equal (disks_in s))) (rack_given_lem (disks_in s) (given tt) tt (sym e ∙ passed)).0
      ∙ sym (mixed_packed s)

-- The line of equal disks fits.
module _ (text rest : List ℕ) (z : Sizes) (said : parsed z rest ≡ line (rack_body saturated) sizes_accepted text) where
  pub equal_few : z.disks ≤ most_disks
  equal_few = sizes_disks z (line_passed (rack_body saturated) sizes_accepted text z rest (sym said))

  pub equal_first :
      (number : ℕ) (rack rack' : List ℕ) → disk_in number ≡ disk z.slots z.streams → rack' ≡ written (replicate z.disks number) rack
      → FirstRead text rest rack' (Some z.disks)
  equal_first number rack rack' is filled = record {
    reads =
        ap (λ (ds : List Disk). parsed ds rest) disks
        ∙ ap (λ (p : Parse Sizes). or_else (next p (λ y t. parsed (rack_in y) t)) (mixed_read saturated text)) said;
    few =
        omega (
          arith,
          ap length filled,
          length-append (replicate z.disks number) (drop (length (replicate z.disks number)) rack),
          length-replicate z.disks number,
        );
  }
    where
      disks : disks_in (take z.disks rack') ≡ rack_in z
      disks =
          ap (λ (l : List ℕ). disks_in (take z.disks l)) filled
          ∙ ap disks_in (written_front (replicate z.disks number) rack z.disks (length-replicate z.disks number))
          ∙ same_disks z.disks number
          ∙ ap (λ (d : Disk). replicate z.disks d) is

-- It does not fit, and a mixed line decides.
module _ (text rest rack rack' : List ℕ) (stops : unparsed ≡ line (rack_body saturated) sizes_accepted text)
    (wide : length rack' ≡ length rack) (places : length rack ≡ most_disks) where
  abbrev mixed_of : Parse (List Item) → Parse (List Disk)
  mixed_of p = next p (λ xs t. parsed (map item_disk xs) t)

  first_is : (p : Parse (List Item)) → p ≡ line (pairs_body saturated mixed_head (length rack)) mixed_accepted text
      → mixed_of p ≡ rack_read saturated text
  first_is p e =
      ap mixed_of e
      ∙ ap (λ (n : ℕ). mixed_of (line (pairs_body saturated mixed_head n) mixed_accepted text)) places
      ∙ ap (λ (p : Parse Sizes). or_else (next p (λ y t. parsed (rack_in y) t)) (mixed_read saturated text)) stops

  pub mixed_first : (r : Option ℕ) → MixedRead text rest rack rack' r → FirstRead text rest rack' r
  mixed_first (Some n) is = record {
    reads = ap (λ (ds : List Disk). parsed ds rest) (sym (items_disks (take n rack'))) ∙ first_is (parsed (front n rack') rest) is.reads;
    few = omega (arith, is.few, wide);
  }
  mixed_first None is = record { reads = first_is unparsed is.reads; few = tt }
