-- What holds before each disk line: at first, and when no disk is left.
use mathlib.Core.Path.{◌≡◌, refl, ap, ◌∙◌, subst}
use mathlib.Core.List.{List, [], map}
use Prim.Native.Nat.{ℕ, ◌+◌, ◌*◌, ◌≤◌}
use native.Mathlib.Omega.{arith}
use Rattle.std.specs.Prelude.{Ok}
use lib.ListN.{length, take, drop, length-replicate, drop_of_length-le}
use lib.Seq.{take_all}
use Rattle.placement.specs.Items.{Item}
use Rattle.placement.specs.Copies.{copy_of}
use Rattle.placement.specs.Rack.{Disk, most_disks, most_slots}
use Rattle.placement.specs.Method.{served}
use Rattle.placement.proofs.Offsets.{offset}
use Rattle.plan_text.specs.Reading.{read_disks}
use Rattle.plan_text.specs.Capped.{saturated}
use Rattle.reader.specs.Disks.{Filled, prefixed, disks_at, DisksReady, DisksRead}
use Rattle.reader.proofs.DiskReading.{prefixed_none, disks_done}

-- What holds before the line of disk number `disk` + 1, where the bytes `here` are left of the text.
pub record SoFar (text : List ℕ) (rack : List Disk) (copies₀ counts₀ copies counts here : List ℕ) (sum from disk : ℕ) : Type 0 where
  pub few : disk ≤ length rack
  pub first : from ≡ offset rack disk
  pub copies_length : length copies ≡ 2048
  pub counts_length : length counts ≡ 64
  pub bounded : sum ≤ disk * 65535
  pub layout : List (List Item)
  pub filled : Filled (take disk rack) layout copies₀ counts₀ copies counts
  pub sum_is : sum ≡ served layout
  pub reads :
      disks_at text rack
      ≡ prefixed (map (map copy_of) layout) (read_disks saturated (drop disk rack) (disk + 1) sum here)

module _ (text : List ℕ) {rack : List Disk} {copies₀ counts₀ : List ℕ} (ready : DisksReady rack copies₀ counts₀) where
  pub so_far_none : SoFar text rack copies₀ counts₀ copies₀ counts₀ text 0 0 0
  so_far_none = record {
    few = omega arith;
    first = refl;
    copies_length = ap length ready.own_copies ∙ length-replicate {A = ℕ} (most_disks * most_slots) 0;
    counts_length = ap length ready.own_counts ∙ length-replicate {A = ℕ} most_disks 0;
    bounded = omega arith;
    layout = [];
    filled = record { number = refl; whole = refl; in_copies = refl; in_counts = refl };
    sum_is = refl;
    reads = prefixed_none (disks_at text rack);
  }

-- When no disk is left, all lines fit.
pub so_far_done :
    {text : List ℕ} {rack : List Disk} {copies₀ counts₀ copies counts here : List ℕ} {sum from disk : ℕ}
    → SoFar text rack copies₀ counts₀ copies counts here sum from disk → length rack ≤ disk
    → DisksRead text here rack copies₀ counts₀ copies counts (Ok sum)
so_far_done {text} {rack} {copies₀} {counts₀} {copies} {counts} {here} {sum} {from} {disk} now all = record {
  fit = record {
    layout = now.layout;
    filled = subst (λ (ds : List Disk). Filled ds now.layout copies₀ counts₀ copies counts) (take_all disk rack all) now.filled;
    sum_is = now.sum_is;
    reads = now.reads ∙ disks_done (map (map copy_of) now.layout) here (drop disk rack) disk sum (drop_of_length-le rack all);
  };
  stopped = tt;
}
