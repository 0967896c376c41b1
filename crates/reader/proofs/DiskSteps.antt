-- The loop over the disk lines: what holds before a line holds again behind it, or the line is refused.
use mathlib.Core.Path.{◌≡◌, sym, ap, ap₂, subst, ◌∙◌}
use mathlib.Core.List.{List, [], ◌∷◌, ◌++◌, map}
use Prim.Native.Nat.{ℕ, ◌+◌, ◌-◌, ◌≤◌, ◌<◌}
use native.Mathlib.Omega.{arith}
use Rattle.std.specs.Prelude.{Some, None, Err}
use lib.ListN.{length, take, drop, set, length-set, length-take, length-drop, length-map, length-replicate}
use borrow.Rule.Slice.PartMut.{put_mid, same_len_mid}
use Rattle.refusal.specs.declared.Refusal.TheVariants.{Line}
use Rattle.placement.specs.Items.{Item}
use Rattle.placement.specs.Copies.{Copy, unmarked, copy_of}
use Rattle.placement.specs.Rack.{Disk, most_disks}
use Rattle.placement.specs.Plan.{disk_accepted, marks_accepted, copies_accepted}
use Rattle.placement.specs.Held.{front}
use Rattle.placement.proofs.Conjunctions.{both_true}
use Rattle.placement.proofs.Racks.{accepted_disks}
use Rattle.placement.proofs.Offsets.{disk_at}
use Rattle.plan_text.specs.Text.{disk_head}
use Rattle.plan_text.specs.Parse.{Parse}
use Rattle.plan_text.specs.Reading.{line, copies_body, read_disks}
use Rattle.plan_text.specs.Capped.{saturated}
use Rattle.placement.proofs.Formed.{disk_load}
use Rattle.placement.proofs.MarkedCopies.{copied_total}
use Rattle.reader.specs.declared.line.PairsLine.{PairsLine}
use Rattle.reader.specs.Line.{DiskRead}
use Rattle.reader.specs.Disks.{Filled, DisksReady, DisksRead, prefixed}
use Rattle.reader.proofs.RackDisks.{upto, onward, next_first, places_room, load_most}
use Rattle.reader.proofs.DiskTables.{filled_more, served_end, copied_end}
use Rattle.reader.proofs.DiskReading.{disks_more, disks_refused}
use Rattle.reader.proofs.DisksSoFar.{SoFar}

module _ {text : List ℕ} {rack : List Disk} {copies₀ counts₀ : List ℕ} (ready : DisksReady rack copies₀ counts₀) where
  module _ {copies counts here : List ℕ} {sum from i k : ℕ} {d : Disk} (now : SoFar text rack copies₀ counts₀ copies counts here sum from i)
      (less : i < length rack) (is : disk_at rack i ≡ d) (slots_are : k ≡ d.slots) where
    abbrev size : ℕ
    size = (from + k) - from

    -- The part of the copy table that the disk has.
    abbrev part : List ℕ
    part = take size (drop from copies)

    pub room : from + k ≤ 2048
    room = omega (arith, now.first, slots_are, places_room rack i d less is ready.accepted)

    pub few_disks_lem : i < 64
    few_disks_lem = omega (arith, less, (accepted_disks rack ready.accepted).1)

    pub part_length : length part ≡ k
    part_length = omega (arith, length-take size (drop from copies), length-drop from copies, now.copies_length, room)

    -- The number of disks before it.
    number : length (take i rack) ≡ i
    number = omega (arith, length-take i rack, less)

    abbrev body : ℕ → List ℕ → Parse (List Copy)
    body n t = line (copies_body saturated (disk_head (i + 1)) n) (copies_accepted d) t

    same_body : body (length part) here ≡ body d.slots here
    same_body = ap (λ (n : ℕ). body n here) (part_length ∙ slots_are)

    -- The line is refused.
    pub so_far_stopped :
        (rest copies' part' : List ℕ) → DiskRead (i + 1) d here rest part part' None
        → DisksRead text rest rack copies₀ counts₀ copies' counts (Err (Line (i + 1 + 1)))
    so_far_stopped rest copies' part' read = record {
      fit = tt;
      stopped = record {
        fit = i;
        named = ap Line (omega arith);
        reads =
            now.reads
            ∙ disks_refused (map (map copy_of) now.layout) here (drop i rack) i sum d (drop (i + 1) rack)
            (onward rack i d less is) (length-map now.layout (map copy_of) ∙ now.filled.number ∙ number) (sym (read.reads ∙ same_body));
      };
    }

    module _ {rest part' : List ℕ} {r : PairsLine} (read : DiskRead (i + 1) d here rest part part' (Some r)) where
      -- The halves that the part holds, and their copies.
      abbrev x : List Item
      x = front r.count part'

      abbrev mine : List Copy
      mine = map copy_of x

      -- What the disk's copies sum to.
      pub small : r.sum ≤ 65535
      small =
          omega (
            arith,
            read.held.summed,
            copied_total x,
            disk_load d (map unmarked mine) (both_true (disk_accepted d (map unmarked mine)) (marks_accepted mine) read.held.passed).0,
            load_most rack i d less is ready.accepted,
          )

      -- The line fits.
      pub so_far_more :
          length part' ≡ k
          → SoFar text rack copies₀ counts₀ (put_mid from size copies part') (set counts i r.count) rest (sum + r.sum) (from + k) (i + 1)
      so_far_more wide = record {
        few = omega (arith, less);
        first = omega (arith, now.first, slots_are, next_first rack i d less is);
        copies_length = same_len_mid from size copies part' (wide ∙ sym part_length) ∙ now.copies_length;
        counts_length = length-set counts i r.count ∙ now.counts_length;
        bounded = omega (arith, now.bounded, small);
        layout = now.layout ++ (x ∷ []);
        filled =
            subst (λ (ds : List Disk). Filled ds (now.layout ++ (x ∷ [])) copies₀ counts₀ (put_mid from size copies part') (set counts i r.count))
            (sym (upto rack i d less is))
            (filled_more (take i rack) now.layout d r.count from size i 2048 copies₀ counts₀ copies counts part'
            now.filled ready.own_copies now.first (omega (arith, slots_are)) (omega (arith, slots_are, room)) (sym number)
            (omega (arith, few_disks_lem, ap length ready.own_counts, length-replicate {A = ℕ} most_disks 0)) read.held.stored (wide ∙ slots_are));
        sum_is = omega (arith, now.sum_is, read.held.summed, served_end now.layout x);
        reads =
            now.reads
            ∙ disks_more (map (map copy_of) now.layout) here (drop i rack) i sum d (drop (i + 1) rack)
            (onward rack i d less is) mine rest (sym (read.reads ∙ same_body))
            ∙ ap₂
            (λ (l : List (List Copy)) (s : ℕ). prefixed l (read_disks saturated (drop (i + 1) rack) ((i + 1) + 1) s rest))
            (sym (copied_end now.layout x)) (ap (λ (n : ℕ). sum + n) (copied_total x ∙ sym read.held.summed));
      }
