-- What the lines of all disks are, where their copies stand in tables that were zero.
use Rattle.std.specs.Prelude.{ℕ, ◌+◌, ◌≡◌, true, List, ◌++◌, map, length, Result, IfOk, IfErr}
use Rattle.placement.specs.Items.{Item}
use Rattle.placement.specs.Copies.{Copy, copy_of}
use Rattle.placement.specs.Rack.{Disk, all_slots, rack_accepted}
use Rattle.placement.specs.Method.{served}
use Rattle.placement.specs.Tables.{own_tables, places, written}
use Rattle.plan_text.specs.Reading.{Reading, whole, refused_after, Tail, read_disks, read_left}
use Rattle.plan_text.specs.Capped.{saturated}
use Rattle.refusal.specs.declared.Refusal.{Refusal}
use Rattle.reader.specs.Cursor.{RefusedAt}

-- Tables of zeros for the largest rack, and a rack that is accepted.
pub record DisksReady (rack : List Disk) (copies counts : List ℕ) : Type 0 where
  pub accepted : rack_accepted rack ≡ true
  pub own_copies : copies ≡ own_tables.copies
  pub own_counts : counts ≡ own_tables.counts

-- Disks before what a text says behind them.
abbrev pub prefixed : List (List Copy) → Reading Tail → Reading Tail
prefixed layout (whole tail) = whole (record { copies = layout ++ tail.copies; left = tail.left })
prefixed layout (refused_after n) = refused_after (length layout + n)

-- The tables hold the layout of these disks, unused places zero.
pub record Filled (disks : List Disk) (layout : List (List Item)) (copies counts copies' counts' : List ℕ) : Type 0 where
  pub number : length layout ≡ length disks
  pub whole : length (places disks layout) ≡ all_slots disks
  pub in_copies : copies' ≡ written (places disks layout) copies
  pub in_counts : counts' ≡ written (map length layout) counts

-- What a text says of all disks of a rack and behind them.
abbrev pub disks_at : List ℕ → List Disk → Reading Tail
disks_at text rack = read_disks saturated rack 1 0 text

-- All disk lines fit: their copies, whose halves the tables hold, come before what the rest says.
pub record DisksFit (text rest : List ℕ) (rack : List Disk) (copies counts copies' counts' : List ℕ) (sum : ℕ) : Type 0 where
  pub layout : List (List Item)
  pub filled : Filled rack layout copies counts copies' counts'
  pub sum_is : sum ≡ served layout
  pub reads : disks_at text rack ≡ prefixed (map (map copy_of) layout) (read_left saturated sum rest)

-- The disk lines fit, or one of them is refused.
pub record DisksRead (text rest : List ℕ) (rack : List Disk) (copies counts copies' counts' : List ℕ) (r : Result ℕ Refusal) : Type 0 where
  pub fit : IfOk r (λ sum. DisksFit text rest rack copies counts copies' counts' sum)
  pub stopped : IfErr r (λ e. RefusedAt 2 (disks_at text rack) e)
