-- What the lines of a text are, and where its pairs stand.
use Rattle.std.specs.Prelude.{ℕ, ◌≡◌, Bool, true, cond, List, map, length, Option, IfSome}
use Rattle.placement.specs.Items.{Item, total}
use Rattle.placement.specs.Copies.{copy_of}
use Rattle.placement.specs.Rack.{Disk}
use Rattle.placement.specs.Plan.{copies_accepted}
use Rattle.plan_text.specs.Text.{line_feed, disk_head}
use Rattle.plan_text.specs.Parse.{Parse, parsed, unparsed, next, byte}
use Rattle.plan_text.specs.Reading.{Sizes, line, pairs_body, copies_body}
use Rattle.plan_text.specs.Capped.{saturated}
use Rattle.placement.specs.Held.{front}
use Rattle.placement.specs.declared.rack.Rack.{Rack}
use Rattle.reader.specs.declared.line.PairsLine.{PairsLine}
use Rattle.reader.specs.Cursor.{parse_by}
use Rattle.reader.specs.Pairs.{Stored}

-- A line feed, and the test of the line.
abbrev pub line_end : Bool → List ℕ → Parse (Unit {0})
line_end test text = next (byte line_feed text) (λ u t. cond test (parsed tt t) unparsed)

-- A rack's three numbers.
abbrev pub sizes : Rack → Sizes
sizes rack = record { disks = rack.disks; slots = rack.slots.0; streams = rack.streams.0 }

-- The pairs of a line stand at the front of the entries, passed its test, and have this sum.
pub record LineHeld (test : List Item → Bool) (entries entries' : List ℕ) (l : PairsLine) : Type 0 where
  pub stored : Stored l.count entries entries'
  pub summed : l.sum ≡ total (front l.count entries')
  pub passed : test (front l.count entries') ≡ true

-- A line of pairs behind a head, as many as there are places, with a test of them and their sum.
pub record LineRead (head : List ℕ) (test : List Item → Bool) (text rest entries entries' : List ℕ) (r : Option PairsLine) : Type 0 where
  pub reads : parse_by (λ l. front l.count entries') r rest ≡ line (pairs_body saturated head (length entries)) test text
  pub held : IfSome r (λ l. LineHeld test entries entries' l)

-- A disk's line, with as many copies as there are places, which stand as halves, with the test of the copies and their sum.
pub record DiskRead (number : ℕ) (d : Disk) (text rest entries entries' : List ℕ) (r : Option PairsLine) : Type 0 where
  pub reads :
      parse_by (λ l. map copy_of (front l.count entries')) r rest
      ≡ line (copies_body saturated (disk_head number) (length entries)) (copies_accepted d) text
  pub held : IfSome r (λ l. LineHeld (λ xs. copies_accepted d (map copy_of xs)) entries entries' l)
