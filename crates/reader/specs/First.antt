-- What the first line is, where its disks stand at the front of a slice of packed disks.
use Rattle.std.specs.Prelude.{ℕ, ◌≤◌, ◌≡◌, List, length, take, Option, IfSome}
use Rattle.placement.specs.Held.{front}
use Rattle.placement.specs.Packed.{disks_in}
use Rattle.plan_text.specs.Text.{mixed_head}
use Rattle.plan_text.specs.Reading.{line, pairs_body, mixed_accepted, rack_read}
use Rattle.plan_text.specs.Capped.{saturated}
use Rattle.reader.specs.Cursor.{parse_by}

-- A mixed line, with as many disks as there are places at most.
pub record MixedRead (text rest rack rack' : List ℕ) (r : Option ℕ) : Type 0 where
  pub reads : parse_by (λ n. front n rack') r rest ≡ line (pairs_body saturated mixed_head (length rack)) mixed_accepted text
  pub few : IfSome r (λ n. n ≤ length rack)

-- The first line of a text, in either form.
pub record FirstRead (text rest rack : List ℕ) (r : Option ℕ) : Type 0 where
  pub reads : parse_by (λ n. disks_in (take n rack)) r rest ≡ rack_read saturated text
  pub few : IfSome r (λ n. n ≤ length rack)
