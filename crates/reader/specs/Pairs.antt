-- What the pairs or copies of a line are, where they stand in a slice of entries from the front.
use Rattle.std.specs.Prelude.{ℕ, ◌≤◌, ◌≡◌, List, length, drop, Option, IfSome}
use Rattle.placement.specs.Items.{Item}
use Rattle.placement.specs.Copies.{halves_of}
use Rattle.placement.specs.Held.{front}
use Rattle.plan_text.specs.Parse.{Parse, parsed, next, copy_end, copy_read, spaced_read}
use Rattle.plan_text.specs.Capped.{saturated}
use Rattle.reader.specs.Cursor.{parse_by}

-- The end of a copy, as the halves of the copy.
abbrev pub halves_end : Item → List ℕ → Parse Item
halves_end x text = next (copy_end x text) (λ c t. parsed (halves_of c) t)

-- A copy as the halves of its entry.
abbrev pub halves_read : List ℕ → Parse Item
halves_read text = next (copy_read saturated text) (λ c t. parsed (halves_of c) t)

-- The slice has room for n entries, and the places behind these are as before.
pub record Stored (n : ℕ) (entries entries' : List ℕ) : Type 0 where
  pub few : n ≤ length entries
  pub kept : drop n entries' ≡ drop n entries

-- The pairs or copies, each read by `one`, that a step of the cursor read, as many as there are places.
pub record PairsRead (one : List ℕ → Parse Item) (text rest entries entries' : List ℕ) (r : Option ℕ) : Type 0 where
  pub reads : parse_by (λ n. front n entries') r rest ≡ spaced_read one (length entries) text
  pub stored : IfSome r (λ n. Stored n entries entries')
