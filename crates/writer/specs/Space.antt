-- What an inner writer leaves in the lent space.
use Rattle.std.specs.Prelude.{◌≡◌, ℕ, ◌+◌, ◌^◌, ◌<◌, List, [], ◌∷◌, ◌++◌, length}
use Rattle.std.proofs.lemmas.List.Edits.{sets}
use Rattle.placement.specs.Copies.{Copy}
use Rattle.plan_text.specs.Decimal.{decimal}
use Rattle.plan_text.specs.Text.{space, closed, lines, disks_then}

-- The space holds the bytes from a place on, as far as it reaches, and the next place stands behind them.
pub record Stored (at : ℕ) (bytes entry exit : List ℕ) (next : ℕ) : Type 0 where
  pub held : exit ≡ sets entry at bytes
  pub behind : next ≡ at + length bytes

-- The space keeps its length, and the bytes are stored where the next place is a number of 64 bits.
pub record Put (at : ℕ) (bytes entry exit : List ℕ) (next : ℕ) : Type 0 where
  pub same : length exit ≡ length entry
  pub stored : at + length bytes < 2 ^ 64 → Stored at bytes entry exit next

-- Two numbers with a space between them and a closing bracket behind.
abbrev pub two_text : ℕ → ℕ → List ℕ
two_text a b = decimal a ++ (space ∷ (decimal b ++ (closed ∷ [])))

-- The lines of disks that are numbered from `number` on.
abbrev pub disk_lines : ℕ → List (List Copy) → List ℕ
disk_lines number copies = lines (disks_then number copies [])
