-- The sum of the amounts of items, as a number of 64 bits.
use Rattle.std.specs.Prelude.{ℕ, ◌≤◌, min, ◌≡◌, List, length}
use Rattle.placement.specs.Items.{Item, total}

-- The number, or 2⁶⁴ − 1 where the number is larger.
abbrev pub capped : ℕ → ℕ
capped n = min n 18446744073709551615

-- The sum, capped; up to 2³² places it is the plain sum.
pub record Summed (items : List Item) (r : ℕ) : Type 0 where
  pub always : r ≡ capped (total items)
  pub plain : length items ≤ 4294967296 → r ≡ total items
