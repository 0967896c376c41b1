-- What the search through the opening films answers.
use Rattle.std.specs.Prelude.{ℕ, ◌<◌, min, ◌≡◌, cond, List, leb, length, take}
use Rattle.placement.specs.Items.{Item, total}
use Rattle.placement.specs.Window.{Window, window, openings, first_reaching}

-- The first `count` films sum to `sum`. They are the first opening that reaches the load, or none does and they are the longest one.
pub record Opened (slots load : ℕ) (list : List Item) (count sum : ℕ) : Type 0 where
  pub search :
      (other : Window)
      → first_reaching load list (openings slots (length list)) other ≡ cond (leb load sum) (window 0 count) other
  pub sums : sum ≡ total (take count list)
  pub longest : sum < load → count ≡ min slots (length list)
