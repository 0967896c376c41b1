-- One step of a search through a series of windows.
use mathlib.Core.Path.{◌≡◌, ap, ◌∙◌}
use mathlib.Core.Bool.{Bool, cond}
use mathlib.Core.List.{List}
use Prim.Native.Nat.{ℕ, suc, ◌≤◌, ◌<◌}
use borrow.Author.Tests.{le-leb, lt-leb}
use Rattle.placement.specs.Items.{Item, total}
use Rattle.placement.specs.Window.{Window, within, series, first_reaching}

module _ (load : ℕ) (list : List Item) (w : ℕ → Window) (other : Window) (i n m : ℕ) (more : n ≡ suc m) where
  -- A window below the load is passed.
  pub search_passes :
      total (within (w i) list) < load
      → first_reaching load list (series w i n) other ≡ first_reaching load list (series w (suc i) m) other
  search_passes h =
      ap (λ (q : ℕ). first_reaching load list (series w i q) other) more
      ∙ ap (λ (b : Bool). cond b (w i) (first_reaching load list (series w (suc i) m) other)) (lt-leb load (total (within (w i) list)) h)

  -- A window that reaches the load is found.
  pub search_finds : load ≤ total (within (w i) list) → first_reaching load list (series w i n) other ≡ w i
  search_finds h =
      ap (λ (q : ℕ). first_reaching load list (series w i q) other) more
      ∙ ap (λ (b : Bool). cond b (w i) (first_reaching load list (series w (suc i) m) other)) (le-leb load (total (within (w i) list)) h)
