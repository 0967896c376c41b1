-- The search for the first window that reaches the load, through a series of windows.
use mathlib.Core.Path.{◌≡◌, refl, ap, subst}
use mathlib.Core.Logic.{◌⊎◌, inl, inr}
use mathlib.Core.Bool.{Bool, true, false, cond}
use mathlib.Core.List.{List, [], ◌∷◌, ◌++◌}
use Prim.Native.Nat.{ℕ, zero, suc, ◌+◌, ◌≤◌, ◌<◌}
use native.Mathlib.Nat.{eq-or-lt_of_le}
use native.Mathlib.Omega.{arith}
use borrow.Author.Tests.{leb-true, leb-false}
use lib.Dec.{leb}
use Rattle.placement.specs.Items.{Item, total}
use Rattle.placement.specs.Window.{Window, within, series, first_reaching}

-- What a search through `series w i n` comes to: the first window that reaches the load, or none does and the search goes on.
pub data Search (load : ℕ) (list : List Item) (w : ℕ → Window) (i n : ℕ) (other : Window) : Window → Type 0 where
  found :
      (j : ℕ) → i ≤ j → j < i + n → load ≤ total (within (w j) list)
      → ((m : ℕ) → i ≤ m → m < j → total (within (w m) list) < load)
      → Search load list w i n other (w j)
  none : ((m : ℕ) → i ≤ m → m < i + n → total (within (w m) list) < load) → Search load list w i n other other

module _ (load : ℕ) (list : List Item) where
  -- A search through two lists goes on with the second.
  pub first_reaching_append :
      (vs ws : List Window) (other : Window)
      → first_reaching load list (vs ++ ws) other ≡ first_reaching load list vs (first_reaching load list ws other)
  first_reaching_append [] ws other = refl
  first_reaching_append (v ∷ vs) ws other =
      ap (λ (r : Window). cond (leb load (total (within v list))) v r) (first_reaching_append vs ws other)

  module _ (w : ℕ → Window) (other : Window) where
    -- What holds at i and from i + 1 on holds from i on.
    from_here :
        (i : ℕ) (P : ℕ → Type 0) → P i → ((m : ℕ) → suc i ≤ m → P m) → (m : ℕ) → i ≤ m → P m
    from_here i P here later m h = go (eq-or-lt_of_le h)
      where
        go : (i ≡ m) ⊎ (i < m) → P m
        go (inl e) = subst P e here
        go (inr l) = later m l

    step :
        (i n : ℕ) (r : Window) → total (within (w i) list) < load → Search load list w (suc i) n other r → Search load list w i (suc n) other r
    step i n r low (found j h₁ h₂ reaches earlier) =
        found j (omega arith) (omega arith) reaches
        (from_here i (λ m. m < j → total (within (w m) list) < load) (λ _. low) (λ m h l. earlier m h l))
    step i n r low (none earlier) =
        none
        (from_here i (λ m. m < i + suc n → total (within (w m) list) < load) (λ _. low)
        (λ m h l. earlier m h (omega arith)))

    -- The search through a series of windows.
    pub search_series : (i n : ℕ) → Search load list w i n other (first_reaching load list (series w i n) other)
    search_series i zero = none (λ m h l. absurd (omega arith))
    search_series i (suc n) = go (leb load (total (within (w i) list))) refl (search_series (suc i) n)
      where
        go :
            (b : Bool) → leb load (total (within (w i) list)) ≡ b
            → Search load list w (suc i) n other (first_reaching load list (series w (suc i) n) other)
            → Search load list w i (suc n) other (cond b (w i) (first_reaching load list (series w (suc i) n) other))
        go true e later = found i (omega arith) (omega arith) (leb-true _ _ e) (λ m h l. absurd (omega arith))
        go false e later = step i n _ (leb-false _ _ e) later
