-- The window of a disk is an opening, a sliding or the last window, with what its search has shown.
use mathlib.Core.Path.{◌≡◌, refl, sym, ap, subst}
use mathlib.Core.List.{List, [], ◌∷◌}
use Prim.Native.Nat.{ℕ, zero, suc, ◌+◌, ◌-◌, ◌≤◌, ◌<◌, min}
use native.Mathlib.Nat.{zero-min, min-zero, suc-min-suc, min-eq_left}
use native.Mathlib.Omega.{arith}
use lib.ListN.{length, take, drop}
use Rattle.placement.specs.Items.{Item, total}
use Rattle.placement.specs.Rack.{Disk}
use Rattle.placement.specs.Window.{Window, window, within, openings, slidings, last_window, first_reaching, window_of}
use Rattle.placement.proofs.Search.{Search, found, none, first_reaching_append, search_series}

-- The three kinds of windows, with what their search has shown.
pub data Windowed (d : Disk) (list : List Item) : Window → Type 0 where
  opening :
      (m : ℕ) → suc m ≤ d.slots → suc m ≤ length list → d.load ≤ total (take (suc m) list)
      → total (take m list) < d.load
      → Windowed d list (window 0 (suc m))
  sliding :
      (s : ℕ) → suc s + d.slots ≤ length list → d.load ≤ total (take d.slots (drop (suc s) list))
      → total (take d.slots (drop s list)) < d.load → total (take d.slots list) < d.load
      → Windowed d list (window (suc s) d.slots)
  last :
      total (within (last_window d.slots (length list)) list) < d.load → total (take d.slots list) < d.load
      → Windowed d list (last_window d.slots (length list))

-- Taking as many as there are at the most.
pub take_min : (k : ℕ) (xs : List Item) → take (min k (length xs)) xs ≡ take k xs
take_min zero xs = rw zero-min
take_min (suc k) [] = rw min-zero
take_min (suc k) (x ∷ xs) = rw suc-min-suc (ap (λ (r : List Item). x ∷ r) (take_min k xs))

module _ (d : Disk) (list : List Item) (some_load : 1 ≤ d.load) where
  -- No opening reaches the load, so the first slots' films do not.
  opening_below :
      ((m : ℕ) → 1 ≤ m → m < 1 + min d.slots (length list) → total (take m list) < d.load)
      → total (take d.slots list) < d.load
  opening_below below =
      subst (λ (r : List Item). total r < d.load) (take_min d.slots list)
      (go (min d.slots (length list)) below)
    where
      go :
          (q : ℕ) → ((m : ℕ) → 1 ≤ m → m < 1 + q → total (take m list) < d.load) → total (take q list) < d.load
      go zero below = some_load
      go (suc q) below = below (suc q) (omega arith) (omega arith)

  last_below :
      total (take d.slots list) < d.load
      → ((s : ℕ) → 1 ≤ s → s < 1 + (length list - d.slots) → total (take d.slots (drop s list)) < d.load)
      → total (within (last_window d.slots (length list)) list) < d.load
  last_below low below = go (length list - d.slots) refl below
    where
      go :
          (q : ℕ) → length list - d.slots ≡ q
          → ((s : ℕ) → 1 ≤ s → s < 1 + q → total (take d.slots (drop s list)) < d.load)
          → total (take (min d.slots (length list)) (drop q list)) < d.load
      go zero e below = subst (λ (r : List Item). total r < d.load) (sym (take_min d.slots list)) low
      go (suc q) e below =
          subst (λ (m : ℕ). total (take m (drop (suc q) list)) < d.load)
          (sym (min-eq_left {n = d.slots} {m = length list} (omega arith)))
          (below (suc q) (omega arith) (omega arith))

  of_slidings :
      (r : Window) → total (take d.slots list) < d.load
      → Search d.load list (λ s. window s d.slots) 1 (length list - d.slots) (last_window d.slots (length list)) r
      → Windowed d list r
  of_slidings r low (found zero h₁ h₂ reaches earlier) = absurd (omega arith)
  of_slidings r low (found (suc zero) h₁ h₂ reaches earlier) = sliding 0 (omega arith) reaches low low
  of_slidings r low (found (suc (suc s)) h₁ h₂ reaches earlier) =
      sliding (suc s) (omega arith) reaches (earlier (suc s) (omega arith) (omega arith)) low
  of_slidings r low (none earlier) = last (last_below low earlier) low

  of_openings :
      (other r : Window) → (total (take d.slots list) < d.load → Windowed d list other)
      → Search d.load list (λ m. window 0 m) 1 (min d.slots (length list)) other r
      → Windowed d list r
  of_openings other r next (found zero h₁ h₂ reaches earlier) = absurd (omega arith)
  of_openings other r next (found (suc zero) h₁ h₂ reaches earlier) =
      opening 0 (omega arith) (omega arith) reaches some_load
  of_openings other r next (found (suc (suc m)) h₁ h₂ reaches earlier) =
      opening (suc m) (omega arith) (omega arith) reaches
      (earlier (suc m) (omega arith) (omega arith))
  of_openings other r next (none earlier) = next (opening_below earlier)

  -- The window of a disk is an opening, a sliding or the last window.
  pub window_cases : Windowed d list (window_of d list)
  window_cases =
      subst (λ (r : Window). Windowed d list r)
      (sym (first_reaching_append d.load list (openings d.slots (length list)) (slidings d.slots (length list))
      (last_window d.slots (length list))))
      (of_openings
      (first_reaching d.load list (slidings d.slots (length list)) (last_window d.slots (length list)))
      _
      (λ low. of_slidings _ low
      (search_series d.load list (λ s. window s d.slots) (last_window d.slots (length list)) 1 (length list - d.slots)))
      (search_series d.load list (λ m. window 0 m)
      (first_reaching d.load list (slidings d.slots (length list)) (last_window d.slots (length list))) 1
      (min d.slots (length list))))
