-- Sums of windows: one film more adds at most the largest demand, so no window that is summed passes the load less 1 plus that.
use mathlib.Core.Path.{◌≡◌, refl, subst}
use mathlib.Core.Bool.{Bool, true, false, cond}
use mathlib.Core.List.{List, [], ◌∷◌, ◌++◌}
use Prim.Native.Nat.{ℕ, zero, suc, ◌+◌, ◌-◌, ◌≤◌, ◌<◌, min}
use native.Mathlib.Omega.{arith}
use borrow.Author.Tests.{leb-false}
use lib.Dec.{leb}
use lib.ListN.{length, take, drop}
use Rattle.placement.specs.Items.{Item, item, total}
use Rattle.placement.specs.Rack.{Disk, disk, most_load, most_demand}
use Rattle.placement.specs.Window.{Window, window, within, series, openings, slidings, window_of}
use Rattle.placement.specs.WellFormed.{Each, Entry, summed, SumBounded}
use Rattle.placement.proofs.Windows.{Windowed, opening, sliding, last, window_cases}

-- A run with one film more.
total_take_suc : (m : ℕ) (xs : List Item) → Each (Entry most_demand) xs → total (take (suc m) xs) ≤ total (take m xs) + most_demand
total_take_suc zero [] entries = omega arith
total_take_suc zero (x ∷ xs) entries = omega (arith, entries.0.amount_most)
total_take_suc (suc m) [] entries = omega arith
total_take_suc (suc m) (x ∷ xs) entries = omega (arith, total_take_suc m xs entries.1)

-- A run that starts one film later.
total_take_next :
    (k s : ℕ) (xs : List Item) → Each (Entry most_demand) xs
    → total (take k (drop (suc s) xs)) ≤ total (take k (drop s xs)) + most_demand
total_take_next k zero [] entries = omega arith
total_take_next k zero (x ∷ xs) entries = omega (arith, total_take_suc k (x ∷ xs) entries)
total_take_next k (suc s) [] entries = omega arith
total_take_next k (suc s) (x ∷ xs) entries = total_take_next k s xs entries.1

module _ (load : ℕ) (list : List Item) (entries : Each (Entry most_demand) list) where
  -- An opening below the load, with one film more, keeps to the bound.
  pub opening_bounded : (m : ℕ) → total (take m list) < load → SumBounded load list (window 0 (suc m))
  opening_bounded m low = omega (arith, total_take_suc m list entries)

  -- So does the window that starts one film behind a window below the load.
  pub sliding_bounded : (k s : ℕ) → total (take k (drop s list)) < load → SumBounded load list (window (suc s) k)
  sliding_bounded k s low = omega (arith, total_take_next k s list entries)

-- The bound in numbers: with the largest load it is 1,065,534.
sum_most : (load : ℕ) (list : List Item) (w : Window) → load ≤ most_load → SumBounded load list w → total (within w list) ≤ 1065534
sum_most load list w most bounded = omega arith

-- A window of two films that reaches it.
sum_reached :
    let films = item 1 65534 ∷ item 2 1000000 ∷ [] in
    total (within (window_of (disk 2 most_load) films) films) ≡ 1065534
sum_reached = refl

-- What every window of a series has, the one at a place has.
each_series :
    (P : Window → Type 0) (w : ℕ → Window) (i n m : ℕ) → Each P (series w i n) → m < n → P (w (i + m))
each_series P w i zero m all h = absurd (omega arith)
each_series P w i (suc n) zero all h = subst (λ (j : ℕ). P (w j)) (omega arith) all.0
each_series P w i (suc n) (suc m) all h =
    subst (λ (j : ℕ). P (w j)) (omega arith) (each_series P w (suc i) n m all.1 (omega arith))

module _ (load : ℕ) (list : List Item) where
  -- The window stays below the load.
  abbrev Below : Window → Type 0
  Below w = total (within w list) < load

  -- All windows of a series that are summed are bounded.
  abbrev Summed : List Window → Type 0
  Summed ws = Each (SumBounded load list) (summed load list ws)

  -- A second series is summed where no window of the first reaches the load.
  summed_append : (vs ws : List Window) → Summed vs → (Each Below vs → Summed ws) → Summed (vs ++ ws)
  summed_append [] ws all more = more tt
  summed_append (v ∷ vs) ws all more =
      (all.0, go (leb load (total (within v list))) refl all.1 (λ rest later. summed_append vs ws rest later))
    where
      go :
          (b : Bool) → leb load (total (within v list)) ≡ b → Each (SumBounded load list) (cond b [] (summed load list vs))
          → (Summed vs → (Each Below vs → Summed ws) → Summed (vs ++ ws))
          → Each (SumBounded load list) (cond b [] (summed load list (vs ++ ws)))
      go true e rest next = tt
      go false e rest next = next rest (λ below. more (leb-false load (total (within v list)) e, below))

  module _ (w : ℕ → Window) (step : (j : ℕ) → total (within (w (suc j)) list) ≤ total (within (w j) list) + most_demand) where
    -- Where each window sums to at most the largest demand more than the one before, none that is summed passes the bound.
    summed_series : (i n : ℕ) → SumBounded load list (w i) → Summed (series w i n)
    summed_series i zero first = tt
    summed_series i (suc n) first =
        (first, go (leb load (total (within (w i) list))) refl (λ next. summed_series (suc i) n next))
      where
        go :
            (b : Bool) → leb load (total (within (w i) list)) ≡ b
            → (SumBounded load list (w (suc i)) → Summed (series w (suc i) n))
            → Each (SumBounded load list) (cond b [] (summed load list (series w (suc i) n)))
        go true e later = tt
        go false e later = later (omega (arith, step i, leb-false load (total (within (w i) list)) e))

module _ (d : Disk) (list : List Item) (some_slots : 1 ≤ d.slots) (some_load : 1 ≤ d.load) (entries : Each (Entry most_demand) list) where
  -- The openings that are summed keep to the bound.
  openings_summed : Summed d.load list (openings d.slots (length list))
  openings_summed =
      summed_series d.load list (λ n. window 0 n) (λ j. total_take_suc j list entries) 1 (min d.slots (length list))
      (opening_bounded d.load list entries 0 some_load)

  -- So do the slidings, which are summed where no opening reaches the load.
  slidings_summed : Each (Below d.load list) (openings d.slots (length list)) → Summed d.load list (slidings d.slots (length list))
  slidings_summed below = go (length list - d.slots) refl
    where
      go : (q : ℕ) → length list - d.slots ≡ q → Summed d.load list (series (λ s. window s d.slots) 1 q)
      go zero e = tt
      go (suc q) e =
          summed_series d.load list (λ s. window s d.slots) (λ j. total_take_next d.slots j list entries) 1 (suc q)
          (sliding_bounded d.load list entries d.slots 0 whole)
        where
          same : 1 + (d.slots - 1) ≡ d.slots
          same = omega arith

          whole : total (take d.slots list) < d.load
          whole =
              subst (λ (k : ℕ). total (take k list) < d.load) same
              (each_series (Below d.load list) (λ n. window 0 n) 1 (min d.slots (length list)) (d.slots - 1) below (omega arith))

  -- Every window that is summed keeps to it.
  pub windows_summed :
      Each (SumBounded d.load list) (summed d.load list (openings d.slots (length list) ++ slidings d.slots (length list)))
  windows_summed =
      summed_append d.load list (openings d.slots (length list)) (slidings d.slots (length list)) openings_summed slidings_summed

  -- So does the disk's window.
  pub window_summed : SumBounded d.load list (window_of d list)
  window_summed = go (window_cases d list some_load)
    where
      go : {w : Window} → Windowed d list w → SumBounded d.load list w
      go (opening m h₁ h₂ reaches before) = opening_bounded d.load list entries m before
      go (sliding s h reaches before low) = sliding_bounded d.load list entries d.slots s before
      go (last below low) = omega arith
