-- What is known of the window of a disk in each of its cases (facts 1 to 4 of demand 3's argument).
use mathlib.Core.Path.{◌≡◌, refl, sym, ap, ◌∙◌, subst}
use mathlib.Core.List.{List}
use Prim.Native.Nat.{ℕ, zero, suc, ◌+◌, ◌-◌, ◌≤◌, ◌<◌, min}
use native.Mathlib.Omega.{arith}
use lib.ListN.{length, take, drop, length-drop}
use lib.Seq.{length-take-le, take-take, drop-cons}
use Rattle.placement.specs.Items.{Item, item, total}
use Rattle.placement.specs.Rack.{Disk}
use Rattle.placement.specs.Disk.{all_but_last}
use Rattle.placement.specs.Window.{Window, within}
pub use Rattle.placement.proofs.WindowCases.{Windowed, opening, sliding, last, window_cases}

-- A window lies inside the list and has at most as many films as the disk has slots.
pub window_inside : {d : Disk} {list : List Item} {w : Window} → Windowed d list w → w.start + w.size ≤ length list
window_inside (opening m h₁ h₂ reaches before) = omega arith
window_inside (sliding s h reaches before low) = omega arith
window_inside (last below low) = omega arith

pub window_size : {d : Disk} {list : List Item} {w : Window} → Windowed d list w → w.size ≤ d.slots
window_size (opening m h₁ h₂ reaches before) = omega arith
window_size (sliding s h reaches before low) = omega arith
window_size (last below low) = omega arith

-- All films of a prefix but its last.
all_but_last_take : (m : ℕ) (xs : List Item) → suc m ≤ length xs → all_but_last (take (suc m) xs) ≡ take m xs
all_but_last_take m xs h =
    ap (λ (n : ℕ). take n (take (suc m) xs)) (fewer (length-take-le (suc m) xs h)) ∙ take-take m (suc m) xs (omega arith)
  where
    fewer : {n : ℕ} → n ≡ suc m → n - 1 ≡ m
    fewer e = omega arith

-- A run without its first film sums to no more.
total_slide : (k s : ℕ) (xs : List Item) → s < length xs → total (take k (drop (suc s) xs)) ≤ total (take (suc k) (drop s xs))
total_slide k s xs h =
    subst (λ (r : List Item). total (take k (drop (suc s) xs)) ≤ total (take (suc k) r)) (sym (drop-cons xs s (item 0 0) h))
    (omega arith)

-- In a window that reaches the load, all films but the last stay below it: the last one is needed (fact 2).
pub window_last_needed :
    {d : Disk} {list : List Item} {w : Window} → 1 ≤ d.slots → Windowed d list w → d.load ≤ total (within w list)
    → total (all_but_last (within w list)) < d.load
window_last_needed {d} {list} some (opening m h₁ h₂ reaches before) _ =
    subst (λ (r : List Item). total r < d.load) (sym (all_but_last_take m list h₂)) before
window_last_needed {d} {list} some (sliding s h reaches before low) _ = go d.slots some h before
  where
    go :
        (k : ℕ) → 1 ≤ k → suc s + k ≤ length list → total (take k (drop s list)) < d.load
        → total (all_but_last (take k (drop (suc s) list))) < d.load
    go zero some h before = absurd (omega arith)
    go (suc k) some h before =
        subst (λ (r : List Item). total r < d.load)
        (sym (all_but_last_take k (drop (suc s) list) (subst (λ (n : ℕ). suc k ≤ n) (sym (length-drop (suc s) list)) (omega arith))))
        (omega (arith, total_slide k s list (omega arith)))
window_last_needed some (last below low) h = absurd (omega arith)

-- A window that reaches the load has a film.
pub window_some :
    {d : Disk} {list : List Item} {w : Window} → 1 ≤ d.slots → Windowed d list w → d.load ≤ total (within w list) → 1 ≤ w.size
window_some some (opening m h₁ h₂ reaches before) _ = omega arith
window_some some (sliding s h reaches before low) _ = some
window_some some (last below low) h = absurd (omega arith)

-- One that does not start the list has all slots' films, and the opening ones stay below the load (fact 4).
pub window_later :
    {d : Disk} {list : List Item} {w : Window} → Windowed d list w → d.load ≤ total (within w list) → 1 ≤ w.start
    → (w.size ≡ d.slots) × (total (take d.slots list) < d.load)
window_later (opening m h₁ h₂ reaches before) _ h = absurd (omega arith)
window_later (sliding s h reaches before low) _ _ = (refl, low)
window_later (last below low) h _ = absurd (omega arith)

-- A window below the load ends the list, has all slots' films or the whole list, and the opening ones stay below too (fact 3).
pub window_below :
    {d : Disk} {list : List Item} {w : Window} → Windowed d list w → total (within w list) < d.load
    → (w.start + w.size ≡ length list) × (w.size ≡ min d.slots (length list)) × (total (take d.slots list) < d.load)
window_below (opening m h₁ h₂ reaches before) h = absurd (omega arith)
window_below (sliding s inside reaches before low) h = absurd (omega arith)
window_below (last below low) _ = (omega arith, refl, low)
