-- Sums of prefixes and runs of the list, one item at a time.
use mathlib.Core.Path.{◌≡◌, sym, ap, ◌∙◌, subst}
use mathlib.Core.List.{List, [], ◌∷◌}
use Prim.Native.Nat.{ℕ, zero, suc, ◌+◌, ◌-◌, ◌≤◌, ◌<◌}
use native.Mathlib.Omega.{arith}
use lib.ListN.{length, take, drop, get_or, length-drop}
use lib.Seq.{take_all, take-suc, drop-cons, get_or-drop}
use Rattle.placement.specs.Items.{Item, item, total, amount_of}
use Rattle.placement.proofs.Sums.{sum_by_append}
use Rattle.placement.proofs.ReadBack.{front_length}
use Rattle.planner.specs.Keys.{items_of, item_of}
use Rattle.planner.proofs.Places.{front_at}

-- A prefix with one item more sums to that item's amount more.
total_more : (list : List Item) (i : ℕ) → i < length list → total (take (suc i) list) ≡ total (take i list) + (get_or list i (item 0 0)).amount
total_more list i h =
    ap total (take-suc list i (item 0 0) h) ∙ sum_by_append amount_of (take i list) (get_or list i (item 0 0) ∷ []) ∙ omega arith

-- A run of k items that moves by one loses its first item and gains the next.
total_moves :
    (list : List Item) (k s : ℕ) → s + k < length list
    → (get_or list s (item 0 0)).amount + total (take k (drop (suc s) list)) ≡ total (take k (drop s list)) + (get_or list (s + k) (item 0 0)).amount
total_moves list k s h =
    sym (ap (λ (r : List Item). total (take (suc k) r)) (drop-cons list s (item 0 0) (omega arith)))
    ∙ total_more (drop s list) k (subst (λ (m : ℕ). k < m) (sym (length-drop s list)) (omega arith))
    ∙ ap (λ (x : Item). total (take k (drop s list)) + x.amount) (get_or-drop s list k (item 0 0))

-- A run sums to its first item's amount at least.
total_first : (list : List Item) (k s : ℕ) → 1 ≤ k → s < length list → (get_or list s (item 0 0)).amount ≤ total (take k (drop s list))
total_first list zero s some h = absurd (omega arith)
total_first list (suc k) s some h = omega (arith, ap (λ (r : List Item). total (take (suc k) r)) (drop-cons list s (item 0 0) h))

module _ (keys : List ℕ) (n : ℕ) (room : n ≤ length keys) where
  -- The same of the items of keys.
  pub prefix_more : (i : ℕ) → i < n → total (take (suc i) (items_of n keys)) ≡ total (take i (items_of n keys)) + (item_of (get_or keys i 0)).amount
  prefix_more i h =
      total_more (items_of n keys) i (subst (λ (m : ℕ). i < m) (sym (front_length n keys room)) h)
      ∙ ap (λ (x : Item). total (take i (items_of n keys)) + x.amount) (front_at n keys i h)

  pub run_moves :
      (k s : ℕ) → s + k < n
      → (item_of (get_or keys s 0)).amount + total (take k (drop (suc s) (items_of n keys)))
      ≡ total (take k (drop s (items_of n keys))) + (item_of (get_or keys (s + k) 0)).amount
  run_moves k s h =
      ap (λ (x : Item). x.amount + total (take k (drop (suc s) (items_of n keys)))) (sym (front_at n keys s (omega arith)))
      ∙ total_moves (items_of n keys) k s (subst (λ (m : ℕ). s + k < m) (sym (front_length n keys room)) h)
      ∙ ap (λ (x : Item). total (take k (drop s (items_of n keys))) + x.amount) (front_at n keys (s + k) h)

  pub run_first : (k s : ℕ) → 1 ≤ k → s < n → (item_of (get_or keys s 0)).amount ≤ total (take k (drop s (items_of n keys)))
  run_first k s some h =
      subst (λ (x : Item). x.amount ≤ total (take k (drop s (items_of n keys)))) (front_at n keys s h)
      (total_first (items_of n keys) k s some (subst (λ (m : ℕ). s < m) (sym (front_length n keys room)) h))

  -- A run that goes to the end is all that stands from its start on.
  pub run_whole :
      (k m s : ℕ) → n ≤ s + k → n ≤ s + m → take k (drop s (items_of n keys)) ≡ take m (drop s (items_of n keys))
  run_whole k m s h g = all k h ∙ sym (all m g)
    where
      all : (q : ℕ) → n ≤ s + q → take q (drop s (items_of n keys)) ≡ drop s (items_of n keys)
      all q l =
          take_all q (drop s (items_of n keys))
          (subst (λ (r : ℕ). r ≤ q) (sym (length-drop s (items_of n keys) ∙ ap (λ (r : ℕ). r - s) (front_length n keys room))) (omega arith))
