-- The run of keys that a window is, and the list with less for its last item: their items and entries.
use mathlib.Core.Path.{◌≡◌, refl, sym, ap, ◌∙◌, subst}
use mathlib.Core.List.{List, [], ◌∷◌, map}
use Prim.Native.Nat.{ℕ, zero, suc, ◌+◌, ◌-◌, ◌≤◌, ◌<◌}
use native.Mathlib.Nat.{sub-zero}
use native.Mathlib.Omega.{arith}
use lib.ListN.{length, drop, get_or, length-map, length-drop, get_or-map, get_or-eq_default}
use lib.Seq.{get_or-drop}
use Rattle.placement.specs.Items.{Item, item}
use Rattle.placement.specs.Disk.{last_film}
use Rattle.placement.specs.Tables.{entry_of}
use Rattle.placement.proofs.ReadBack.{front_length}
use Rattle.planner.specs.Keys.{item_of}
use Rattle.planner.specs.Copies.{run_of, less_last}
use Rattle.planner.proofs.Places.{front_at}

module _ (over : ℕ) where
  -- Less for the last item: as many items,
  pub less_last_length : (xs : List Item) → length (less_last over xs) ≡ length xs
  less_last_length [] = refl
  less_last_length (x ∷ []) = refl
  less_last_length (x ∷ y ∷ ys) = ap suc (less_last_length (y ∷ ys))

  -- the same ones before the last,
  less_last_early : (xs : List Item) (i : ℕ) → suc i < length xs → get_or (less_last over xs) i (item 0 0) ≡ get_or xs i (item 0 0)
  less_last_early [] i h = absurd (omega arith)
  less_last_early (x ∷ []) i h = absurd (omega arith)
  less_last_early (x ∷ y ∷ ys) zero h = refl
  less_last_early (x ∷ y ∷ ys) (suc i) h = less_last_early (y ∷ ys) i (omega arith)

  -- and `over` less for the last.
  less_last_last :
      (xs : List Item) (i : ℕ) → suc i ≡ length xs
      → get_or (less_last over xs) i (item 0 0) ≡ item (get_or xs i (item 0 0)).film ((get_or xs i (item 0 0)).amount - over)
  less_last_last [] i h = absurd (omega arith)
  less_last_last (x ∷ []) zero h = refl
  less_last_last (x ∷ []) (suc i) h = absurd (omega arith)
  less_last_last (x ∷ y ∷ ys) zero h = absurd (omega arith)
  less_last_last (x ∷ y ∷ ys) (suc i) h = less_last_last (y ∷ ys) i (omega arith)

-- Nothing less leaves the list.
pub less_last_none : (xs : List Item) → less_last 0 xs ≡ xs
less_last_none [] = refl
less_last_none (x ∷ []) = ap (λ (a : ℕ). item x.film a ∷ []) (sub-zero x.amount)
less_last_none (x ∷ y ∷ ys) = ap (λ (r : List Item). x ∷ r) (less_last_none (y ∷ ys))

-- The run with less for its last film, as entries.
abbrev pub entries_of : List ℕ → ℕ → ℕ → ℕ → List ℕ
entries_of keys start size over = map entry_of (less_last over (run_of keys start size))

module _ (keys : List ℕ) (start size : ℕ) (inside : start + size ≤ length keys) where
  -- A run of `size` keys.
  pub run_length : length (run_of keys start size) ≡ size
  run_length = front_length size (drop start keys) (subst (λ (n : ℕ). size ≤ n) (sym (length-drop start keys)) (omega arith))

  run_at : (i : ℕ) → i < size → get_or (run_of keys start size) i (item 0 0) ≡ item_of (get_or keys (start + i) 0)
  run_at i h = front_at size (drop start keys) i h ∙ ap item_of (get_or-drop start keys i 0)

  -- Its last film is that of its last key.
  pub run_last : 1 ≤ size → last_film (run_of keys start size) ≡ item_of (get_or keys (start + (size - 1)) 0)
  run_last some =
      ap (λ (m : ℕ). get_or (run_of keys start size) (m - 1) (item 0 0)) run_length ∙ run_at (size - 1) (omega arith)

  module _ (over : ℕ) where
    -- They are as many as the run.
    pub entries_length : length (entries_of keys start size over) ≡ size
    entries_length =
        length-map (less_last over (run_of keys start size)) entry_of ∙ less_last_length over (run_of keys start size) ∙ run_length

    module _ (place : ℕ) where
      -- An entry is that of its item.
      entry_is : get_or (entries_of keys start size over) place 0 ≡ entry_of (get_or (less_last over (run_of keys start size)) place (item 0 0))
      entry_is = get_or-map entry_of (less_last over (run_of keys start size)) place (item 0 0)

      -- Behind the run there is none,
      pub entry_behind : size ≤ place → 0 ≡ get_or (entries_of keys start size over) place 0
      entry_behind h = sym (get_or-eq_default (entries_of keys start size over) 0 (subst (λ (n : ℕ). n ≤ place) (sym entries_length) h))

      -- before its last film it is the key's,
      pub entry_early : place + 1 < size → entry_of (item_of (get_or keys (start + place) 0)) ≡ get_or (entries_of keys start size over) place 0
      entry_early h =
          sym
          (entry_is
          ∙ ap entry_of (less_last_early over (run_of keys start size) place (omega (arith, run_length)) ∙ run_at place (omega arith)))

      -- and at its last film it has `over` less.
      pub entry_last :
          (key : ℕ) → key ≡ get_or keys (start + place) 0 → place < size → size ≤ place + 1
          → entry_of (item (item_of key).film ((item_of key).amount - over)) ≡ get_or (entries_of keys start size over) place 0
      entry_last key is h g =
          ap (λ (k : ℕ). entry_of (item (item_of k).film ((item_of k).amount - over))) is
          ∙ sym
          (entry_is
          ∙ ap entry_of
          (less_last_last over (run_of keys start size) place (omega (arith, run_length))
          ∙ ap (λ (x : Item). item x.film (x.amount - over)) (run_at place h)))

      pub entry_over :
          (key : ℕ) → key ≡ get_or keys (start + place) 0 → over ≤ (last_film (run_of keys start size)).amount → place < size → size ≤ place + 1
          → over ≤ (item_of key).amount
      entry_over key is rest h g =
          subst (λ (x : Item). over ≤ x.amount)
          (run_last (omega arith) ∙ ap (λ (i : ℕ). item_of (get_or keys (start + i) 0)) ends ∙ ap item_of (sym is)) rest
        where
          ends : size - 1 ≡ place
          ends = omega arith
