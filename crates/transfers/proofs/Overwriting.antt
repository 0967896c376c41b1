-- A list that is overwritten from the front, member by member.
use mathlib.Core.Path.{◌≡◌, refl, ap, ap₂, sym, ◌∙◌}
use mathlib.Core.List.{List, [], ◌∷◌, ◌++◌, append_assoc}
use Prim.Native.Nat.{ℕ, zero, suc, ◌+◌, ◌<◌}
use native.Mathlib.Numerals.{add-one}
use native.Mathlib.Omega.{arith}
use lib.ListN.{length, take, drop, get_or, set}
use lib.Seq.{take-length, drop-cons, get_or_at, set_at}

-- The first i members of one list, and those of the other behind them.
abbrev pub replaced_to : {A : Type 0} → (new old : List A) → ℕ → List A
replaced_to new old i = take i new ++ drop i old

module _ {A : Type 0} (none : A) where
  step : (new old : List A) (i : ℕ) → i < length new → i < length old → set (replaced_to new old i) i (get_or new i none) ≡ replaced_to new old (suc i)
  step [] old i h k = absurd (omega arith)
  step (x ∷ new) [] i h k = absurd (omega arith)
  step (x ∷ new) (y ∷ old) zero h k = refl
  step (x ∷ new) (y ∷ old) (suc i) h k = ap (λ (r : List A). x ∷ r) (step new old i (omega arith) (omega arith))

  -- One member more.
  pub replaced_more : (new old : List A) (i : ℕ) → i < length new → i < length old → set (replaced_to new old i) i (get_or new i none) ≡ replaced_to new old (i + 1)
  replaced_more new old i h k = rw add-one (step new old i h k)

  -- All of them.
  pub replaced_all : (new old : List A) (i n : ℕ) → i ≡ n → length new ≡ n → replaced_to new old i ≡ new ++ drop n old
  replaced_all new old i n e l =
      ap (λ (k : ℕ). take k new ++ drop k old) (e ∙ sym l) ∙ ap₂ ◌++◌ (take-length new) (ap (λ (k : ℕ). drop k old) l)

-- Behind a front as long as the place, the members are those of the list from the place on.
module _ (front xs : List ℕ) (i : ℕ) (long : length front ≡ i) (less : i < length xs) where
  here : front ++ drop i xs ≡ front ++ (get_or xs i 0 ∷ drop (i + 1) xs)
  here = ap (λ (rest : List ℕ). front ++ rest) (rw add-one (drop-cons xs i 0 less))

  -- The next one,
  pub front_next : get_or (front ++ drop i xs) i 0 ≡ get_or xs i 0
  front_next = ap (λ (l : List ℕ). get_or l i 0) here ∙ get_or_at front (get_or xs i 0) (drop (i + 1) xs) 0 i long

  -- and another one in its place, which makes the front longer.
  pub front_more : (v : ℕ) → set (front ++ drop i xs) i v ≡ (front ++ (v ∷ [])) ++ drop (i + 1) xs
  front_more v =
      ap (λ (l : List ℕ). set l i v) here ∙ set_at front (get_or xs i 0) (drop (i + 1) xs) v i long ∙ sym (append_assoc front (v ∷ []) (drop (i + 1) xs))
