-- Tables that are overwritten from the front, and lists with zeros behind: their lengths, first places and what stands behind.
use mathlib.Core.Path.{◌≡◌, refl, sym, ap, ap₂, subst, ◌∙◌}
use mathlib.Core.List.{List, [], ◌∷◌, ◌++◌, append_assoc}
use Prim.Native.Nat.{ℕ, zero, suc, ◌+◌, ◌-◌, ◌≤◌, ◌<◌}
use native.Mathlib.Numerals.{add-one}
use native.Mathlib.Omega.{arith}
use lib.ListN.{length, take, drop, get_or, set, replicate, length-append, length-replicate, length-take, length-drop, take-append-drop}
use lib.Seq.{take_at, drop_at, drop-drop, take-length}
use borrow.Rule.Slice.PartMut.{put_mid}
use Rattle.placement.specs.Tables.{padded, written}

-- A padded list that fits has the places it is padded to.
pub padded_length : (n : ℕ) (xs : List ℕ) → length xs ≤ n → length (padded n xs) ≡ n
padded_length n xs fits =
    omega (arith, length-append xs (replicate (n - length xs) 0), length-replicate {A = ℕ} (n - length xs) 0)

module _ (n : ℕ) (xs rest : List ℕ) where
  -- The first places of a padded list, which more may follow, are the list.
  pub padded_front : (m : ℕ) → length xs ≡ m → take m (padded n xs ++ rest) ≡ xs
  padded_front m e =
      ap (take m) (append_assoc xs (replicate (n - length xs) 0) rest) ∙ take_at xs (replicate (n - length xs) 0 ++ rest) m e

  -- The places behind them are zero.
  pub padded_zeros : (m : ℕ) → length xs ≡ m → take (n - m) (drop m (padded n xs ++ rest)) ≡ replicate (n - m) 0
  padded_zeros m e =
      ap (λ (l : List ℕ). take (n - m) (drop m l)) (append_assoc xs zeros rest)
      ∙ ap (take (n - m)) (drop_at xs (zeros ++ rest) m e)
      ∙ take_at zeros rest (n - m) (length-replicate (n - length xs) 0 ∙ ap (λ (i : ℕ). n - i) e)
      ∙ ap (λ (i : ℕ). replicate (n - i) 0) e
    where
      zeros : List ℕ
      zeros = replicate (n - length xs) 0

  -- Behind all its places stands what follows.
  pub padded_behind : length xs ≤ n → drop n (padded n xs ++ rest) ≡ rest
  padded_behind fits = drop_at (padded n xs) rest n (padded_length n xs fits)

-- An entry of a padded list is that of the list, or 0 behind it.
pub padded_at : (n : ℕ) (xs : List ℕ) (i : ℕ) → get_or (padded n xs) i 0 ≡ get_or xs i 0
padded_at n xs i = go xs (n - length xs) i
  where
    zeros : (m i : ℕ) → ◌≡◌ {A = ℕ} (get_or (replicate m 0) i 0) 0
    zeros zero i = refl
    zeros (suc m) zero = refl
    zeros (suc m) (suc i) = zeros m i

    go : (xs : List ℕ) (m i : ℕ) → get_or (xs ++ replicate m 0) i 0 ≡ get_or xs i 0
    go [] m i = zeros m i
    go (x ∷ xs) m zero = refl
    go (x ∷ xs) m (suc i) = go xs m i

-- A list of zeros with its first places overwritten is the padded list.
pub zeros_written : (n : ℕ) (xs : List ℕ) → written xs (replicate n 0) ≡ padded n xs
zeros_written n xs = ap (λ (l : List ℕ). xs ++ l) (go (length xs) n)
  where
    zeros : ℕ → List ℕ
    zeros n = replicate n 0

    go : (m n : ℕ) → drop m (zeros n) ≡ zeros (n - m)
    go zero n = let e : n ≡ n - 0 = omega arith in ap zeros e
    go (suc m) zero = let e : 0 ≡ 0 - suc m = omega arith in ap zeros e
    go (suc m) (suc n) = go m n ∙ (let e : n - m ≡ suc n - suc m = omega arith in ap zeros e)

module _ (new old : List ℕ) where
  -- A table that is overwritten keeps its length.
  pub written_length : length new ≤ length old → length (written new old) ≡ length old
  written_length fits = omega (arith, length-append new (drop (length new) old), length-drop (length new) old)

  -- Its first places are what overwrote it, and what stands behind them is untouched.
  pub written_front : (n : ℕ) → length new ≡ n → take n (written new old) ≡ new
  written_front n e = take_at new (drop (length new) old) n e

  pub written_behind : (n : ℕ) → length new ≡ n → drop n (written new old) ≡ drop n old
  written_behind n e = drop_at new (drop (length new) old) n e ∙ ap (λ (i : ℕ). drop i old) e

-- More behind what is written.
pub written_more : (new more old : List ℕ) → new ++ written more (drop (length new) old) ≡ written (new ++ more) old
written_more new more old =
    ap (λ (r : List ℕ). new ++ (more ++ r)) (drop-drop (length more) (length new) old)
    ∙ sym (append_assoc new more (drop (length new + length more) old))
    ∙ ap (λ (n : ℕ). (new ++ more) ++ drop n old) (sym (length-append new more))

-- One place more.
pub written_one :
    (new old now : List ℕ) (i v : ℕ) → now ≡ written new old → length new ≡ i → i < length old
    → set now i v ≡ written (new ++ (v ∷ [])) old
written_one new old now i v e l h =
    ap₂ (λ (t : List ℕ) (n : ℕ). set t n v) e (sym l) ∙ go new old (subst (λ (n : ℕ). n < length old) (sym l) h)
  where
    go : (new old : List ℕ) → length new < length old → set (written new old) (length new) v ≡ written (new ++ (v ∷ [])) old
    go [] [] h = absurd (omega arith)
    go [] (o ∷ old) h = refl
    go (n ∷ new) [] h = absurd (omega arith)
    go (n ∷ new) (o ∷ old) h = ap (λ (r : List ℕ). n ∷ r) (go new old (omega arith))

-- A part that is lent, overwritten at its front, and comes back with what stands behind it.
part_back : (k : ℕ) (more rest : List ℕ) → length more ≤ k → written more (take k rest) ++ drop k rest ≡ written more rest
part_back k more rest fits =
    append_assoc more (drop (length more) (take k rest)) (drop k rest) ∙ ap (λ (r : List ℕ). more ++ r) (go (length more) k rest fits)
  where
    go : (m k : ℕ) (rest : List ℕ) → m ≤ k → drop m (take k rest) ++ drop k rest ≡ drop m rest
    go zero k rest h = take-append-drop k rest
    go (suc m) zero rest h = absurd (omega arith)
    go (suc m) (suc k) [] h = refl
    go (suc m) (suc k) (r ∷ rest) h = go m k rest (omega arith)

-- A table is overwritten up to place a; k places from there on are lent and come back written at their front.
pub written_part :
    (new more old now part : List ℕ) (a k : ℕ) → now ≡ written new old → length new ≡ a → length more ≤ k
    → part ≡ written more (take k (drop a now)) → put_mid a k now part ≡ written (new ++ more) old
written_part new more old now part a k e l fits p =
    ap₂ ◌++◌ (ap (take a) e ∙ written_front new old a l)
    (ap (λ (r : List ℕ). r ++ drop k (drop a now)) p ∙ part_back k more (drop a now) fits
    ∙ ap (written more) (ap (drop a) e ∙ written_behind new old a l ∙ ap (λ (n : ℕ). drop n old) (sym l)))
    ∙ written_more new more old

-- A part from a on has room for what fits behind a.
pub part_room : (now : List ℕ) (a k : ℕ) → a + k ≤ length now → k ≤ length (take (length now - a) (drop a now))
part_room now a k h = omega (arith, length-take (length now - a) (drop a now), length-drop a now)

-- The first i places hold the new list's first i entries.
abbrev pub overwritten : List ℕ → List ℕ → ℕ → List ℕ
overwritten new old i = take i new ++ drop i old

-- A table that is overwritten place by place: one place more, its length, and all places.
module _ (new old : List ℕ) where
  pub overwritten_more :
      (i : ℕ) → i < length new → i < length old → set (overwritten new old i) i (get_or new i 0) ≡ overwritten new old (i + 1)
  overwritten_more i h k = go new old i h k ∙ ap (overwritten new old) (sym (add-one i))
    where
      go :
          (new old : List ℕ) (i : ℕ) → i < length new → i < length old
          → set (overwritten new old i) i (get_or new i 0) ≡ overwritten new old (suc i)
      go [] old i h k = absurd (omega arith)
      go (x ∷ new) [] i h k = absurd (omega arith)
      go (x ∷ new) (y ∷ old) zero h k = refl
      go (x ∷ new) (y ∷ old) (suc i) h k = ap (λ (r : List ℕ). x ∷ r) (go new old i (omega arith) (omega arith))

  pub overwritten_length : (i : ℕ) → i ≤ length new → i ≤ length old → length (overwritten new old i) ≡ length old
  overwritten_length i h k = omega (arith, length-append (take i new) (drop i old), length-take i new, length-drop i old)

  pub overwritten_all : (n : ℕ) → length new ≡ n → overwritten new old n ≡ written new old
  overwritten_all n e =
      ap (overwritten new old) (sym e) ∙ ap (λ (r : List ℕ). r ++ drop (length new) old) (take-length new)
