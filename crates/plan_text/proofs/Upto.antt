-- The first lines of a text: one line and the lines behind it, and the text as its first lines and a rest.
use mathlib.Core.Path.{◌≡◌, refl, sym, ap, ◌∙◌}
use mathlib.Core.Bool.{Bool, true, false, cond, not, ◌&&◌}
use mathlib.Core.List.{List, [], ◌∷◌, ◌++◌}
use Prim.Native.Nat.{ℕ, zero, suc, ◌≤◌}
use native.Mathlib.Omega.{arith}
use borrow.Author.Tests.{not-true}
use lib.Dec.{eqb}
use Rattle.plan_text.specs.Text.{line_feed}
use Rattle.plan_text.specs.Accepted.{upto}
use Rattle.placement.proofs.Conjunctions.{both_true, and_holds, cond_false}

-- No byte is a line feed.
abbrev pub one_line : List ℕ → Bool
one_line [] = true
one_line (b ∷ bs) = not (eqb b line_feed) && one_line bs

-- Two parts without a line feed make one without.
pub one_line_append : (xs ys : List ℕ) → one_line xs ≡ true → one_line ys ≡ true → one_line (xs ++ ys) ≡ true
one_line_append [] ys p q = q
one_line_append (x ∷ xs) ys p q =
    and_holds (not (eqb x line_feed)) (one_line (xs ++ ys)) (both_true (not (eqb x line_feed)) (one_line xs) p).0
    (one_line_append xs ys (both_true (not (eqb x line_feed)) (one_line xs) p).1 q)

-- No lines are no bytes.
pub upto_zero : (t : List ℕ) → upto zero t ≡ []
upto_zero [] = refl
upto_zero (b ∷ bs) = refl

-- A line, then the first lines of what follows.
pub upto_line : (n : ℕ) (line t : List ℕ) → one_line line ≡ true → upto (suc n) (line ++ (line_feed ∷ t)) ≡ line ++ (line_feed ∷ upto n t)
upto_line n [] t p = refl
upto_line n (b ∷ bs) t p =
    ap {B = List ℕ} (λ s. b ∷ s)
    (ap (λ (m : ℕ). upto m (bs ++ (line_feed ∷ t))) (cond_false (eqb b line_feed) n (suc n) (not-true (eqb b line_feed) (both_true (not (eqb b line_feed)) (one_line bs) p).0))
    ∙ upto_line n bs t (both_true (not (eqb b line_feed)) (one_line bs) p).1)

-- A text is its first lines and a rest.
pub upto_rest : (n : ℕ) (t : List ℕ) → (r : List ℕ) × (t ≡ upto n t ++ r)
upto_rest n [] = ([], refl)
upto_rest zero (b ∷ bs) = (b ∷ bs, refl)
upto_rest (suc n) (b ∷ bs) = go (upto_rest (cond (eqb b line_feed) n (suc n)) bs)
  where
    go : (r : List ℕ) × (bs ≡ upto (cond (eqb b line_feed) n (suc n)) bs ++ r) → (r : List ℕ) × ((b ∷ bs) ≡ upto (suc n) (b ∷ bs) ++ r)
    go x = (x.0, ap {B = List ℕ} (λ s. b ∷ s) x.1)

-- The first lines of the first lines.
upto_upto : (n m : ℕ) (t : List ℕ) → n ≤ m → upto n (upto m t) ≡ upto n t
upto_upto n m [] h = refl
upto_upto n zero (b ∷ bs) h =
    let none' : n ≡ 0 = omega arith in
    ap (λ (k : ℕ). upto k []) none' ∙ sym (ap (λ (k : ℕ). upto k (b ∷ bs)) none')
upto_upto zero (suc m) (b ∷ bs) h = refl
upto_upto (suc n) (suc m) (b ∷ bs) h =
    ap {B = List ℕ} (λ s. b ∷ s) (upto_upto (cond (eqb b line_feed) n (suc n)) (cond (eqb b line_feed) m (suc m)) bs (order (eqb b line_feed)))
  where
    order : (c : Bool) → cond c n (suc n) ≤ cond c m (suc m)
    order true = omega arith
    order false = omega arith

-- Texts with the same first m lines have the same first n lines, for n up to m.
pub upto_fewer : (n m : ℕ) (s t : List ℕ) → n ≤ m → upto m s ≡ upto m t → upto n s ≡ upto n t
upto_fewer n m s t h e = sym (upto_upto n m s h) ∙ ap (upto n) e ∙ upto_upto n m t h
