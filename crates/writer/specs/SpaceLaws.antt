-- Runs of bytes stored in a space: one behind the other they are one run.
use Rattle.std.proofs.Common.{◌≡◌, ℕ, suc, ◌+◌, List, [], ◌∷◌, ◌++◌, length, set, sym, refl, ap, ◌∙◌, arith, length-append}
use lib.Seq.{sets}
use Rattle.writer.specs.Space.{Stored, Put}

-- Storing two runs together is storing one behind the other.
sets_append : (l : List ℕ) (i : ℕ) (xs ys : List ℕ) → sets l i (xs ++ ys) ≡ sets (sets l i xs) (i + length xs) ys
sets_append l i [] ys =
    let e : i ≡ i + 0 = omega arith in
    ap (λ (k : ℕ). sets l k ys) e
sets_append l i (x ∷ xs) ys =
    let e : suc i + length xs ≡ i + suc (length xs) = omega arith in
    sets_append (set l i x) (suc i) xs ys ∙ ap (λ (k : ℕ). sets (sets (set l i x) (suc i) xs) k ys) e

-- Runs that are stored, one behind the other.
stored_then :
    {at : ℕ} {xs ys entry between exit : List ℕ} {next beyond : ℕ}
    → Stored at xs entry between next → Stored next ys between exit beyond → Stored at (xs ++ ys) entry exit beyond
stored_then {at} {xs} {ys} {entry} {between} {exit} {next} p q = record {
  held =
      q.held
      ∙ ap (λ (s : List ℕ). sets s next ys) p.held
      ∙ ap (λ (k : ℕ). sets (sets entry at xs) k ys) p.behind
      ∙ sym (sets_append entry at xs ys);
  behind = omega (arith, p.behind, q.behind, length-append xs ys);
}

-- Two runs, one behind the other, are one run.
pub put_then :
    {at : ℕ} {xs ys entry between exit : List ℕ} {next beyond : ℕ}
    → Put at xs entry between next → Put next ys between exit beyond → Put at (xs ++ ys) entry exit beyond
put_then {at} {xs} {ys} p q = record {
  same = q.same ∙ p.same;
  stored = λ few.
      let first = p.stored (omega (arith, few, length-append xs ys)) in
      stored_then first (q.stored (omega (arith, few, length-append xs ys, first.behind)));
}

-- No byte.
pub put_none : (at : ℕ) (entry : List ℕ) → Put at [] entry entry at
put_none at entry = record { same = refl; stored = λ few. record { held = refl; behind = omega arith } }
