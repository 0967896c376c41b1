-- The end of a text and the served line before it.
use mathlib.Core.Path.{◌≡◌, refl, sym, ap}
use mathlib.Core.Bool.{true}
use mathlib.Core.List.{List, [], ◌∷◌, ◌++◌}
use Prim.Native.Nat.{ℕ, suc}
use native.Mathlib.Omega.{arith}
use Rattle.plan_text.specs.Text.{line_feed, served_line}
use Rattle.plan_text.specs.Accepted.{upto}
use Rattle.plan_text.specs.Reading.{whole, refused_after, text_end, read_served}
use Rattle.plan_text.proofs.Grammar.{Grammar, line_of, whole_refused, refused_count}
use Rattle.plan_text.proofs.LineThen.{grammar_then}
use Rattle.plan_text.proofs.OneLine.{served_one_line}
use Rattle.plan_text.proofs.Bodies.{served_body}

-- Nothing follows the last line.
end_grammar : Grammar (λ b. true) (λ b. []) text_end
end_grammar = record {
  complete = λ b ok. refl;
  passes = λ t b e. refl;
  sound = sound;
  some = (tt, refl);
  begun = begun;
  ended = ended;
}
  where
    sound : (t : List ℕ) (b : Unit {0}) → text_end t ≡ whole b → [] ≡ t
    sound [] b e = refl
    sound (x ∷ xs) b e = whole_refused (sym e)

    begun : (t : List ℕ) (n : ℕ) → text_end t ≡ refused_after n → (b : Unit {0}) × (true ≡ true) × (upto n [] ≡ upto n t)
    begun [] n e = whole_refused e
    begun (x ∷ xs) n e = (tt, refl, ap (λ (k : ℕ). upto k (x ∷ xs)) (refused_count e))

    ended : (t : List ℕ) (n : ℕ) → text_end t ≡ refused_after n → (b : Unit {0}) → true ≡ true → upto (suc n) [] ≡ upto (suc n) t → ⊥
    ended [] n e b ok same = whole_refused e
    ended (x ∷ xs) n e b ok same = let z : ◌≡◌ {A = ℕ} 0 1 = ap (λ (l : List ℕ). leading l) same in absurd (omega arith)
      where
        leading : List ℕ → ℕ
        leading [] = 0
        leading (y ∷ ys) = 1

-- The served line and the end.
pub served_grammar : (s u : ℕ) → Grammar (λ b. true) (λ b. served_line s u ++ (line_feed ∷ [])) (read_served s u)
served_grammar s u =
    grammar_then (line_of (λ a. true) (served_body s u) (λ a e. tt) (λ a. served_one_line s u)) (λ a e. end_grammar)
    (record {
      first = (tt, refl);
      both = λ a b p q. refl;
      split = λ c ok. (tt, tt, refl, refl, refl);
      text = λ a b e. refl;
    })
