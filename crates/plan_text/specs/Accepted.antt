-- Accepted texts, and the line that is refused in a text that is not accepted.
use Rattle.std.specs.Prelude.{ℕ, zero, suc, ◌≡◌, true, cond, List, [], ◌∷◌, eqb}
use Rattle.placement.specs.Plan.{Plan, well_formed}
use Rattle.plan_text.specs.Text.{text_of, line_feed}

-- "Accepted texts are exactly the writer's texts of well-formed plans."
pub record Accepted (text : List ℕ) : Type 0 where
  pub plan : Plan
  pub formed : well_formed plan ≡ true
  pub same : text_of plan ≡ text

-- The first n lines of a text, line feeds included; the last line of a text may lack its own.
abbrev pub upto : ℕ → List ℕ → List ℕ
upto n [] = []
upto zero (b ∷ bs) = []
upto (suc n) (b ∷ bs) = b ∷ upto (cond (eqb b line_feed) n (suc n)) bs

-- Line n + 1 is "the first line that no accepted text has after the lines before it": some accepted text has the
-- same n lines, and none has the same n + 1 lines.
pub record RefusedAfter (text : List ℕ) (n : ℕ) : Type 0 where
  pub begun : (a : List ℕ) × Accepted a × (upto n a ≡ upto n text)
  pub ended : (a : List ℕ) → Accepted a → upto (suc n) a ≡ upto (suc n) text → ⊥

-- The same with the line's number, from 1.
abbrev pub RefusedLine : List ℕ → ℕ → Type 0
RefusedLine text zero = ⊥
RefusedLine text (suc n) = RefusedAfter text n
