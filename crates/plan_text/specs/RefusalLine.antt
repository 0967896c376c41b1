-- "A refusal prints `(refused 1)`, with a second number where the paragraphs below give one."
use Rattle.std.specs.Prelude.{ℕ, zero, suc, List, [], ◌∷◌, ◌++◌}
use Rattle.plan_text.specs.Ascii.{ascii}
use Rattle.plan_text.specs.Decimal.{decimal}
use Rattle.plan_text.specs.Text.{space, closed, lines}

-- What follows a refusal's number: the second number, where there is one, and the closing bracket. 0 stands for none.
abbrev pub refusal_end : ℕ → List ℕ
refusal_end zero = closed ∷ []
refusal_end (suc n) = space ∷ (decimal (suc n) ++ (closed ∷ []))

abbrev pub refusal_line : ℕ → ℕ → List ℕ
refusal_line number second = ascii "(refused " ++ (decimal number ++ refusal_end second)

-- The text of a refusal, as bytes.
unfoldable pub refusal_text : ℕ → ℕ → List ℕ
refusal_text number second = lines (refusal_line number second ∷ [])
