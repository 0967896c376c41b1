-- "Numbers in the text are decimal with no leading zero. Zero is written 0."
use Rattle.std.specs.Prelude.{ℕ, zero, suc, ◌+◌, ◌/◌, ◌%◌, cond, List, [], ◌∷◌, ◌++◌, ltb}

-- The byte of a digit.
abbrev pub digit : ℕ → ℕ
digit d = 48 + d

-- The digits of n / 10, then the last digit; `steps` bounds how often n is divided.
abbrev pub decimal_within : ℕ → ℕ → List ℕ
decimal_within zero n = digit (n % 10) ∷ []
decimal_within (suc steps) n =
    let front = decimal_within steps (n / 10) in
    let more = front ++ (digit (n % 10) ∷ []) in
    cond (ltb n 10) (digit n ∷ []) more

-- A number in decimal.
unfoldable pub decimal : ℕ → List ℕ
decimal n = decimal_within n n
