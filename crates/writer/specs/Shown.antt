-- What is promised of one text and a lent space: the text goes to the front of the space, or nothing is changed.
use Rattle.std.specs.Prelude.{◌≡◌, ℕ, cond, List, length, nat_le}
use Rattle.placement.specs.Tables.{written}

-- The answer is the length of the text. A space that is too short keeps its bytes, and the answer is 0.
pub record Shown (text entry exit : List ℕ) (answer : ℕ) : Type 0 where
  pub count : answer ≡ cond (nat_le (length text) (length entry)) (length text) 0
  pub bytes : exit ≡ cond (nat_le (length text) (length entry)) (written text entry) entry
