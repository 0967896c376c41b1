-- What a call comes to, and the numbers of its answer.
use Rattle.std.specs.Prelude.{ℕ, Bool, cond}

-- What a call comes to: a value, or a refusal with its number and its second number.
pub data Verdict (A : Type 0) : Type 0 where
  given : A → Verdict A
  refused : (number second : ℕ) → Verdict A

-- "The first that applies is given": this refusal unless the test holds, else what comes next.
abbrev pub unless : {A : Type 0} → Bool → ℕ → ℕ → Verdict A → Verdict A
unless test number second following = cond test following (refused number second)

-- A verdict with no value, and where it is no refusal another one.
abbrev pub followed_by : {A : Type 0} → Verdict (Unit {0}) → Verdict A → Verdict A
followed_by (given u) following = following
followed_by (refused number second) following = refused number second

-- The numbers of an answer: the refusal's number and second number, and the values of an answer that is no refusal.
pub record Numbers (A : Type 0) : Type 0 where
  pub refusal : ℕ
  pub second : ℕ
  pub values : A

-- The numbers that a verdict gives. "A refusal gives its number, any second number named here, zero for the rest."
abbrev pub answered : {A B : Type 0} → B → (A → B) → Verdict A → Numbers B
answered zeros values (given a) = record { refusal = 0; second = 0; values = values a }
answered zeros values (refused number second) = record { refusal = number; second = second; values = zeros }

-- What a call leaves of what was lent. A refusal "changes no lent table and no byte of any lent space".
abbrev pub afterwards : {A B : Type 0} → B → (A → B) → Verdict A → B
afterwards entry exit (given a) = exit a
afterwards entry exit (refused number second) = entry
