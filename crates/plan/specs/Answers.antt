-- What a read answers: how many bytes came, 0 at the end of the input, -1 where it failed.
use Rattle.std.specs.Prelude.{ℕ, zero, suc, ◌≤◌, ◌≡◌, Bool, true, false, ℤ, pos, negsuc, Result, Ok, Err}

-- What a read into a space of n bytes may answer: -1, or how many bytes came, at most n.
abbrev pub Moved : ℕ → ℤ → Type 0
Moved n (pos k) = k ≤ n
Moved n (negsuc k) = k ≡ 0

-- More may come behind bytes that came.
abbrev pub goes_on : ℤ → Bool
goes_on (pos zero) = false
goes_on (pos (suc n)) = true
goes_on (negsuc e) = false

-- The end of the input was seen.
abbrev pub is_end : ℤ → Bool
is_end (pos zero) = true
is_end (pos (suc n)) = false
is_end (negsuc e) = false

-- The bytes that came.
abbrev pub bytes_of : ℤ → ℕ
bytes_of (pos n) = n
bytes_of (negsuc e) = 0

-- The number that stands for what a read answered.
abbrev pub answer_number : {E : Type 0} → Result ℕ E → ℤ
answer_number (Ok n) = pos n
answer_number (Err e) = negsuc 0
