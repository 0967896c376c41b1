-- The numbers of a refusal, from its number and its second number.
use mathlib.Core.Path.{◌≡◌, ap₂}
use Prim.Native.Nat.{ℕ}
use Rattle.refusal.specs.Verdict.{Numbers}

-- Numbers that are equal part by part, with the same values.
pub numbers_same :
    {A : Type 0} {values : A} {n m number second : ℕ} → n ≡ number → m ≡ second
    → ◌≡◌ {A = Numbers A} (record { refusal = n; second = m; values = values }) (record { refusal = number; second = second; values = values })
numbers_same {A} {values} first last = ap₂ (λ (n m : ℕ). record { refusal = n; second = m; values = values }) first last
