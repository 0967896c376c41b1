-- Chains of refusals: what a test leaves of them, and what a verdict with a value says of the tests.
use mathlib.Core.Path.{◌≡◌, refl, sym, ap, subst}
use mathlib.Core.Bool.{Bool, true, false}
use Prim.Native.Nat.{ℕ, ◌≤◌}
use Rattle.refusal.specs.Verdict.{Verdict, given, refused, unless}

-- A verdict with no value, then another one.
abbrev pub and_then : {A : Type 0} → Verdict (Unit {0}) → Verdict A → Verdict A
and_then (given u) following = following
and_then (refused number second) following = refused number second

module _ {A : Type 0} where
  -- A refusal is no value.
  abbrev IsGiven : Verdict A → Type 0
  IsGiven (given a) = Unit {0}
  IsGiven (refused number second) = ⊥

  -- Every refusal has a number of at least 1.
  abbrev pub Numbered : Verdict A → Type 0
  Numbered (given a) = Unit {0}
  Numbered (refused number second) = 1 ≤ number

  module _ (test : Bool) (number second : ℕ) (following : Verdict A) where
    -- A test that holds leaves what comes next.
    pub unless_passes : test ≡ true → unless test number second following ≡ following
    unless_passes e = ap (λ (b : Bool). unless b number second following) e

    -- A test that fails gives its refusal.
    pub unless_refuses : test ≡ false → unless test number second following ≡ refused number second
    unless_refuses e = ap (λ (b : Bool). unless b number second following) e

  -- A test that leads to a value holds, and so do the tests after it.
  pub unless_given :
      (test : Bool) (number second : ℕ) (following : Verdict A) (a : A) → unless test number second following ≡ given a
      → (test ≡ true) × (following ≡ given a)
  unless_given true number second following a e = (refl, e)
  unless_given false number second following a e = absurd (subst IsGiven (sym e) tt)

  -- A chain of numbered refusals is numbered.
  pub unless_numbered :
      (test : Bool) (number second : ℕ) (following : Verdict A) → 1 ≤ number → Numbered following
      → Numbered (unless test number second following)
  unless_numbered true number second following some rest = rest
  unless_numbered false number second following some rest = some

  -- A chain is its own tests, then what comes next.
  pub unless_then :
      (test : Bool) (number second : ℕ) (following : Verdict A)
      → unless test number second following ≡ and_then (unless test number second (given tt)) following
  unless_then true number second following = refl
  unless_then false number second following = refl
