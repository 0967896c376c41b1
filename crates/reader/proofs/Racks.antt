-- The rack's line up to its closing bracket.
use mathlib.Core.Path.{◌≡◌, refl, ◌∙◌}
use mathlib.Core.List.{List}
use Prim.Native.Nat.{ℕ}
use Rattle.std.specs.Prelude.{Option, Some, None, unwrap_or}
use Rattle.plan_text.specs.Ascii.{ascii}
use Rattle.plan_text.specs.Text.{space, closed}
use Rattle.plan_text.specs.Parse.{Parse, parsed, next, byte, literal, number}
use Rattle.plan_text.specs.Reading.{Sizes, rack_body}
use Rattle.plan_text.specs.Capped.{saturated}
use Rattle.reader.specs.Cursor.{parse_of, parse_by}
use Rattle.reader.proofs.Pieces.{piece}

-- A number that a step read, before what follows it.
valued :
    {B : Type 0} (n : Option ℕ) (t : List ℕ) (k : ℕ → List ℕ → Parse B)
    → next (parse_of n t) (λ x s. k (unwrap_or n 0) s) ≡ next (parse_of n t) k
valued (Some n) t k = refl
valued None t k = refl

-- A step with no value, and a value before it.
before : {B : Type 0} (b : B) (e : Option (Unit {0})) (t : List ℕ) → parse_by (λ u. b) e t ≡ next (parse_of e t) (λ u s. parsed b s)
before b (Some u) t = refl
before b None t = refl

-- The rack's three numbers, piece by piece: each step goes on where the one before stopped.
pub rack_read_lem :
    (p a b c e : Option (Unit {0})) (n k l : Option ℕ) (t₀ t₁ t₂ t₃ t₄ t₅ t₆ t₇ : List ℕ)
    → parse_of a t₁ ≡ next (parse_of p t₀) (λ x t. literal (ascii "(rack ") t)
    → parse_of n t₂ ≡ next (parse_of a t₁) (λ x t. number saturated t)
    → parse_of b t₃ ≡ next (parse_of n t₂) (λ x t. byte space t)
    → parse_of k t₄ ≡ next (parse_of b t₃) (λ x t. number saturated t)
    → parse_of c t₅ ≡ next (parse_of k t₄) (λ x t. byte space t)
    → parse_of l t₆ ≡ next (parse_of c t₅) (λ x t. number saturated t)
    → parse_of e t₇ ≡ next (parse_of l t₆) (λ x t. byte closed t)
    → parse_by {B = Sizes} (λ u. record { disks = unwrap_or n 0; slots = unwrap_or k 0; streams = unwrap_or l 0 }) e t₇
    ≡ next (parse_of p t₀) (λ x t. rack_body saturated t)
rack_read_lem p a b c e n k l t₀ t₁ t₂ t₃ t₄ t₅ t₆ t₇ h₁ h₂ h₃ h₄ h₅ h₆ h₇ =
    before (three n' k' l') e t₇
    ∙ piece (parse_of e t₇) (parse_of l t₆) (λ x t. byte closed t) (λ u t. parsed (three n' k' l') t) h₇
    ∙ valued l t₆ (fourth n' k')
    ∙ piece (parse_of l t₆) (parse_of c t₅) (λ x t. number saturated t) (fourth n' k') h₆
    ∙ piece (parse_of c t₅) (parse_of k t₄) (λ x t. byte space t) (λ u t. next (number saturated t) (fourth n' k')) h₅
    ∙ valued k t₄ (second n')
    ∙ piece (parse_of k t₄) (parse_of b t₃) (λ x t. number saturated t) (second n') h₄
    ∙ piece (parse_of b t₃) (parse_of n t₂) (λ x t. byte space t) (λ u t. next (number saturated t) (second n')) h₃
    ∙ valued n t₂ first
    ∙ piece (parse_of n t₂) (parse_of a t₁) (λ x t. number saturated t) first h₂
    ∙ piece (parse_of a t₁) (parse_of p t₀) (λ x t. literal (ascii "(rack ") t) (λ u t. next (number saturated t) first) h₁
  where
    n' : ℕ
    n' = unwrap_or n 0

    k' : ℕ
    k' = unwrap_or k 0

    l' : ℕ
    l' = unwrap_or l 0

    three : ℕ → ℕ → ℕ → Sizes
    three x y z = record { disks = x; slots = y; streams = z }

    fourth : ℕ → ℕ → ℕ → List ℕ → Parse Sizes
    fourth x y z t = next (byte closed t) (λ u s. parsed (three x y z) s)

    second : ℕ → ℕ → List ℕ → Parse Sizes
    second x y t = next (byte space t) (λ u s. next (number saturated s) (fourth x y))

    first : ℕ → List ℕ → Parse Sizes
    first x t = next (byte space t) (λ u s. next (number saturated s) (second x))
