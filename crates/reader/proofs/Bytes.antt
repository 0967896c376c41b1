-- Laws of bytes and of numbers that are determined.
use mathlib.Core.Path.{◌≡◌, refl, sym, ap, ◌∙◌}
use mathlib.Core.List.{List, [], ◌∷◌}
use Prim.Native.Nat.{ℕ, ◌+◌, ◌/◌, ◌%◌, ◌≤◌, ◌<◌}
use Rattle.plan_text.specs.Parse.{Parse, parsed, unparsed, next, byte, literal}
use Rattle.plan_text.specs.Decimal.{digit, decimal}
use Rattle.plan_text.proofs.Decimals.{decimal_small, decimal_large}
use Rattle.reader.proofs.Pieces.{next_same, literal_append}

-- One byte as a list.
pub literal_one : (e : ℕ) (t : List ℕ) → byte e t ≡ literal (e ∷ []) t
literal_one e t = go (byte e t)
  where
    go : (p : Parse (Unit {0})) → p ≡ next p (λ u s. parsed tt s)
    go (parsed tt s) = refl
    go unparsed = refl

-- A number below 10 is one byte.
pub literal_digit : (n : ℕ) (t : List ℕ) → n < 10 → literal (decimal n) t ≡ byte (48 + n) t
literal_digit n t h = ap (λ (l : List ℕ). literal l t) (decimal_small n h) ∙ sym (literal_one (48 + n) t)

-- Another is the digits of its tenth and one byte.
pub literal_digits :
    (n : ℕ) (t : List ℕ) → 10 ≤ n → literal (decimal n) t ≡ next (literal (decimal (n / 10)) t) (λ u s. byte (48 + n % 10) s)
literal_digits n t h =
    ap (λ (l : List ℕ). literal l t) (decimal_large n h)
    ∙ literal_append (decimal (n / 10)) (digit (n % 10) ∷ []) t
    ∙ next_same (literal (decimal (n / 10)) t) (λ v s. literal (digit (n % 10) ∷ []) s) (λ v s. byte (48 + n % 10) s) (λ v s. sym (literal_one (48 + n % 10) s))
