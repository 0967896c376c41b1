-- Laws of pieces that are read one after the other.
use mathlib.Core.Path.{◌≡◌, refl, sym, ap, ◌∙◌}
use mathlib.Core.List.{List, [], ◌∷◌, ◌++◌}
use Prim.Native.Nat.{ℕ}
use Rattle.plan_text.specs.Parse.{Parse, parsed, unparsed, next, byte, literal}

-- Three pieces may be grouped either way.
pub next_assoc :
    {A B C : Type 0} (p : Parse A) (f : A → List ℕ → Parse B) (g : B → List ℕ → Parse C)
    → next (next p f) g ≡ next p (λ a t. next (f a t) g)
next_assoc (parsed a t) f g = refl
next_assoc unparsed f g = refl

-- What follows matters only as a function.
pub next_same :
    {A B : Type 0} (p : Parse A) (f g : A → List ℕ → Parse B) → ((a : A) (t : List ℕ) → f a t ≡ g a t) → next p f ≡ next p g
next_same (parsed a t) f g same = same a t
next_same unparsed f g same = refl

-- A piece, and what follows it.
pub piece :
    {A B C : Type 0} (q : Parse B) (p : Parse A) (f : A → List ℕ → Parse B) (k : B → List ℕ → Parse C)
    → q ≡ next p f → next q k ≡ next p (λ a t. next (f a t) k)
piece q p f k e = ap (λ (x : Parse _). next x k) e ∙ next_assoc p f k

-- Bytes that are determined may be compared in two parts.
pub literal_append :
    (a b text : List ℕ) → literal (a ++ b) text ≡ next (literal a text) (λ u t. literal b t)
literal_append [] b text = refl
literal_append (e ∷ a) b text =
    next_same (byte e text) (λ u t. literal (a ++ b) t) (λ u t. next (literal a t) (λ v s. literal b s)) (λ u t. literal_append a b t)
    ∙ sym (next_assoc (byte e text) (λ u t. literal a t) (λ u t. literal b t))
