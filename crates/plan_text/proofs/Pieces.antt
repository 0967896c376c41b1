-- Pieces of text in sequence, and what is determined: one byte, a literal.
use mathlib.Core.Path.{◌≡◌, refl, ap, ◌∙◌, subst}
use mathlib.Core.Bool.{Bool, true, false, cond}
use mathlib.Core.List.{List, [], ◌∷◌, ◌++◌}
use Prim.Native.Nat.{ℕ}
use borrow.Author.Tests.{eqb-true, eq-eqb}
use lib.Dec.{eqb}
use Rattle.plan_text.specs.Parse.{Parse, parsed, unparsed, next, or_else, byte, literal}
use Rattle.placement.proofs.Conjunctions.{cond_true}

-- Nothing was read.
abbrev Fails : {A : Type 0} → Parse A → Type 0
Fails (parsed a rest) = ⊥
Fails unparsed = Unit {0}

-- Nothing is read and not read.
pub unparsed_parsed : {A P : Type 0} {a : A} {r : List ℕ} → unparsed ≡ parsed a r → P
unparsed_parsed e = absurd (subst Fails e tt)

-- The parts of what was read.
abbrev value_or : {A : Type 0} → A → Parse A → A
value_or d (parsed a rest) = a
value_or d unparsed = d

abbrev rest_of : {A : Type 0} → Parse A → List ℕ
rest_of (parsed a rest) = rest
rest_of unparsed = []

-- Equal results have equal values, and equal rests.
pub parsed_value : {A : Type 0} {a b : A} {r s : List ℕ} → parsed a r ≡ parsed b s → a ≡ b
parsed_value {a} e = ap (value_or a) e

pub parsed_rest : {A : Type 0} {a b : A} {r s : List ℕ} → parsed a r ≡ parsed b s → r ≡ s
parsed_rest e = ap rest_of e

-- A sequence was read where its first piece was and then the others were.
pub next_parsed : {A B P : Type 0} {b : B} {r : List ℕ} (p : Parse A) (f : A → List ℕ → Parse B)
    → next p f ≡ parsed b r → ((a : A) (t : List ℕ) → p ≡ parsed a t → f a t ≡ parsed b r → P) → P
next_parsed (parsed a t) f e goal = goal a t refl e
next_parsed unparsed f e goal = unparsed_parsed e

-- One of two pieces was read.
pub or_else_parsed : {A P : Type 0} {a : A} {r : List ℕ} (p q : Parse A) → or_else p q ≡ parsed a r
    → (p ≡ parsed a r → P) → (q ≡ parsed a r → P) → P
or_else_parsed (parsed a t) q e first second = first e
or_else_parsed unparsed q e first second = second e

-- A choice was read where the test held.
pub chosen_parsed : {A P : Type 0} {a : A} {r : List ℕ} (b : Bool) (p : Parse A)
    → cond b p unparsed ≡ parsed a r → (b ≡ true → p ≡ parsed a r → P) → P
chosen_parsed true p e goal = goal refl e
chosen_parsed false p e goal = unparsed_parsed e

-- A byte that was read is the one expected.
pub byte_sound : {u : Unit {0}} (x : ℕ) (t r : List ℕ) → byte x t ≡ parsed u r → t ≡ x ∷ r
byte_sound x [] r e = unparsed_parsed e
byte_sound x (b ∷ bs) r e =
    chosen_parsed (eqb b x) (parsed tt bs) e
    (λ same read. ap (λ (c : ℕ). c ∷ bs) (eqb-true b x same) ∙ ap {B = List ℕ} (λ s. x ∷ s) (parsed_rest read))

-- The expected byte is read.
byte_complete : (x : ℕ) (r : List ℕ) → byte x (x ∷ r) ≡ parsed tt r
byte_complete x r = cond_true (eqb x x) _ _ (eq-eqb x x refl)

-- A literal that was read stands at the front.
pub literal_sound : {u : Unit {0}} (ls t r : List ℕ) → literal ls t ≡ parsed u r → t ≡ ls ++ r
literal_sound [] t r e = parsed_rest e
literal_sound (x ∷ ls) t r e =
    next_parsed (byte x t) (λ u after. literal ls after) e
    (λ u after first rest. byte_sound x t after first ∙ ap {B = List ℕ} (λ s. x ∷ s) (literal_sound ls after r rest))

-- A literal at the front is read.
pub literal_complete : (ls r : List ℕ) → literal ls (ls ++ r) ≡ parsed tt r
literal_complete [] r = refl
literal_complete (x ∷ ls) r =
    ap (λ (p : Parse (Unit {0})). next p (λ u after. literal ls after)) (byte_complete x (ls ++ r)) ∙ literal_complete ls r
