-- One line and the rest of a text: how the laws of reading, and the rule of the refused line, carry over.
use mathlib.Core.Path.{◌≡◌, refl, sym, ap, ◌∙◌, subst}
use mathlib.Core.Bool.{Bool, true, cond}
use mathlib.Core.List.{List, ◌∷◌, ◌++◌}
use Prim.Native.Nat.{ℕ, zero, suc}
use Rattle.plan_text.specs.Text.{line_feed}
use Rattle.plan_text.specs.Accepted.{upto}
use Rattle.plan_text.specs.Parse.{Parse, parsed, unparsed, next, byte}
use Rattle.plan_text.specs.Reading.{Reading, whole, refused_after, line, joined}
use Rattle.placement.proofs.Conjunctions.{cond_true}
use Rattle.plan_text.proofs.Pieces.{parsed_value, parsed_rest, next_parsed, chosen_parsed, byte_sound}
use Rattle.plan_text.proofs.Upto.{one_line}

-- A reader of values of which some are small: what it reads is their text, and their text is read.
pub record Body {A : Type 0} (read : List ℕ → Parse A) (text : A → List ℕ) (Small : A → Type 0) : Type 0 where
  pub sound : (t : List ℕ) (a : A) (r : List ℕ) → read t ≡ parsed a r → Small a → t ≡ text a ++ r
  pub complete : (a : A) (r : List ℕ) → Small a → read (text a ++ r) ≡ parsed a r

-- A reader of one line with a test: what it reads passes and is the line's text, and the text of what passes is read.
pub record Line {A : Type 0} (read : List ℕ → Parse A) (text : A → List ℕ) (test : A → Bool) : Type 0 where
  pub passes : (t : List ℕ) (a : A) (r : List ℕ) → read t ≡ parsed a r → test a ≡ true
  pub sound : (t : List ℕ) (a : A) (r : List ℕ) → read t ≡ parsed a r → t ≡ text a ++ (line_feed ∷ r)
  pub complete : (a : A) (r : List ℕ) → test a ≡ true → read (text a ++ (line_feed ∷ r)) ≡ parsed a r
  pub one_line : (a : A) → one_line (text a) ≡ true

-- A body, its line feed and its test are a line, where what passes is small.
pub line_of : {A : Type 0} {read : List ℕ → Parse A} {text : A → List ℕ} {Small : A → Type 0} (test : A → Bool)
    → Body read text Small → ((a : A) → test a ≡ true → Small a) → ((a : A) → one_line (text a) ≡ true) → Line (line read test) text test
line_of {A} {read} {text} test body small single = record {
  passes = λ t a r e.
      next_parsed (read t) _ e (λ b t₁ e₁ d₁. next_parsed (byte line_feed t₁) _ d₁ (λ u t₂ e₂ d₂.
      chosen_parsed (test b) (parsed b t₂) d₂ (λ holds d₃. ap test (sym (parsed_value d₃)) ∙ holds)));
  sound = λ t a r e.
      next_parsed (read t) _ e (λ b t₁ e₁ d₁. next_parsed (byte line_feed t₁) _ d₁ (λ u t₂ e₂ d₂.
      chosen_parsed (test b) (parsed b t₂) d₂ (λ holds d₃.
      body.sound t b t₁ e₁ (small b holds)
      ∙ ap (λ (s : List ℕ). text b ++ s) (byte_sound line_feed t₁ t₂ e₂)
      ∙ ap (λ (c : A). text c ++ (line_feed ∷ t₂)) (parsed_value d₃)
      ∙ ap (λ (s : List ℕ). text a ++ (line_feed ∷ s)) (parsed_rest d₃))));
  complete = λ a r holds.
      ap (λ (p : Parse A). next p (λ b t₁. next (byte line_feed t₁) (λ u t₂. cond (test b) (parsed b t₂) unparsed)))
      (body.complete a (line_feed ∷ r) (small a holds))
      ∙ cond_true (test a) (parsed a r) unparsed holds;
  one_line = single;
}

-- A reader of a text to its end, the values whose texts are meant, and the laws: the text of each is read, what is read is
-- the text of one, there is one, and a refused line is the first that no such text has after the lines before it.
pub record Grammar {B : Type 0} (ok : B → Bool) (text : B → List ℕ) (read : List ℕ → Reading B) : Type 0 where
  pub complete : (b : B) → ok b ≡ true → read (text b) ≡ whole b
  pub passes : (t : List ℕ) (b : B) → read t ≡ whole b → ok b ≡ true
  pub sound : (t : List ℕ) (b : B) → read t ≡ whole b → text b ≡ t
  pub some : (b : B) × (ok b ≡ true)
  pub begun : (t : List ℕ) (n : ℕ) → read t ≡ refused_after n → (b : B) × (ok b ≡ true) × (upto n (text b) ≡ upto n t)
  pub ended : (t : List ℕ) (n : ℕ) → read t ≡ refused_after n → (b : B) → ok b ≡ true → upto (suc n) (text b) ≡ upto (suc n) t → ⊥

-- The whole is a line's value and the rest's, its text is the line and the rest's text, and some line passes.
pub record Joins {A B C : Type 0} (test : A → Bool) (text_a : A → List ℕ) (ok_b : A → B → Bool) (text_b : A → B → List ℕ)
    (ok_c : C → Bool) (text_c : C → List ℕ) (join : A → B → C) : Type 0 where
  pub first : (a : A) × (test a ≡ true)
  pub both : (a : A) (b : B) → test a ≡ true → ok_b a b ≡ true → ok_c (join a b) ≡ true
  pub split : (c : C) → ok_c c ≡ true → (a : A) × (b : B) × (test a ≡ true) × (ok_b a b ≡ true) × (join a b ≡ c)
  pub text : (a : A) (b : B) → test a ≡ true → text_c (join a b) ≡ text_a a ++ (line_feed ∷ text_b a b)

-- The parts of a reading.
abbrev line_count : {B : Type 0} → Reading B → ℕ
line_count (whole b) = zero
line_count (refused_after n) = n

abbrev whole_or : {B : Type 0} → B → Reading B → B
whole_or d (whole b) = b
whole_or d (refused_after n) = d

abbrev IsWhole : {B : Type 0} → Reading B → Type 0
IsWhole (whole b) = Unit {0}
IsWhole (refused_after n) = ⊥

-- A text is not both read and refused.
pub whole_refused : {B P : Type 0} {b : B} {n : ℕ} → whole b ≡ refused_after n → P
whole_refused e = absurd (subst IsWhole e tt)

-- Equal readings have equal values.
pub whole_value : {B : Type 0} {a b : B} → whole a ≡ whole b → a ≡ b
whole_value {a} e = ap (whole_or a) e

-- Equal refusals are after equally many lines.
pub refused_count : {B : Type 0} {n m : ℕ} → ◌≡◌ {A = Reading B} (refused_after n) (refused_after m) → n ≡ m
refused_count e = ap line_count e

-- The whole was read where the rest was.
pub joined_whole : {B C P : Type 0} {c : C} (join : B → C) (r : Reading B) → joined join r ≡ whole c
    → ((b : B) → r ≡ whole b → join b ≡ c → P) → P
joined_whole join (whole b) e goal = goal b refl (whole_value e)
joined_whole join (refused_after n) e goal = whole_refused (sym e)

-- The whole is refused one line later than the rest.
pub joined_refused : {B C P : Type 0} {n : ℕ} (join : B → C) (r : Reading B) → joined join r ≡ refused_after n
    → ((m : ℕ) → r ≡ refused_after m → suc m ≡ n → P) → P
joined_refused join (whole b) e goal = whole_refused e
joined_refused join (refused_after m) e goal = goal m refl (refused_count e)
