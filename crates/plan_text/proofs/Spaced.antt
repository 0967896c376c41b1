-- The values of a line, one behind the other: where each is read from its text, so are they.
use mathlib.Core.Path.{◌≡◌, refl, sym, ap, ◌∙◌, subst}
use mathlib.Core.Bool.{cond}
use mathlib.Core.List.{List, [], ◌∷◌, ◌++◌, append_assoc}
use Prim.Native.Nat.{ℕ, zero, suc, ◌≤◌}
use native.Mathlib.Omega.{arith}
use borrow.Author.Tests.{eqb-true}
use lib.Dec.{eqb}
use lib.ListN.{length}
use Rattle.placement.specs.WellFormed.{Each}
use Rattle.placement.proofs.Tests.{by_test}
use Rattle.placement.proofs.Conjunctions.{cond_true, cond_false}
use Rattle.plan_text.specs.Text.{space, closed, spaced_text}
use Rattle.plan_text.specs.Parse.{Parse, parsed, unparsed, next, end_or, spaced_read}
use Rattle.plan_text.proofs.Pieces.{parsed_value, parsed_rest, unparsed_parsed, next_parsed, chosen_parsed}

-- What was read before an end or more values.
end_or_sound : {A P : Type 0} (more : List ℕ → Parse (List A)) (t : List ℕ) (xs : List A) (r : List ℕ)
    → end_or more t ≡ parsed xs r → (([] ≡ xs) → (t ≡ closed ∷ r) → P)
    → ((bs : List ℕ) → t ≡ space ∷ bs → more bs ≡ parsed xs r → P) → P
end_or_sound more [] xs r e end later = unparsed_parsed e
end_or_sound more (b ∷ bs) xs r e end later =
    by_test (eqb b closed)
    (λ is.
    let read : parsed [] bs ≡ parsed xs r = sym (cond_true (eqb b closed) (parsed [] bs) (cond (eqb b space) (more bs) unparsed) is) ∙ e in
    end (parsed_value read)
    (ap (λ (c : ℕ). c ∷ bs) (eqb-true b closed is) ∙ ap {B = List ℕ} (λ s. closed ∷ s) (parsed_rest read)))
    (λ other.
    chosen_parsed (eqb b space) (more bs)
    (sym (cond_false (eqb b closed) (parsed [] bs) (cond (eqb b space) (more bs) unparsed) other) ∙ e)
    (λ is read. later bs (ap (λ (c : ℕ). c ∷ bs) (eqb-true b space is)) read))

-- Values of which each is read from its text, where it is small: so are they one behind the other.
module _ {A : Type 0} (one : List ℕ → Parse A) (text : A → List ℕ) (Small : A → Type 0)
    (sound : (t : List ℕ) (x : A) (r : List ℕ) → one t ≡ parsed x r → Small x → t ≡ text x ++ r)
    (complete : (x : A) (r : List ℕ) → Small x → one (text x ++ r) ≡ parsed x r) where
  -- What is read is their text.
  pub spaced_sound : (n : ℕ) (t : List ℕ) (xs : List A) (r : List ℕ)
      → spaced_read one n t ≡ parsed xs r → Each Small xs → t ≡ spaced_text text xs ++ r
  spaced_sound zero t xs r e small =
      end_or_sound _ t xs r e (λ none' end. end ∙ ap (λ (ys : List A). spaced_text text ys ++ r) none') (λ bs first read. unparsed_parsed read)
  spaced_sound (suc n) t xs r e small =
      end_or_sound _ t xs r e (λ none' end. end ∙ ap (λ (ys : List A). spaced_text text ys ++ r) none')
      (λ bs first read.
      next_parsed (one bs) _ read (λ x after e₁ d₁.
      next_parsed (spaced_read one n after) _ d₁ (λ ys end e₂ d₂.
      let same : (x ∷ ys) ≡ xs = parsed_value d₂ in
      let smalls : Each Small (x ∷ ys) = subst (Each Small) (sym same) small in
      first
      ∙ ap {B = List ℕ} (λ s. space ∷ s)
      (sound bs x after e₁ smalls.0
      ∙ ap (λ (s : List ℕ). text x ++ s) (spaced_sound n after ys end e₂ smalls.1 ∙ ap (λ (s : List ℕ). spaced_text text ys ++ s) (parsed_rest d₂))
      ∙ sym (append_assoc (text x) (spaced_text text ys) r))
      ∙ ap (λ (zs : List A). spaced_text text zs ++ r) same)))

  -- The text of at most n of them is read.
  pub spaced_complete : (n : ℕ) (xs : List A) (r : List ℕ) → length xs ≤ n → Each Small xs
      → spaced_read one n (spaced_text text xs ++ r) ≡ parsed xs r
  spaced_complete zero [] r h small = refl
  spaced_complete (suc n) [] r h small = refl
  spaced_complete zero (x ∷ xs) r h small = absurd (omega arith)
  spaced_complete (suc n) (x ∷ xs) r h small =
      ap (λ (t : List ℕ). next (one t) (λ y after. next (spaced_read one n after) (λ ys end. parsed (y ∷ ys) end)))
      (append_assoc (text x) (spaced_text text xs) r)
      ∙ ap (λ (p : Parse A). next p (λ y after. next (spaced_read one n after) (λ ys end. parsed (y ∷ ys) end)))
      (complete x (spaced_text text xs ++ r) small.0)
      ∙ ap (λ (p : Parse (List A)). next p (λ ys end. parsed (x ∷ ys) end)) (spaced_complete n xs r (omega arith) small.1)
