-- Reading pairs: what is read is the pairs' text, and their text is read.
use mathlib.Core.Path.{◌≡◌, refl, sym, ap, ◌∙◌, subst}
use mathlib.Core.Bool.{false}
use mathlib.Core.List.{List, [], ◌∷◌, ◌++◌, append_assoc}
use Prim.Native.Nat.{ℕ, ◌≤◌}
use native.Mathlib.Omega.{arith}
use Rattle.placement.specs.Items.{Item, item}
use Rattle.placement.specs.WellFormed.{Each}
use Rattle.plan_text.specs.Decimal.{decimal}
use Rattle.plan_text.specs.Text.{space, opened, closed, pair_text}
use Rattle.plan_text.specs.Parse.{Parse, parsed, next, byte, is_digit, number, pair_start, pair}
use Rattle.plan_text.proofs.Pieces.{parsed_value, parsed_rest, next_parsed, byte_sound}
use Rattle.plan_text.proofs.Numbers.{Faithful, most, number_sound, number_complete}

-- Both numbers of a pair are at most 1,000,000.
abbrev pub SmallItem : Item → Type 0
SmallItem x = (x.film ≤ most) × (x.amount ≤ most)

-- Every pair of a list has small numbers.
abbrev pub SmallItems : List Item → Type 0
SmallItems xs = Each SmallItem xs

-- The start of a pair, film, then amount, before other text.
abbrev pub start_before : Item → List ℕ → List ℕ
start_before x r = opened ∷ (decimal x.film ++ (space ∷ (decimal x.amount ++ r)))

-- Brackets may be moved to the right.
pub start_append : (x : Item) (end r : List ℕ) → start_before x end ++ r ≡ start_before x (end ++ r)
start_append x end r =
    ap {B = List ℕ} (λ s. opened ∷ s)
    (append_assoc (decimal x.film) (space ∷ (decimal x.amount ++ end)) r
    ∙ ap (λ (s : List ℕ). decimal x.film ++ (space ∷ s)) (append_assoc (decimal x.amount) end r))

-- What is read as the start of a pair is its text.
pub start_sound : {cap : ℕ → ℕ} → Faithful cap → (t : List ℕ) (x : Item) (r : List ℕ)
    → pair_start cap t ≡ parsed x r → SmallItem x → t ≡ start_before x r
start_sound {cap} f t x r e small =
    next_parsed (byte opened t) _ e (λ u₁ t₁ e₁ d₁.
    next_parsed (number cap t₁) _ d₁ (λ film t₂ e₂ d₂.
    next_parsed (byte space t₂) _ d₂ (λ u₂ t₃ e₃ d₃.
    next_parsed (number cap t₃) _ d₃ (λ amount t₄ e₄ d₄.
    let same : item film amount ≡ x = parsed_value d₄ in
    let films : film ≡ x.film = ap (λ (y : Item). y.film) same in
    let amounts : amount ≡ x.amount = ap (λ (y : Item). y.amount) same in
    byte_sound opened t t₁ e₁
    ∙ ap {B = List ℕ} (λ s. opened ∷ s)
    (number_sound f t₁ film t₂ e₂ (omega (arith, films, small.0))
    ∙ ap (λ (s : List ℕ). decimal film ++ s)
    (byte_sound space t₂ t₃ e₃
    ∙ ap {B = List ℕ} (λ s. space ∷ s) (number_sound f t₃ amount t₄ e₄ (omega (arith, amounts, small.1)))))
    ∙ ap (λ (y : Item). start_before y t₄) same
    ∙ ap (start_before x) (parsed_rest d₄)))))

-- The start of a pair is read where no digit follows.
pub start_complete : {cap : ℕ → ℕ} → Faithful cap → (x : Item) (b : ℕ) (r : List ℕ) → SmallItem x → is_digit b ≡ false
    → pair_start cap (start_before x (b ∷ r)) ≡ parsed x (b ∷ r)
start_complete {cap} f x b r small other =
    ap (λ (p : Parse ℕ). next p (λ film t₂. next (byte space t₂) (λ u₂ t₃. next (number cap t₃) (λ amount t₄. parsed (item film amount) t₄))))
    (number_complete f x.film space (decimal x.amount ++ (b ∷ r)) small.0 refl)
    ∙ ap (λ (p : Parse ℕ). next p (λ amount t₄. parsed (item x.film amount) t₄)) (number_complete f x.amount b r small.1 other)

-- What is read as a pair is the pair's text, and the text of a pair is read.
pub pair_sound : {cap : ℕ → ℕ} → Faithful cap → (t : List ℕ) (x : Item) (r : List ℕ)
    → pair cap t ≡ parsed x r → SmallItem x → t ≡ pair_text x ++ r
pair_sound {cap} f t x r e small =
    next_parsed (pair_start cap t) _ e (λ y t₁ e₁ d₁.
    next_parsed (byte closed t₁) _ d₁ (λ u t₂ e₂ d₂.
    let same : y ≡ x = parsed_value d₂ in
    start_sound f t y t₁ e₁ (subst SmallItem (sym same) small)
    ∙ ap (start_before y) (byte_sound closed t₁ t₂ e₂ ∙ ap {B = List ℕ} (λ s. closed ∷ s) (parsed_rest d₂))
    ∙ ap (λ (z : Item). start_before z (closed ∷ r)) same
    ∙ sym (start_append x (closed ∷ []) r)))

pub pair_complete : {cap : ℕ → ℕ} → Faithful cap → (x : Item) (r : List ℕ) → SmallItem x → pair cap (pair_text x ++ r) ≡ parsed x r
pair_complete {cap} f x r small =
    ap (pair cap) (start_append x (closed ∷ []) r)
    ∙ ap (λ (p : Parse Item). next p (λ y t₁. next (byte closed t₁) (λ u t₂. parsed y t₂))) (start_complete f x closed r small refl)
