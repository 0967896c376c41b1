-- Reading decimal numbers: what is read is the number's text, and its text is read, for numbers up to 1,000,000 and any faithful cap.
use mathlib.Core.Path.{◌≡◌, refl, sym, ap, ◌∙◌}
use mathlib.Core.Bool.{true, false, cond}
use mathlib.Core.List.{List, [], ◌∷◌, ◌++◌, append_assoc}
use Prim.Native.Nat.{ℕ, zero, suc, ◌+◌, ◌-◌, ◌*◌, ◌/◌, ◌%◌, ◌≤◌, ◌<◌}
use native.Mathlib.Omega.{arith}
use borrow.Author.Tests.{leb-true, le-leb, eqb-true, eqb-false, ne_eqb}
use lib.Dec.{leb, eqb}
use Rattle.placement.proofs.Tests.{by_test, by_order}
use Rattle.plan_text.specs.Decimal.{digit, decimal}
use Rattle.plan_text.specs.Parse.{parsed, unparsed, is_digit, digits, number}
use Rattle.plan_text.specs.Capped.{saturated}
use Rattle.placement.proofs.Conjunctions.{both_true, and_holds, cond_true, cond_false}
use Rattle.plan_text.proofs.Decimals.{decimal_small, decimal_large, decimal_more}
use Rattle.plan_text.proofs.Pieces.{parsed_value, parsed_rest, unparsed_parsed, chosen_parsed}

-- The largest number that stands in a text and is not determined.
abbrev pub most : ℕ
most = 1000000

-- A cap keeps the numbers that a text may have, and keeps larger ones larger.
pub record Faithful (cap : ℕ → ℕ) : Type 0 where
  pub exact : (n : ℕ) → n ≤ most → cap n ≡ n
  pub large : (n : ℕ) → most < n → most < cap n

-- No cap, and the cap 2³² − 1, are faithful.
pub none_faithful : Faithful (λ n. n)
none_faithful = record { exact = λ n h. refl; large = λ n h. h }

pub saturated_faithful : Faithful saturated
saturated_faithful = record { exact = λ n h. omega arith; large = λ n h. omega arith }

-- The bytes of digits are 48 to 57.
digit_true : (d : ℕ) → d < 10 → is_digit (digit d) ≡ true
digit_true d h = and_holds (leb 48 (digit d)) (leb (digit d) 57) (le-leb 48 (digit d) (omega arith)) (le-leb (digit d) 57 (omega arith))

digit_least : (b : ℕ) → is_digit b ≡ true → 48 ≤ b
digit_least b e = leb-true 48 b (both_true (leb 48 b) (leb b 57) e).0

digit_most : (b : ℕ) → is_digit b ≡ true → b ≤ 57
digit_most b e = leb-true b 57 (both_true (leb 48 b) (leb b 57) e).1

-- The byte of a digit, from its value.
digit_back : (b : ℕ) → is_digit b ≡ true → digit (b - 48) ≡ b
digit_back b e = omega (arith, digit_least b e)

-- The digits behind n make a number whose text begins with that of n.
digits_sound : {cap : ℕ → ℕ} → Faithful cap → (n : ℕ) (t : List ℕ) (m : ℕ) (r : List ℕ) → 1 ≤ n
    → digits cap n t ≡ parsed m r → m ≤ most → (n ≤ most) × (decimal n ++ t ≡ decimal m ++ r)
digits_sound f n [] m r g e h =
    let same : n ≡ m = parsed_value e in (
      omega arith,
      ap (λ (x : ℕ). decimal x ++ []) same ∙ ap (λ (s : List ℕ). decimal m ++ s) (parsed_rest e),
    )
digits_sound {cap} f n (b ∷ bs) m r g e h =
    by_test (is_digit b)
    (λ yes'. by_order most (n * 10 + (b - 48))
    (λ more.
    let later : cap (n * 10 + (b - 48)) ≤ most = (digits_sound f (cap (n * 10 + (b - 48))) bs m r (omega (arith, f.large (n * 10 + (b - 48)) more)) (sym (cond_true (is_digit b) _ _ yes') ∙ e) h).0 in
    absurd (omega (arith, f.large (n * 10 + (b - 48)) more)))
    (λ fits. (
      omega arith,
      step yes'
          (digits_sound f (n * 10 + (b - 48)) bs m r (omega arith)
          (ap (λ (x : ℕ). digits cap x bs) (sym (f.exact (n * 10 + (b - 48)) fits)) ∙ sym (cond_true (is_digit b) _ _ yes') ∙ e) h).1,
    )))
    (λ no'.
    let end : parsed n (b ∷ bs) ≡ parsed m r = sym (cond_false (is_digit b) (digits cap (cap (n * 10 + (b - 48))) bs) (parsed n (b ∷ bs)) no') ∙ e in
    let same : n ≡ m = parsed_value end in
    (omega arith, ap (λ (x : ℕ). decimal x ++ (b ∷ bs)) same ∙ ap (λ (s : List ℕ). decimal m ++ s) (parsed_rest end)))
  where
    step : is_digit b ≡ true → decimal (n * 10 + (b - 48)) ++ bs ≡ decimal m ++ r → decimal n ++ (b ∷ bs) ≡ decimal m ++ r
    step is rest =
        sym (append_assoc (decimal n) (b ∷ []) bs)
        ∙ ap (λ (c : ℕ). (decimal n ++ (c ∷ [])) ++ bs) (sym (digit_back b is))
        ∙ ap (λ (s : List ℕ). s ++ bs) (sym (decimal_more n (b - 48) g (omega (arith, digit_least b is, digit_most b is))))
        ∙ rest

-- What is read is the text of the number.
pub number_sound : {cap : ℕ → ℕ} → Faithful cap → (t : List ℕ) (m : ℕ) (r : List ℕ)
    → number cap t ≡ parsed m r → m ≤ most → t ≡ decimal m ++ r
number_sound f [] m r e h = unparsed_parsed e
number_sound {cap} f (b ∷ bs) m r e h =
    by_test (eqb b 48)
    (λ nought.
    let read : parsed 0 bs ≡ parsed m r = sym (cond_true (eqb b 48) (parsed 0 bs) (cond (is_digit b) (digits cap (b - 48) bs) unparsed) nought) ∙ e in
    ap (λ (c : ℕ). c ∷ bs) (eqb-true b 48 nought)
    ∙ ap (λ (s : List ℕ). s ++ bs) (sym (decimal_small 0 (omega arith)))
    ∙ ap (λ (x : ℕ). decimal x ++ bs) (parsed_value read)
    ∙ ap (λ (s : List ℕ). decimal m ++ s) (parsed_rest read))
    (λ other.
    chosen_parsed (is_digit b) (digits cap (b - 48) bs)
    (sym (cond_false (eqb b 48) (parsed 0 bs) (cond (is_digit b) (digits cap (b - 48) bs) unparsed) other) ∙ e)
    (λ is read. behind is (digits_sound f (b - 48) bs m r (positive is other) read h).1))
  where
    positive : is_digit b ≡ true → eqb b 48 ≡ false → 1 ≤ b - 48
    positive is other =
        by_order 48 b (λ more. omega arith)
        (λ less. absurd (eqb-false b 48 other (omega (arith, digit_least b is))))

    behind : is_digit b ≡ true → decimal (b - 48) ++ bs ≡ decimal m ++ r → (b ∷ bs) ≡ decimal m ++ r
    behind is rest =
        ap (λ (c : ℕ). c ∷ bs) (sym (digit_back b is))
        ∙ ap (λ (s : List ℕ). s ++ bs) (sym (decimal_small (b - 48) (omega (arith, digit_most b is))))
        ∙ rest

-- One more digit of the text is one more step.
digits_step : (cap : ℕ → ℕ) (n d : ℕ) (r : List ℕ) → d < 10 → digits cap n (digit d ∷ r) ≡ digits cap (cap (n * 10 + d)) r
digits_step cap n d r h =
    let back : digit d - 48 ≡ d = omega arith in
    cond_true (is_digit (digit d)) _ _ (digit_true d h) ∙ ap (λ (x : ℕ). digits cap (cap (n * 10 + x)) r) back

-- Reading the text of n leads to n and what follows it.
number_digits : {cap : ℕ → ℕ} → Faithful cap → (steps n : ℕ) (r : List ℕ) → n ≤ steps → 1 ≤ n → n ≤ most
    → number cap (decimal n ++ r) ≡ digits cap n r
number_digits f zero n r s g h = absurd (omega arith)
number_digits {cap} f (suc steps) n r s g h =
    by_order n 10
    (λ less.
    let back : digit n - 48 ≡ n = omega arith in
    ap (λ (t : List ℕ). number cap (t ++ r)) (decimal_small n less)
    ∙ cond_false (eqb (digit n) 48) _ _ (ne_eqb (digit n) 48 (λ e. absurd (omega arith)))
    ∙ cond_true (is_digit (digit n)) _ _ (digit_true n less)
    ∙ ap (λ (x : ℕ). digits cap x r) back)
    (λ more.
    let whole : n / 10 * 10 + n % 10 ≡ n = omega arith in
    ap (λ (t : List ℕ). number cap (t ++ r)) (decimal_large n more)
    ∙ ap (λ (t : List ℕ). number cap t) (append_assoc (decimal (n / 10)) (digit (n % 10) ∷ []) r)
    ∙ number_digits f steps (n / 10) (digit (n % 10) ∷ r) (omega arith) (omega arith) (omega arith)
    ∙ digits_step cap (n / 10) (n % 10) r (omega arith)
    ∙ ap (λ (x : ℕ). digits cap (cap x) r) whole
    ∙ ap (λ (x : ℕ). digits cap x r) (f.exact n h))

-- The text of a number is read where no digit follows.
pub number_complete : {cap : ℕ → ℕ} → Faithful cap → (n b : ℕ) (r : List ℕ) → n ≤ most → is_digit b ≡ false
    → number cap (decimal n ++ (b ∷ r)) ≡ parsed n (b ∷ r)
number_complete {cap} f zero b r h other =
    ap (λ (t : List ℕ). number cap (t ++ (b ∷ r))) (decimal_small 0 (omega arith))
number_complete f (suc n) b r h other =
    number_digits f (suc n) (suc n) (b ∷ r) (omega arith) (omega arith) h ∙ cond_false (is_digit b) _ _ other
