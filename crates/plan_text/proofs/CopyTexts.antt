-- Reading copies with their marks: what is read is the copies' text, and their text is read.
use mathlib.Core.Path.{◌≡◌, refl, sym, ap, ◌∙◌, subst}
use mathlib.Core.List.{List, [], ◌∷◌, map, ◌++◌}
use Prim.Native.Nat.{ℕ, zero, suc, ◌≤◌}
use native.Mathlib.Omega.{arith}
use borrow.Author.Tests.{le-leb}
use lib.Dec.{leb}
use Rattle.placement.specs.Items.{Item}
use Rattle.placement.specs.Copies.{Copy, unmarked, marked_with}
use Rattle.placement.specs.Rack.{most_plan_film}
use Rattle.placement.specs.WellFormed.{Each}
use Rattle.placement.proofs.Conjunctions.{cond_true}
use Rattle.plan_text.specs.Ascii.{ascii}
use Rattle.plan_text.specs.Text.{space, closed, pair_text, pairs_text, mark_end, copy_text, copies_text}
use Rattle.plan_text.specs.Parse.{Parse, parsed, unparsed, next, byte, literal, pair_start, mark_read, copy_end, copy_read}
use Rattle.plan_text.proofs.Pieces.{parsed_value, parsed_rest, next_parsed, or_else_parsed, chosen_parsed, byte_sound, literal_sound}
use Rattle.plan_text.proofs.Numbers.{Faithful, most}
use Rattle.plan_text.proofs.Pairs.{SmallItem, start_before, start_append, start_sound, start_complete}

-- A copy has small numbers and a mark of 0 or 1.
abbrev pub SmallCopy : Copy → Type 0
SmallCopy c = (c.film ≤ most_plan_film) × (c.mark ≤ 1) × (c.viewers ≤ most)

-- Every copy of a list does.
abbrev pub SmallCopies : List Copy → Type 0
SmallCopies cs = Each SmallCopy cs

-- What is read as the end of a copy is the end of the mark's, and both ends are read.
mark_sound : (t : List ℕ) (m : ℕ) (r : List ℕ) → mark_read t ≡ parsed m r → t ≡ mark_end m ++ r
mark_sound t m r e =
    or_else_parsed (next (byte closed t) (λ u s. parsed 0 s)) (next (literal (mark_end 1) t) (λ u s. parsed 1 s)) e
    (λ bare.
    next_parsed (byte closed t) _ bare (λ u t₁ e₁ d₁.
    byte_sound closed t t₁ e₁
    ∙ ap {B = List ℕ} (λ s. closed ∷ s) (parsed_rest d₁)
    ∙ ap (λ (n : ℕ). mark_end n ++ r) (parsed_value d₁)))
    (λ held.
    next_parsed (literal (mark_end 1) t) _ held (λ u t₁ e₁ d₁.
    literal_sound (mark_end 1) t t₁ e₁
    ∙ ap (λ (s : List ℕ). mark_end 1 ++ s) (parsed_rest d₁)
    ∙ ap (λ (n : ℕ). mark_end n ++ r) (parsed_value d₁)))

mark_complete : (m : ℕ) (r : List ℕ) → m ≤ 1 → mark_read (mark_end m ++ r) ≡ parsed m r
mark_complete zero r h = refl
mark_complete (suc zero) r h = refl
mark_complete (suc (suc m)) r h = absurd (omega arith)

-- A copy's text is the start of a pair and the end of its mark's.
copy_append : (c : Copy) (r : List ℕ) → copy_text c ++ r ≡ start_before (unmarked c) (mark_end c.mark ++ r)
copy_append c r = start_append (unmarked c) (mark_end c.mark) r

-- What is read as a copy is the copy's text, and the text of a copy is read.
pub copy_sound : {cap : ℕ → ℕ} → Faithful cap → (t : List ℕ) (c : Copy) (r : List ℕ)
    → copy_read cap t ≡ parsed c r → SmallCopy c → t ≡ copy_text c ++ r
copy_sound {cap} f t c r e small =
    next_parsed (pair_start cap t) _ e (λ x t₁ e₁ d₁.
    chosen_parsed (leb x.film most_plan_film) (next (mark_read t₁) (λ m t₂. parsed (marked_with m x) t₂)) d₁ (λ fits d₂.
    next_parsed (mark_read t₁) _ d₂ (λ m t₂ e₃ d₃.
    let same : marked_with m x ≡ c = parsed_value d₃ in
    let items : x ≡ unmarked c = ap unmarked same in
    let smalls : SmallItem (unmarked c) = (omega (arith, small.0), small.2) in
    start_sound f t x t₁ e₁ (subst SmallItem (sym items) smalls)
    ∙ ap (start_before x) (mark_sound t₁ m t₂ e₃)
    ∙ ap (λ (d : Copy). start_before (unmarked d) (mark_end d.mark ++ t₂)) same
    ∙ ap (λ (s : List ℕ). start_before (unmarked c) (mark_end c.mark ++ s)) (parsed_rest d₃)
    ∙ sym (copy_append c r))))

pub copy_complete : {cap : ℕ → ℕ} → Faithful cap → (c : Copy) (r : List ℕ) → SmallCopy c → copy_read cap (copy_text c ++ r) ≡ parsed c r
copy_complete {cap} f c r small =
    ap (copy_read cap) (copy_append c r)
    ∙ ap (λ (p : Parse Item). next p copy_end)
    (start c.mark)
    ∙ cond_true (leb c.film most_plan_film) (next (mark_read (mark_end c.mark ++ r)) (λ m t₂. parsed (marked_with m (unmarked c)) t₂)) unparsed
    (le-leb c.film most_plan_film small.0)
    ∙ ap (λ (p : Parse ℕ). next p (λ m t₂. parsed (marked_with m (unmarked c)) t₂)) (mark_complete c.mark r small.1)
  where
    smalls : SmallItem (unmarked c)
    smalls = (omega (arith, small.0), small.2)

    start : (m : ℕ) → pair_start cap (start_before (unmarked c) (mark_end m ++ r)) ≡ parsed (unmarked c) (mark_end m ++ r)
    start zero = start_complete f (unmarked c) closed r smalls refl
    start (suc m) = start_complete f (unmarked c) space (ascii "held)" ++ r) smalls refl

-- Copies without marks have the text that pairs have: a text of before is the same text.
pub unmarked_text : (xs : List Item) → copies_text (map (marked_with 0) xs) ≡ pairs_text xs
unmarked_text [] = refl
unmarked_text (x ∷ xs) = ap (λ (r : List ℕ). space ∷ (pair_text x ++ r)) (unmarked_text xs)
