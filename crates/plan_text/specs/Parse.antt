-- Pieces of text read from the front of a list of bytes: literals, numbers, pairs, copies. A number passes through `cap` at each digit.
use Rattle.std.specs.Prelude.{ℕ, zero, suc, ◌+◌, ◌-◌, ◌*◌, Bool, cond, ◌&&◌, List, [], ◌∷◌, leb, eqb}
use Rattle.placement.specs.Items.{Item, item}
use Rattle.placement.specs.Copies.{Copy, marked_with}
use Rattle.placement.specs.Rack.{most_plan_film}
use Rattle.plan_text.specs.Text.{space, opened, closed, mark_end}

-- What was read and the bytes after it, or nothing where the bytes do not fit.
pub data Parse (A : Type 0) : Type 0 where
  parsed : A → List ℕ → Parse A
  unparsed : Parse A

-- One piece, then another.
abbrev pub next : {A B : Type 0} → Parse A → (A → List ℕ → Parse B) → Parse B
next (parsed a rest) more = more a rest
next unparsed more = unparsed

-- One piece, or another where it does not fit.
abbrev pub or_else : {A : Type 0} → Parse A → Parse A → Parse A
or_else (parsed a rest) other = parsed a rest
or_else unparsed other = other

-- One byte that is determined.
abbrev pub byte : ℕ → List ℕ → Parse (Unit {0})
byte expected [] = unparsed
byte expected (b ∷ bs) = cond (eqb b expected) (parsed tt bs) unparsed

-- Bytes that are determined.
abbrev pub literal : List ℕ → List ℕ → Parse (Unit {0})
literal [] text = parsed tt text
literal (expected ∷ rest) text = next (byte expected text) (λ u after. literal rest after)

-- A byte from 48 to 57.
abbrev pub is_digit : ℕ → Bool
is_digit b = leb 48 b && leb b 57

-- The digits that follow, behind those that made n so far.
abbrev pub digits : (ℕ → ℕ) → ℕ → List ℕ → Parse ℕ
digits cap n [] = parsed n []
digits cap n (b ∷ bs) =
    let more = digits cap (cap (n * 10 + (b - 48))) bs in
    cond (is_digit b) more (parsed n (b ∷ bs))

-- A number; a 0 is finished, so that a leading zero fails at what must follow.
abbrev pub number : (ℕ → ℕ) → List ℕ → Parse ℕ
number cap [] = unparsed
number cap (b ∷ bs) =
    let more = digits cap (b - 48) bs in
    cond (eqb b 48) (parsed 0 bs) (cond (is_digit b) more unparsed)

-- `(f a`, as a pair or a copy begins.
abbrev pub pair_start : (ℕ → ℕ) → List ℕ → Parse Item
pair_start cap text =
    next (byte opened text) (λ u₁ t₁.
    next (number cap t₁) (λ film t₂.
    next (byte space t₂) (λ u₂ t₃.
    next (number cap t₃) (λ amount t₄. parsed (item film amount) t₄))))

-- `(f a)`.
abbrev pub pair : (ℕ → ℕ) → List ℕ → Parse Item
pair cap text = next (pair_start cap text) (λ x t₁. next (byte closed t₁) (λ u t₂. parsed x t₂))

-- The mark, by how a copy ends.
abbrev pub mark_read : List ℕ → Parse ℕ
mark_read text =
    or_else (next (byte closed text) (λ u t. parsed 0 t)) (next (literal (mark_end 1) text) (λ u t. parsed 1 t))

-- The end of a copy behind its film, which a plan may have, and its viewers.
abbrev pub copy_end : Item → List ℕ → Parse Copy
copy_end x text = cond (leb x.film most_plan_film) (next (mark_read text) (λ mark t. parsed (marked_with mark x) t)) unparsed

-- `(f a)` or `(f a held)`.
abbrev pub copy_read : (ℕ → ℕ) → List ℕ → Parse Copy
copy_read cap text = next (pair_start cap text) copy_end

-- By the next byte: a closing bracket ends the line's values, a space leads to more.
abbrev pub end_or : {A : Type 0} → (List ℕ → Parse (List A)) → List ℕ → Parse (List A)
end_or more [] = unparsed
end_or more (b ∷ bs) =
    let later = more bs in
    cond (eqb b closed) (parsed [] bs) (cond (eqb b space) later unparsed)

-- The values of a line, each read by `one`, and its closing bracket, at most `most` of them.
abbrev pub spaced_read : {A : Type 0} → (List ℕ → Parse A) → ℕ → List ℕ → Parse (List A)
spaced_read one zero text = end_or (λ t. unparsed) text
spaced_read one (suc most) text =
    end_or
    (λ t. next (one t) (λ x after. next (spaced_read one most after) (λ xs end. parsed (x ∷ xs) end)))
    text

-- The pairs of a line.
abbrev pub pairs : (ℕ → ℕ) → ℕ → List ℕ → Parse (List Item)
pairs cap most text = spaced_read (pair cap) most text

-- The copies of a disk's line.
abbrev pub copies : (ℕ → ℕ) → ℕ → List ℕ → Parse (List Copy)
copies cap most text = spaced_read (copy_read cap) most text
