-- The bodies of the lines: the rack's, those with pairs, and the served line's.
use mathlib.Core.Path.{◌≡◌, refl, sym, ap, ◌∙◌}
use mathlib.Core.List.{List, [], ◌∷◌, ◌++◌, append_assoc}
use Prim.Native.Nat.{ℕ, ◌≤◌}
use native.Mathlib.Omega.{arith}
use lib.ListN.{length}
use Rattle.placement.specs.Items.{Item}
use Rattle.placement.specs.Copies.{Copy}
use Rattle.placement.specs.WellFormed.{Each}
use Rattle.plan_text.specs.Ascii.{ascii}
use Rattle.plan_text.specs.Decimal.{decimal}
use Rattle.plan_text.specs.Text.{space, closed, pair_text, spaced_text, pairs_text, copy_text, copies_text, rack_line, served_line}
use Rattle.plan_text.specs.Parse.{Parse, parsed, next, byte, literal, number, pair, copy_read, spaced_read}
use Rattle.plan_text.specs.Reading.{Sizes, rack_body, pairs_body, copies_body}
use Rattle.plan_text.proofs.Pieces.{parsed_value, parsed_rest, next_parsed, byte_sound, literal_sound, literal_complete}
use Rattle.plan_text.proofs.Numbers.{Faithful, most, number_sound, number_complete}
use Rattle.plan_text.proofs.Spaced.{spaced_sound, spaced_complete}
use Rattle.plan_text.proofs.Pairs.{SmallItem, SmallItems, pair_sound, pair_complete}
use Rattle.plan_text.proofs.CopyTexts.{SmallCopy, SmallCopies, copy_sound, copy_complete}
use Rattle.plan_text.proofs.Grammar.{Body}

-- A head and values, one behind the other: at most n small values are read.
module _ {A : Type 0} (one : List ℕ → Parse A) (text : A → List ℕ) (Small : A → Type 0)
    (sound : (t : List ℕ) (x : A) (r : List ℕ) → one t ≡ parsed x r → Small x → t ≡ text x ++ r)
    (complete : (x : A) (r : List ℕ) → Small x → one (text x ++ r) ≡ parsed x r) (head : List ℕ) (n : ℕ) where
  abbrev read : List ℕ → Parse (List A)
  read t = next (literal head t) (λ u s. spaced_read one n s)

  spaced_body : Body read (λ xs. head ++ spaced_text text xs) (λ xs. (length xs ≤ n) × Each Small xs)
  spaced_body = record {
    sound = λ t xs r e small.
        next_parsed (literal head t) _ e (λ u t₁ e₁ d₁.
        literal_sound head t t₁ e₁
        ∙ ap (λ (s : List ℕ). head ++ s) (spaced_sound one text Small sound complete n t₁ xs r d₁ small.1)
        ∙ sym (append_assoc head (spaced_text text xs) r));
    complete = λ xs r small.
        ap read (append_assoc head (spaced_text text xs) r)
        ∙ ap (λ (p : Parse (Unit {0})). next p (λ u t. spaced_read one n t)) (literal_complete head (spaced_text text xs ++ r))
        ∙ spaced_complete one text Small sound complete n xs r small.0 small.1;
  }

-- At most so many pairs, and small ones.
abbrev pub FewItems : ℕ → List Item → Type 0
FewItems n xs = (length xs ≤ n) × SmallItems xs

pub pairs_body_lem : {cap : ℕ → ℕ} → Faithful cap → (head : List ℕ) (n : ℕ)
    → Body (pairs_body cap head n) (λ xs. head ++ pairs_text xs) (FewItems n)
pairs_body_lem {cap} f = spaced_body (pair cap) pair_text SmallItem (pair_sound f) (pair_complete f)

-- At most so many copies, and small ones.
abbrev pub FewCopies : ℕ → List Copy → Type 0
FewCopies n cs = (length cs ≤ n) × SmallCopies cs

pub copies_body_lem : {cap : ℕ → ℕ} → Faithful cap → (head : List ℕ) (n : ℕ)
    → Body (copies_body cap head n) (λ cs. head ++ copies_text cs) (FewCopies n)
copies_body_lem {cap} f = spaced_body (copy_read cap) copy_text SmallCopy (copy_sound f) (copy_complete f)

-- The served line is a literal.
pub served_body : (s u : ℕ) → Body (literal (served_line s u)) (λ a. served_line s u) (λ a. Unit {0})
served_body s u = record {
  sound = λ t a r e small. literal_sound (served_line s u) t r e;
  complete = λ a r small. literal_complete (served_line s u) r;
}

-- The three numbers are at most 1,000,000.
abbrev SmallSizes : Sizes → Type 0
SmallSizes z = (z.disks ≤ most) × (z.slots ≤ most) × (z.streams ≤ most)

-- The rack's line, from its numbers as one value.
abbrev pub sizes_line : Sizes → List ℕ
sizes_line z = rack_line z.disks z.slots z.streams

-- The rack's line before other text, bracketed to the right.
abbrev rack_before : Sizes → List ℕ → List ℕ
rack_before z r =
    ascii "(rack " ++ (decimal z.disks ++ (space ∷ (decimal z.slots ++ (space ∷ (decimal z.streams ++ (closed ∷ r))))))

-- Brackets may be moved to the right.
rack_append : (z : Sizes) (r : List ℕ) → sizes_line z ++ r ≡ rack_before z r
rack_append z r =
    ap (λ (s : List ℕ). ascii "(rack " ++ s)
    (append_assoc (decimal z.disks) (space ∷ (decimal z.slots ++ (space ∷ (decimal z.streams ++ (closed ∷ []))))) r
    ∙ ap (λ (s : List ℕ). decimal z.disks ++ (space ∷ s))
    (append_assoc (decimal z.slots) (space ∷ (decimal z.streams ++ (closed ∷ []))) r
    ∙ ap (λ (s : List ℕ). decimal z.slots ++ (space ∷ s)) (append_assoc (decimal z.streams) (closed ∷ []) r)))

-- What is read as a rack is the rack's line.
rack_sound : {cap : ℕ → ℕ} → Faithful cap → (t : List ℕ) (z : Sizes) (r : List ℕ)
    → rack_body cap t ≡ parsed z r → SmallSizes z → t ≡ sizes_line z ++ r
rack_sound {cap} f t z r e small =
    next_parsed (literal (ascii "(rack ") t) _ e (λ u₁ t₁ e₁ d₁.
    next_parsed (number cap t₁) _ d₁ (λ n t₂ e₂ d₂.
    next_parsed (byte space t₂) _ d₂ (λ u₂ t₃ e₃ d₃.
    next_parsed (number cap t₃) _ d₃ (λ k t₄ e₄ d₄.
    next_parsed (byte space t₄) _ d₄ (λ u₃ t₅ e₅ d₅.
    next_parsed (number cap t₅) _ d₅ (λ l t₆ e₆ d₆.
    next_parsed (byte closed t₆) _ d₆ (λ u₄ t₇ e₇ d₇.
    let sizes : Sizes = record { disks = n; slots = k; streams = l } in
    let same : sizes ≡ z = parsed_value d₇ in
    let ns : n ≡ z.disks = ap (λ (y : Sizes). y.disks) same in
    let ks : k ≡ z.slots = ap (λ (y : Sizes). y.slots) same in
    let ls : l ≡ z.streams = ap (λ (y : Sizes). y.streams) same in
    literal_sound (ascii "(rack ") t t₁ e₁
    ∙ ap (λ (s : List ℕ). ascii "(rack " ++ s)
    (number_sound f t₁ n t₂ e₂ (omega (arith, ns, small.0))
    ∙ ap (λ (s : List ℕ). decimal n ++ s)
    (byte_sound space t₂ t₃ e₃
    ∙ ap {B = List ℕ} (λ s. space ∷ s)
    (number_sound f t₃ k t₄ e₄ (omega (arith, ks, small.1))
    ∙ ap (λ (s : List ℕ). decimal k ++ s)
    (byte_sound space t₄ t₅ e₅
    ∙ ap {B = List ℕ} (λ s. space ∷ s)
    (number_sound f t₅ l t₆ e₆ (omega (arith, ls, small.2))
    ∙ ap (λ (s : List ℕ). decimal l ++ s) (byte_sound closed t₆ t₇ e₇))))))
    ∙ ap (λ (y : Sizes). rack_before y t₇) same
    ∙ ap (λ (s : List ℕ). rack_before z s) (parsed_rest d₇)
    ∙ sym (rack_append z r))))))))

-- The rack's line is read.
rack_complete : {cap : ℕ → ℕ} → Faithful cap → (z : Sizes) (r : List ℕ) → SmallSizes z → rack_body cap (sizes_line z ++ r) ≡ parsed z r
rack_complete {cap} f z r small =
    ap (rack_body cap) (rack_append z r)
    ∙ rw (number_complete f z.disks space (decimal z.slots ++ (space ∷ (decimal z.streams ++ (closed ∷ r)))) small.0 refl)
    (rw (number_complete f z.slots space (decimal z.streams ++ (closed ∷ r)) small.1 refl)
    (rw (number_complete f z.streams closed r small.2 refl) refl))

-- Both laws of the rack's line.
pub rack_body_lem : {cap : ℕ → ℕ} → Faithful cap → Body (rack_body cap) sizes_line SmallSizes
rack_body_lem f = record { sound = rack_sound f; complete = rack_complete f }
