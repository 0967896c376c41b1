-- Laws of lines: heads, line feeds and tests.
use mathlib.Core.Path.{◌≡◌, refl, sym, ap, ◌∙◌}
use mathlib.Core.Bool.{Bool, true, false, cond, ◌&&◌}
use mathlib.Core.List.{List, [], ◌∷◌, ◌++◌}
use Prim.Native.Nat.{ℕ}
use Rattle.std.specs.Prelude.{Option, Some, None, is_some}
use Rattle.plan_text.specs.Ascii.{ascii}
use Rattle.plan_text.specs.Decimal.{decimal}
use Rattle.plan_text.specs.Text.{space, closed, line_feed, disk_head, served_line}
use Rattle.plan_text.specs.Parse.{Parse, parsed, unparsed, next, byte, literal}
use Rattle.plan_text.specs.Reading.{line}
use Rattle.plan_text.proofs.Pieces.{unparsed_parsed}
use Rattle.placement.proofs.Conjunctions.{false_true}
use Rattle.reader.specs.Cursor.{parse_of}
use Rattle.reader.specs.Line.{line_end}
use Rattle.reader.proofs.Pieces.{next_assoc, next_same, piece, literal_append}
use Rattle.reader.proofs.Bytes.{literal_one}

-- The test of a line, behind its line feed: the step fits where the line feed does and the test holds.
pub line_end_lem :
    (c ended r : Option (Unit {0})) (t₀ t₁ t₂ : List ℕ) (test : Bool) → parse_of ended t₁ ≡ next (parse_of c t₀) (λ u t. byte line_feed t)
    → t₂ ≡ t₁ → is_some r ≡ (is_some ended && test) → parse_of r t₂ ≡ next (parse_of c t₀) (λ u t. line_end test t)
line_end_lem c ended r t₀ t₁ t₂ test h at fits =
    ap (parse_of r) at
    ∙ go ended r test fits
    ∙ piece (parse_of ended t₁) (parse_of c t₀) (λ u t. byte line_feed t) (λ u t. cond test (parsed (tt {0}) t) unparsed) h
  where
    go :
        (a b : Option (Unit {0})) (v : Bool) → is_some b ≡ (is_some a && v)
        → parse_of b t₁ ≡ next (parse_of a t₁) (λ u t. cond v (parsed (tt {0}) t) unparsed)
    go (Some x) (Some y) true e = refl
    go (Some x) None false e = refl
    go None None v e = refl
    go (Some x) None true e = false_true e
    go (Some x) (Some y) false e = false_true (sym e)
    go None (Some y) v e = false_true (sym e)

-- A line that was read passed its test.
pub line_end_passed : (test : Bool) (t s : List ℕ) → line_end test t ≡ parsed tt s → test ≡ true
line_end_passed test t s e = go (byte line_feed t) test e
  where
    go : (p : Parse (Unit {0})) (b : Bool) → next p (λ u t. cond b (parsed (tt {0}) t) unparsed) ≡ parsed (tt {0}) s → b ≡ true
    go unparsed b e = unparsed_parsed e
    go (parsed u t) true e = refl
    go (parsed u t) false e = unparsed_parsed e

tested :
    {A : Type 0} (a : A) (b : Bool) (p : Parse (Unit {0}))
    → next p (λ u t. cond b (parsed a t) unparsed) ≡ next (next p (λ u t. cond b (parsed (tt {0}) t) unparsed)) (λ v s. parsed a s)
tested a true (parsed u t) = refl
tested a false (parsed u t) = refl
tested a b unparsed = refl

-- A line is its body, then its end.
pub line_parts :
    {A : Type 0} (body : List ℕ → Parse A) (test : A → Bool) (t : List ℕ)
    → line body test t ≡ next (body t) (λ a s. next (line_end (test a) s) (λ u r. parsed a r))
line_parts body test t =
    next_same (body t) (λ a s. next (byte line_feed s) (λ u r. cond (test a) (parsed a r) unparsed))
    (λ a s. next (line_end (test a) s) (λ u r. parsed a r)) (λ a s. tested a (test a) (byte line_feed s))

-- Determined bytes before determined bytes.
literal_before :
    (a b : List ℕ) (r q p : Parse (Unit {0})) → q ≡ next p (λ u t. literal a t) → r ≡ next q (λ u t. literal b t)
    → r ≡ next p (λ u t. literal (a ++ b) t)
literal_before a b r q p e f =
    f
    ∙ piece q p (λ u t. literal a t) (λ u t. literal b t) e
    ∙ next_same p (λ u t. next (literal a t) (λ v s. literal b s)) (λ u t. literal (a ++ b) t) (λ u t. sym (literal_append a b t))

-- A disk line's head.
pub disk_head_lem :
    (number : ℕ) (r q p : Parse (Unit {0})) → q ≡ next p (λ u t. literal (ascii "(disk ") t)
    → r ≡ next q (λ u t. literal (decimal number) t) → r ≡ next p (λ u t. literal (disk_head number) t)
disk_head_lem number r q p e f = literal_before (ascii "(disk ") (decimal number) r q p e f

-- The served line, piece by piece.
abbrev pub served_pieces : (s u : ℕ) → List ℕ → Parse (Unit {0})
served_pieces s u t =
    next (literal (ascii "(served ") t) (λ u₁ t₁.
    next (literal (decimal s) t₁) (λ u₂ t₂.
    next (byte space t₂) (λ u₃ t₃.
    next (literal (decimal u) t₃) (λ u₄ t₄.
    next (byte closed t₄) (λ u₅ t₅. line_end true t₅)))))

pub served_parts : (s u : ℕ) (t : List ℕ) → served_pieces s u t ≡ line (literal (served_line s u)) (λ a. true) t
served_parts s u t =
    sym
    (line_parts (literal (served_line s u)) (λ a. true) t
    ∙ next_same (literal (served_line s u) t) _ _ (λ a s. same (line_end true s))
    ∙ ap (λ (p : Parse (Unit {0})). next p (λ a s. line_end true s)) (literal_append (ascii "(served ") (decimal s ++ (space ∷ (decimal u ++ (closed ∷ [])))) t)
    ∙ next_assoc (literal (ascii "(served ") t) _ _
    ∙ next_same (literal (ascii "(served ") t) _ _ (λ u₁ t₁.
    ap (λ (p : Parse (Unit {0})). next p (λ a s. line_end true s)) (literal_append (decimal s) (space ∷ (decimal u ++ (closed ∷ []))) t₁)
    ∙ next_assoc (literal (decimal s) t₁) _ _
    ∙ next_same (literal (decimal s) t₁) _ _ (λ u₂ t₂.
    next_assoc (byte space t₂) _ _
    ∙ next_same (byte space t₂) _ _ (λ u₃ t₃.
    ap (λ (p : Parse (Unit {0})). next p (λ a s. line_end true s)) (literal_append (decimal u) (closed ∷ []) t₃)
    ∙ next_assoc (literal (decimal u) t₃) _ _
    ∙ next_same (literal (decimal u) t₃) _ _ (λ u₄ t₄.
    ap (λ (p : Parse (Unit {0})). next p (λ a s. line_end true s)) (sym (literal_one closed t₄)))))))
  where
    same : (p : Parse (Unit {0})) → next p (λ v r. parsed tt r) ≡ p
    same (parsed v r) = refl
    same unparsed = refl
