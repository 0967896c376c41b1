-- What a text's verdict says: a plan with that text, or the line that is refused.
use mathlib.Core.Path.{◌≡◌, refl, sym, ap, ◌∙◌, subst}
use mathlib.Core.Bool.{Bool, true, false}
use mathlib.Core.List.{List}
use Prim.Native.Nat.{ℕ, ◌<◌}
use native.Mathlib.Omega.{arith}
use borrow.Author.Tests.{le-leb, leb-false}
use lib.Dec.{leb}
use lib.ListN.{length}
use Rattle.refusal.specs.Verdict.{Verdict, given, refused, unless}
use Rattle.refusal.proofs.Verdicts.{unless_passes, unless_given}
use Rattle.placement.specs.Plan.{Plan, well_formed}
use Rattle.placement.proofs.Conjunctions.{false_true}
use Rattle.plan_text.specs.Text.{text_of}
use Rattle.plan_text.specs.Accepted.{RefusedLine}
use Rattle.plan_text.specs.Reading.{Reading, whole, refused_after, plan_read}
use Rattle.plan_text.specs.ReadCall.{lines_judged, text_verdict, most_bytes}
use Rattle.plan_text.proofs.Laws.{read_complete, read_well_formed, read_text, read_refused}
use Rattle.plan_text.proofs.LongestText.{text_fits}

-- The parts of a verdict.
abbrev plan_or : Plan → Verdict Plan → Plan
plan_or d (given p) = p
plan_or d (refused number second) = d

abbrev number_in : Verdict Plan → ℕ
number_in (given p) = 0
number_in (refused number second) = number

abbrev second_in : Verdict Plan → ℕ
second_in (given p) = 0
second_in (refused number second) = second

-- A plan is no refusal.
pub given_refused : {P : Type 0} (p : Plan) (n s : ℕ) → given p ≡ refused n s → P
given_refused p n s e = false_true (unless_given false n s (given p) p (sym e)).0

-- The text of a well-formed plan is never refused.
pub verdict_text : (p : Plan) → well_formed p ≡ true → text_verdict (text_of p) ≡ given p
verdict_text p e =
    unless_passes (leb (length (text_of p)) most_bytes) 8 0 _ (le-leb (length (text_of p)) most_bytes (text_fits p e))
    ∙ ap lines_judged (read_complete p e)

-- A plan that is given is read.
verdict_read : (t : List ℕ) (p : Plan) → text_verdict t ≡ given p → plan_read t ≡ whole p
verdict_read t p e =
    go (plan_read t) (unless_given (leb (length t) most_bytes) 8 0 (lines_judged (plan_read t)) p e).1
  where
    go : (r : Reading Plan) → lines_judged r ≡ given p → r ≡ whole p
    go (whole q) e = ap (λ (x : Plan). whole x) (ap (plan_or q) e)
    go (refused_after n) e = given_refused p _ _ (sym e)

-- It is well formed.
pub verdict_well_formed : (t : List ℕ) (p : Plan) → text_verdict t ≡ given p → well_formed p ≡ true
verdict_well_formed t p e = read_well_formed t p (verdict_read t p e)

-- It has that text.
pub verdict_same : (t : List ℕ) (p : Plan) → text_verdict t ≡ given p → text_of p ≡ t
verdict_same t p e = read_text t p (verdict_read t p e)

-- A refusal 9 names the line of the definition.
pub verdict_line : (t : List ℕ) (n : ℕ) → text_verdict t ≡ refused 9 n → RefusedLine t n
verdict_line t n e = go (leb (length t) most_bytes) (plan_read t) refl e
  where
    go : (b : Bool) (r : Reading Plan) → plan_read t ≡ r → unless b 8 0 (lines_judged r) ≡ refused 9 n → RefusedLine t n
    go true (whole q) d e = given_refused q 9 n e
    go true (refused_after m) d e = subst (RefusedLine t) (ap second_in e) (read_refused t m d)
    go false r d e = let z : ◌≡◌ {A = ℕ} 8 9 = ap number_in e in absurd (omega arith)

-- Another refusal is 8, of a text of more than 65,536 bytes.
pub verdict_eight : (t : List ℕ) (n s : ℕ) → text_verdict t ≡ refused n s → (n ≡ 9 → ⊥) → (n ≡ 8) × (s ≡ 0) × (most_bytes < length t)
verdict_eight t n s e other = go (leb (length t) most_bytes) refl (plan_read t) e
  where
    go : (b : Bool) → leb (length t) most_bytes ≡ b → (r : Reading Plan) → unless b 8 0 (lines_judged r) ≡ refused n s
        → (n ≡ 8) × (s ≡ 0) × (most_bytes < length t)
    go true d (whole q) e = given_refused q n s e
    go true d (refused_after m) e = absurd (other (sym (ap number_in e)))
    go false d r e = (sym (ap number_in e), sym (ap second_in e), leb-false (length t) most_bytes d)
