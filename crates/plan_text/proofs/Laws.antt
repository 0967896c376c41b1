-- The laws of the plan text: reading gives back what was written, what is read is well formed and has that text, a text
-- is that of one plan, and the refused line is the one of the definition.
use mathlib.Core.Path.{◌≡◌, refl, sym, ap, ◌∙◌}
use mathlib.Core.Bool.{true}
use mathlib.Core.List.{List}
use Prim.Native.Nat.{ℕ, suc, ◌≤◌}
use native.Mathlib.Omega.{arith}
use Rattle.placement.proofs.Tests.{by_order}
use Rattle.placement.specs.Plan.{Plan, well_formed}
use Rattle.plan_text.specs.Text.{text_of}
use Rattle.plan_text.specs.Accepted.{Accepted, upto, RefusedAfter, RefusedLine}
use Rattle.plan_text.specs.Reading.{Reading, whole, refused_after, plan_read_with, plan_read}
use Rattle.plan_text.specs.Capped.{saturated, plan_read_capped}
use Rattle.plan_text.proofs.Numbers.{Faithful, none_faithful, saturated_faithful}
use Rattle.plan_text.proofs.Grammar.{whole_value}
use Rattle.plan_text.proofs.Upto.{upto_fewer}
use Rattle.plan_text.proofs.PlanGrammar.{plan_grammar}

-- Reading back the text of a well-formed plan gives the plan.
pub read_complete : (p : Plan) → well_formed p ≡ true → plan_read (text_of p) ≡ whole p
unfolding plan_read
read_complete p formed = (plan_grammar none_faithful).complete p formed

-- What is read is well formed.
pub read_well_formed : (t : List ℕ) (p : Plan) → plan_read t ≡ whole p → well_formed p ≡ true
unfolding plan_read
read_well_formed t p e = (plan_grammar none_faithful).passes t p e

-- What is read has that text.
pub read_text : (t : List ℕ) (p : Plan) → plan_read t ≡ whole p → text_of p ≡ t
unfolding plan_read
read_text t p e = (plan_grammar none_faithful).sound t p e

-- Two well-formed plans with one text are the same plan.
pub text_injective : (p q : Plan) → well_formed p ≡ true → well_formed q ≡ true → text_of p ≡ text_of q → p ≡ q
text_injective p q formed formed' same =
    whole_value (sym (read_complete p formed) ∙ ap plan_read same ∙ read_complete q formed')

-- A text that is read is accepted.
pub read_accepted : (t : List ℕ) (p : Plan) → plan_read t ≡ whole p → Accepted t
read_accepted t p e = record { plan = p; formed = read_well_formed t p e; same = read_text t p e }

-- An accepted text is read.
pub accepted_read : (t : List ℕ) (a : Accepted t) → plan_read t ≡ whole a.plan
accepted_read t a = ap plan_read (sym a.same) ∙ read_complete a.plan a.formed

-- With any faithful cap, where reading refuses after n lines, line n + 1 is refused.
refused_with : {cap : ℕ → ℕ} → Faithful cap → (t : List ℕ) (n : ℕ) → plan_read_with cap t ≡ refused_after n → RefusedAfter t n
refused_with f t n e = record {
  begun = begun ((plan_grammar f).begun t n e);
  ended = λ a accepted same.
      (plan_grammar f).ended t n e accepted.plan accepted.formed (ap (upto (suc n)) accepted.same ∙ same);
}
  where
    begun : (p : Plan) × (well_formed p ≡ true) × (upto n (text_of p) ≡ upto n t) → (a : List ℕ) × Accepted a × (upto n a ≡ upto n t)
    begun x = (text_of x.0, record { plan = x.0; formed = x.1; same = refl }, x.2)

-- The refused line number is the one of the definition.
pub read_refused : (t : List ℕ) (n : ℕ) → plan_read t ≡ refused_after n → RefusedLine t (suc n)
unfolding plan_read
read_refused t n e = refused_with none_faithful t n e

-- No refused line comes after another.
refused_least : (t : List ℕ) (n m : ℕ) → RefusedAfter t n → RefusedAfter t m → m ≤ n
refused_least t n m r s =
    by_order n m
    (λ less. absurd (r.ended s.begun.0 s.begun.1 (upto_fewer (suc n) m s.begun.0 t less s.begun.2)))
    (λ more. more)

-- At most one line is refused.
pub refused_unique : (t : List ℕ) (n m : ℕ) → RefusedAfter t n → RefusedAfter t m → n ≡ m
refused_unique t n m r s = omega (arith, refused_least t n m r s, refused_least t m n s r)

-- A refused line is the one that reading gives.
refused_read : (t : List ℕ) (n : ℕ) → RefusedLine t (suc n) → plan_read t ≡ refused_after n
refused_read t n r = go (plan_read t) refl
  where
    go : (x : Reading Plan) → plan_read t ≡ x → x ≡ refused_after n
    go (whole p) e = absurd (r.ended t (read_accepted t p e) refl)
    go (refused_after m) e = ap (λ (k : ℕ). refused_after k) (refused_unique t m n (read_refused t m e) r)

-- Numbers that stop at 2³² − 1 read the same.
pub capped_read : (t : List ℕ) → plan_read_capped t ≡ plan_read t
unfolding plan_read_capped
capped_read t = go (plan_read_with saturated t) refl
  where
    go : (x : Reading Plan) → plan_read_with saturated t ≡ x → x ≡ plan_read t
    go (whole p) e =
        sym (accepted_read t (record {
          plan = p;
          formed = (plan_grammar saturated_faithful).passes t p e;
          same = (plan_grammar saturated_faithful).sound t p e;
        }))
    go (refused_after n) e = sym (refused_read t n (refused_with saturated_faithful t n e))
