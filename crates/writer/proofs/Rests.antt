-- Bytes put one run after the other: what is left to put gives the whole.
use Rattle.std.proofs.Common.{◌≡◌, ℕ, List, ◌++◌, subst, sym}

-- The rest, put behind `t`, completes what the whole gives behind `s`.
pub record Rest {A : Type 0} (takes : A → List ℕ → A → Type 0) (s : A) (all : List ℕ) (t : A) (rest : List ℕ) : Type 0 where
  pub completes : {u : A} → takes t rest u → takes s all u

-- A run that is put leaves what follows it.
pub rest_step :
    {A : Type 0} (takes : A → List ℕ → A → Type 0) {s t u : A} {all whole bytes rest : List ℕ}
    → ((a b c : A) (xs ys : List ℕ) → takes a xs b → takes b ys c → takes a (xs ++ ys) c)
    → whole ≡ bytes ++ rest → Rest takes s all t whole → takes t bytes u → Rest takes s all u rest
rest_step takes {s} {t} more e r p =
    record { completes = λ {u = v} q. r.completes (subst (λ (b : List ℕ). takes t b v) (sym e) (more _ _ _ _ _ p q)) }
