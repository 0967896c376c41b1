-- Bytes that are all put, and what a space holds once a text is stored from its first place on.
use Rattle.std.proofs.Common.{◌≡◌, ℕ, ◌+◌, ◌^◌, ◌<◌, ◌≤◌, List, [], ◌++◌, length, drop, sym, ap, ◌∙◌, subst, arith}
use lib.Seq.{sets-eq}
use Rattle.writer.specs.Space.{Put}
use Rattle.writer.proofs.Rests.{Rest}

-- The same bytes, spelled otherwise.
pub put_as :
    {at : ℕ} {bytes same entry exit : List ℕ} {next : ℕ} → bytes ≡ same → Put at bytes entry exit next → Put at same entry exit next
put_as {at} {bytes} {same} {entry} {exit} {next} e p = subst (λ (b : List ℕ). Put at b entry exit next) e p

-- What takes the bytes, as a space does.
module _ {A : Type 0} (takes : A → List ℕ → A → Type 0) where
  -- Before the first store all is left.
  pub rest_start : (s : A) (all : List ℕ) → Rest takes s all s all
  rest_start s all = record { completes = λ {u = v} p. p }

  -- Where nothing is left, the whole is stored.
  pub rest_done : ((a : A) → takes a [] a) → {s t : A} {all rest : List ℕ} → rest ≡ [] → Rest takes s all t rest → takes s all t
  rest_done none {s} {t} e r = r.completes (subst (λ (b : List ℕ). takes t b t) (sym e) (none t))

-- Stored from the first place on, in a space that is long enough, the bytes stand before the rest of the space.
pub put_first :
    {bytes entry stored exit : List ℕ} {next : ℕ} → Put 0 bytes entry stored next → length bytes < 2 ^ 64 → length bytes ≤ length entry
    → exit ≡ stored → exit ≡ bytes ++ drop (length bytes) entry
put_first {bytes} {entry} p few h same =
    let n : 0 + length bytes ≡ length bytes = omega arith in
    let fits : 0 + length bytes ≤ length entry = omega arith in
    same ∙ (p.stored (omega (arith, few))).held ∙ sets-eq bytes entry 0 fits ∙ ap (λ (k : ℕ). bytes ++ drop k entry) n

-- Its next place is the length of the bytes.
pub put_length : {bytes entry exit : List ℕ} {next : ℕ} → Put 0 bytes entry exit next → length bytes < 2 ^ 64 → next ≡ length bytes
put_length {bytes} p few = omega (arith, (p.stored (omega (arith, few))).behind)
