-- The source of a transfer: the lowest disk that holds the film in the old plan, or the loader where none does.
use mathlib.Core.Path.{◌≡◌, refl, sym, ap, subst, ◌∙◌}
use mathlib.Core.Bool.{Bool, true, false, cond}
use mathlib.Core.List.{List, [], ◌∷◌}
use mathlib.Core.Logic.{◌⊎◌, inl, inr}
use Prim.Native.Nat.{ℕ, ◌≤◌}
use native.Mathlib.Omega.{arith}
use borrow.Author.Tests.{eq-eqb, eqb-true}
use lib.Dec.{eqb}
use Rattle.placement.specs.WellFormed.{Each}
use Rattle.placement.proofs.Conjunctions.{both_true, and_holds, false_true}
use Rattle.placement.proofs.Tests.{by_test}
use Rattle.transfer_schedule.specs.Stored.{StoredCopy, stored_copy, same_copy, is_stored, source_of}
use Rattle.transfer_schedule.specs.Schedule.{Transfer}
use Rattle.transfer_schedule.specs.Words.{Holds, FromLoader, FromLowest}
use Rattle.transfer_schedule.specs.Fits.{CopyFits}
use Rattle.transfer_schedule.proofs.Either.{by_either, first_holds, second_holds}

-- Copies by ascending disk: each disk is at least the bound, and at least those before it.
abbrev pub DisksAscend : ℕ → List StoredCopy → Type 0
DisksAscend low [] = Unit {0}
DisksAscend low (c ∷ cs) = (low ≤ c.disk) × DisksAscend c.disk cs

-- A source is at most 8.
pub source_fits : (old : List StoredCopy) (film : ℕ) → Each CopyFits old → source_of old film ≤ 8
source_fits [] film fit = omega arith
source_fits (c ∷ cs) film fit = go (eqb film c.film) (source_fits cs film fit.1)
  where
    go : (b : Bool) → source_of cs film ≤ 8 → cond b c.disk (source_of cs film) ≤ 8
    go true h = fit.0.disk
    go false h = h

-- A disk that holds a film is one of those.
pub holds_from : (low : ℕ) (old : List StoredCopy) (disk film : ℕ) → DisksAscend low old → Holds old disk film → low ≤ disk
holds_from low [] disk film above held = false_true held
holds_from low (c ∷ cs) disk film above held =
    by_either (same_copy (stored_copy disk film) c) (is_stored (stored_copy disk film) cs) held
    (λ same. omega (arith, eqb-true disk c.disk (both_true (eqb disk c.disk) (eqb film c.film) same).0, above.0))
    (λ later. omega (arith, holds_from c.disk cs disk film above.1 later, above.0))

-- No disk holds the film; or the source does, and no lower one.
abbrev Nowhere : List StoredCopy → ℕ → Type 0
Nowhere old film = (source_of old film ≡ 0) × ((disk : ℕ) → Holds old disk film → ⊥)

abbrev Lowest : ℕ → List StoredCopy → ℕ → Type 0
Lowest low old film =
    (low ≤ source_of old film) × Holds old (source_of old film) film × ((disk : ℕ) → Holds old disk film → source_of old film ≤ disk)

-- The first copy is of the film, so its disk is the lowest.
module _ (low film : ℕ) (c : StoredCopy) (cs : List StoredCopy) (above : DisksAscend low (c ∷ cs)) where
  here : eqb film c.film ≡ true → Lowest low (c ∷ cs) film
  here e =
      subst (λ (s : ℕ). (low ≤ s) × Holds (c ∷ cs) s film × ((disk : ℕ) → Holds (c ∷ cs) disk film → s ≤ disk))
      (sym (ap (λ (b : Bool). cond b c.disk (source_of cs film)) e)) (
        above.0,
        first_holds _ _ (and_holds _ _ (eq-eqb c.disk c.disk refl) e),
        λ disk held. holds_from c.disk (c ∷ cs) disk film (omega arith, above.1) held,
      )

  -- It is not, so the others decide.
  module _ (e : eqb film c.film ≡ false) where
    source_later : source_of (c ∷ cs) film ≡ source_of cs film
    source_later = ap (λ (b : Bool). cond b c.disk (source_of cs film)) e

    holds_later : (disk : ℕ) → Holds (c ∷ cs) disk film → Holds cs disk film
    holds_later disk held =
        by_either (same_copy (stored_copy disk film) c) (is_stored (stored_copy disk film) cs) held
        (λ same. false_true (sym e ∙ (both_true (eqb disk c.disk) (eqb film c.film) same).1))
        (λ later. later)

    there : Nowhere cs film ⊎ Lowest c.disk cs film → Nowhere (c ∷ cs) film ⊎ Lowest low (c ∷ cs) film
    there (inl none) = inl (source_later ∙ none.0, λ disk held. none.1 disk (holds_later disk held))
    there (inr some) =
        inr (
          omega (arith, source_later, some.0, above.0),
          subst (λ (s : ℕ). Holds (c ∷ cs) s film) (sym source_later) (second_holds (same_copy (stored_copy (source_of cs film) film) c) _ some.1),
          λ disk held. omega (arith, source_later, some.2 disk (holds_later disk held)),
        )

-- One of the two holds.
source_found : (low : ℕ) (old : List StoredCopy) (film : ℕ) → DisksAscend low old → Nowhere old film ⊎ Lowest low old film
source_found low [] film above = inl (refl, λ disk held. false_true held)
source_found low (c ∷ cs) film above =
    by_test (eqb film c.film) (λ e. inr (here low film c cs above e))
    (λ e. there low film c cs above e (source_found c.disk cs film above.1))

-- A transfer from such a source is from the loader, and no disk holds its film; or from the lowest disk that does.
pub source_words :
    (old : List StoredCopy) → DisksAscend 1 old → (t : Transfer) → t.source ≡ source_of old t.film
    → FromLoader old t ⊎ FromLowest old t
source_words old above t e = go (source_found 1 old t.film above)
  where
    go : Nowhere old t.film ⊎ Lowest 1 old t.film → FromLoader old t ⊎ FromLowest old t
    go (inl none) = inl (record { loader = e ∙ none.0; nowhere = none.1 })
    go (inr some) =
        inr (record {
          a_disk = omega (arith, e, some.0);
          holds = subst (λ (s : ℕ). Holds old s t.film) (sym e) some.1;
          lowest = λ disk held. omega (arith, e, some.2 disk held);
        })

-- No other source is such a one.
pub source_only :
    (old : List StoredCopy) → DisksAscend 1 old → (t : Transfer) → FromLoader old t ⊎ FromLowest old t → t.source ≡ source_of old t.film
source_only old above t words = go words (source_found 1 old t.film above)
  where
    go : FromLoader old t ⊎ FromLowest old t → Nowhere old t.film ⊎ Lowest 1 old t.film → t.source ≡ source_of old t.film
    go (inl loader) (inl none) = loader.loader ∙ sym none.0
    go (inl loader) (inr some) = absurd (loader.nowhere (source_of old t.film) some.1)
    go (inr lowest) (inl none) = absurd (none.1 t.source lowest.holds)
    go (inr lowest) (inr some) = omega (arith, lowest.lowest (source_of old t.film) some.1, some.2 t.source lowest.holds)
