-- Copies that were read as halves are the copies of the text.
use mathlib.Core.Path.{◌≡◌, refl, ap, ◌∙◌}
use mathlib.Core.Bool.{Bool, true, false, cond}
use mathlib.Core.List.{List, [], ◌∷◌, map}
use Prim.Native.Nat.{ℕ, zero, suc, ◌≤◌}
use native.Mathlib.Omega.{arith}
use borrow.Author.Tests.{leb-true}
use lib.Dec.{leb, eqb}
use Rattle.placement.specs.Items.{Item}
use Rattle.placement.specs.Copies.{Copy, marked_with, halves_of, copy_of}
use Rattle.placement.specs.Rack.{most_plan_film}
use Rattle.placement.proofs.MarkedCopies.{copy_halves}
use Rattle.plan_text.specs.Text.{space, closed}
use Rattle.plan_text.specs.Parse.{Parse, parsed, unparsed, next, pair_start, mark_read, copy_read, end_or, spaced_read}
use Rattle.plan_text.specs.Capped.{saturated}
use Rattle.plan_text.proofs.Pieces.{parsed_value, next_parsed, chosen_parsed}
use Rattle.reader.specs.Pairs.{halves_read}

-- A copy that was read has a film that a plan may have.
read_film : (t : List ℕ) (c : Copy) (r : List ℕ) → copy_read saturated t ≡ parsed c r → c.film ≤ most_plan_film
read_film t c r e =
    next_parsed (pair_start saturated t) _ e (λ x t₁ e₁ d₁.
    chosen_parsed (leb x.film most_plan_film) (next (mark_read t₁) (λ m s. parsed (marked_with m x) s)) d₁ (λ fits d₂.
    next_parsed (mark_read t₁) _ d₂ (λ m t₂ e₃ d₃.
    let same : x.film ≡ c.film = ap (λ (d : Copy). d.film) (parsed_value d₃) in
    omega (arith, leb-true x.film most_plan_film fits, same))))

-- Halves as copies.
abbrev copied : Parse (List Item) → Parse (List Copy)
copied p = next p (λ xs end. parsed (map copy_of xs) end)

-- An end, or more.
ends : (more_items : List ℕ → Parse (List Item)) (more_copies : List ℕ → Parse (List Copy))
    → ((t : List ℕ) → copied (more_items t) ≡ more_copies t) → (t : List ℕ) → copied (end_or more_items t) ≡ end_or more_copies t
ends more_items more_copies same [] = refl
ends more_items more_copies same (b ∷ bs) = go (eqb b closed) (eqb b space)
  where
    go : (x y : Bool)
        → copied (cond x (parsed [] bs) (cond y (more_items bs) unparsed)) ≡ cond x (parsed [] bs) (cond y (more_copies bs) unparsed)
    go true y = refl
    go false true = same bs
    go false false = refl

-- One copy behind the other.
pub halves_copies : (n : ℕ) (t : List ℕ) → copied (spaced_read halves_read n t) ≡ spaced_read (copy_read saturated) n t
halves_copies zero t = ends (λ s. unparsed) (λ s. unparsed) (λ s. refl) t
halves_copies (suc n) t = ends _ _ (λ s. go s (copy_read saturated s) refl (halves_copies n)) t
  where
    behind : (c : Copy) → copy_of (halves_of c) ≡ c → (p : Parse (List Item))
        → copied (next p (λ xs end. parsed (halves_of c ∷ xs) end)) ≡ next (copied p) (λ cs end. parsed (c ∷ cs) end)
    behind c same (parsed xs end) = ap (λ (d : Copy). parsed (d ∷ map copy_of xs) end) same
    behind c same unparsed = refl

    go : (s : List ℕ) (p : Parse Copy) → copy_read saturated s ≡ p
        → ((after : List ℕ) → copied (spaced_read halves_read n after) ≡ spaced_read (copy_read saturated) n after)
        → copied
        (next (next p (λ c r. parsed (halves_of c) r)) (λ x after. next (spaced_read halves_read n after) (λ xs end. parsed (x ∷ xs) end)))
        ≡ next p (λ c after. next (spaced_read (copy_read saturated) n after) (λ cs end. parsed (c ∷ cs) end))
    go s (parsed c after) e later =
        behind c (copy_halves c (omega (arith, read_film s c after e))) (spaced_read halves_read n after)
        ∙ ap (λ (p : Parse (List Copy)). next p (λ cs end. parsed (c ∷ cs) end)) (later after)
    go s unparsed e later = refl
