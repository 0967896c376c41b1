-- The table of seen films: a place for each film number, true where the film stands in an earlier record.
use mathlib.Core.Path.{◌≡◌, refl, sym, ap, ◌∙◌, subst}
use mathlib.Core.Bool.{Bool, true, false, not}
use mathlib.Core.List.{List, ◌∷◌}
use Prim.Native.Nat.{ℕ, zero, suc, ◌+◌, ◌*◌, ◌<◌}
use native.Mathlib.Numerals.{add-one}
use native.Mathlib.Omega.{arith}
use borrow.Author.Tests.{eqb-true, eqb-false, ne_eqb}
use lib.Dec.{eqb}
use lib.ListN.{length, get_or, set, replicate}
use lib.Seq.{get_or-set_same, get_or-set_other}
use Rattle.placement.specs.Items.{Item, occurrences}
use Rattle.placement.specs.Records.{number32, record_at}
use Rattle.placement.proofs.Tests.{by_test}
use Rattle.placement.proofs.Films.{own_film, other_film_none}
use Rattle.demand_list.proofs.Judging.{earlier}

-- The table says for each film whether it stands in the records.
abbrev pub Marks : List Bool → List Item → Type 0
Marks seen records = (f : ℕ) → get_or seen f false ≡ not (eqb (occurrences f records) 0)

-- A table of `false` marks no film.
pub marks_none : (n f : ℕ) → get_or (replicate n false) f false ≡ false
marks_none zero f = refl
marks_none (suc n) zero = refl
marks_none (suc n) (suc f) = marks_none n f

-- With the film of one more record set, the table marks it too.
marks_more :
    (seen : List Bool) (records : List Item) (x : Item) → Marks seen records → x.film < length seen
    → Marks (set seen x.film true) (x ∷ records)
marks_more seen records x marks room f =
    by_test (eqb f x.film)
    (λ e. same (eqb-true f x.film e))
    (λ e. other (eqb-false f x.film e))
  where
    here : get_or (set seen x.film true) x.film false ≡ not (eqb (occurrences x.film (x ∷ records)) 0)
    here =
        get_or-set_same seen x.film true false room
        ∙ sym (ap not (ne_eqb (occurrences x.film (x ∷ records)) 0 (λ none. omega (arith, own_film x))))

    same : f ≡ x.film → get_or (set seen x.film true) f false ≡ not (eqb (occurrences f (x ∷ records)) 0)
    same e = subst (λ (g : ℕ). get_or (set seen x.film true) g false ≡ not (eqb (occurrences g (x ∷ records)) 0)) (sym e) here

    other : (f ≡ x.film → ⊥) → get_or (set seen x.film true) f false ≡ not (eqb (occurrences f (x ∷ records)) 0)
    other differs =
        get_or-set_other seen x.film f true false differs
        ∙ marks f
        ∙ ap (λ (n : ℕ). not (eqb n 0)) (sym count)
      where
        count : occurrences f (x ∷ records) ≡ occurrences f records
        count = omega (arith, other_film_none f x (λ e. differs (sym e)))

-- One record further on, with the film as it was read.
pub marks_record :
    (seen : List Bool) (bytes : List ℕ) (i film : ℕ) → film ≡ number32 bytes (8 * i) → film < length seen
    → Marks seen (earlier bytes i) → Marks (set seen film true) (earlier bytes (i + 1))
marks_record seen bytes i film e room marks =
    subst (λ (f : ℕ). Marks (set seen f true) (earlier bytes (i + 1))) (sym e)
    (subst (λ (k : ℕ). Marks (set seen (number32 bytes (8 * i)) true) (earlier bytes k)) (sym (add-one i))
    (marks_more seen (earlier bytes i) (record_at bytes i) marks (subst (λ (f : ℕ). f < length seen) e room)))

-- What the place of a film says of the records before.
pub marks_read :
    (seen : List Bool) (bytes : List ℕ) (i film : ℕ) (b : Bool) → film ≡ number32 bytes (8 * i)
    → Marks seen (earlier bytes i) → get_or seen film false ≡ b
    → not (eqb (occurrences (number32 bytes (8 * i)) (earlier bytes i)) 0) ≡ b
marks_read seen bytes i film b e marks read =
    sym (marks (number32 bytes (8 * i))) ∙ ap (λ (f : ℕ). get_or seen f false) (sym e) ∙ read
