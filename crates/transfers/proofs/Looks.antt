-- Keys looked up one after the other: what the key at a place says of the copies from it on.
use mathlib.Core.Path.{◌≡◌, sym, ap, ◌∙◌}
use mathlib.Core.Bool.{Bool, true, ◌||◌}
use mathlib.Core.List.{List, ◌∷◌, map}
use Prim.Native.Nat.{ℕ, suc, ◌+◌, ◌/◌, ◌%◌, ◌<◌}
use native.Mathlib.Numerals.{add-one}
use native.Mathlib.Omega.{arith}
use borrow.Author.Tests.{eq-eqb, ne_eqb}
use lib.Dec.{eqb}
use lib.ListN.{length, get_or, drop, length-map, get_or-map}
use lib.Seq.{drop-cons}
use Rattle.placement.proofs.Conjunctions.{and_holds, cond_true, cond_false}
use Rattle.transfer_schedule.specs.Stored.{StoredCopy, same_copy, is_stored, source_of}
use Rattle.transfers.specs.Keys.{stored_in}

-- The same copy.
same_true : (x y : StoredCopy) → x ≡ y → same_copy x y ≡ true
same_true x y e =
    and_holds (eqb x.disk y.disk) (eqb x.film y.film) (eq-eqb x.disk y.disk (ap (λ (c : StoredCopy). c.disk) e))
    (eq-eqb x.film y.film (ap (λ (c : StoredCopy). c.film) e))

module _ (old : List ℕ) (i : ℕ) (h : i < length old) where
  -- The copies from a place on, and those behind it.
  abbrev from : List StoredCopy
  from = drop i (map stored_in old)

  abbrev behind : List StoredCopy
  behind = drop (i + 1) (map stored_in old)

  -- The copy of the key at the place stands in front of the others.
  pub copy_here : from ≡ stored_in (get_or old i 0) ∷ behind
  copy_here =
      rw add-one (drop-cons (map stored_in old) i (stored_in 0) (omega (arith, length-map old stored_in))
      ∙ ap (λ (c : StoredCopy). c ∷ drop (suc i) (map stored_in old)) (get_or-map stored_in old i 0))

  -- The copy of a key is found where the key stands.
  pub stored_found : (key : ℕ) → get_or old i 0 ≡ key → is_stored (stored_in key) from ≡ true
  stored_found key found =
      ap (is_stored (stored_in key)) copy_here
      ∙ ap (λ (b : Bool). b || is_stored (stored_in key) behind) (same_true (stored_in key) (stored_in (get_or old i 0)) (ap stored_in (sym found)))

  -- The source of a film is the disk of the first copy that has it,
  pub source_found : (film : ℕ) → get_or old i 0 % 16777216 ≡ film → source_of from film ≡ get_or old i 0 / 16777216
  source_found film found =
      ap (λ (cs : List StoredCopy). source_of cs film) copy_here
      ∙ cond_true (eqb film (get_or old i 0 % 16777216)) (get_or old i 0 / 16777216) (source_of behind film) (eq-eqb film (get_or old i 0 % 16777216) (sym found))

  -- else that of the rest.
  pub source_later : (film : ℕ) → (get_or old i 0 % 16777216 ≡ film → ⊥) → source_of from film ≡ source_of behind film
  source_later film other =
      ap (λ (cs : List StoredCopy). source_of cs film) copy_here
      ∙ cond_false (eqb film (get_or old i 0 % 16777216)) (get_or old i 0 / 16777216) (source_of behind film)
      (ne_eqb film (get_or old i 0 % 16777216) (λ e. other (sym e)))
