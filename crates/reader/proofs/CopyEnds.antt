-- How a pair and a copy end: a copy with a bracket, with `held` before it, or not at all where no plan has its film.
use mathlib.Core.Path.{◌≡◌, refl, sym, ap, ◌∙◌}
use mathlib.Core.Bool.{Bool, true, false, cond}
use mathlib.Core.List.{List}
use Prim.Native.Nat.{ℕ, ◌+◌, ◌*◌}
use native.Mathlib.Omega.{arith}
use lib.Dec.{leb}
use Rattle.placement.specs.Items.{Item, item}
use Rattle.placement.specs.Copies.{marked_with, halves_of}
use Rattle.placement.specs.Rack.{most_plan_film}
use Rattle.placement.proofs.MarkedCopies.{unmarked_halves}
use Rattle.plan_text.specs.Text.{closed, mark_end}
use Rattle.plan_text.specs.Parse.{Parse, parsed, unparsed, next, or_else, byte, literal, pair_start, pair, mark_read, copy_end}
use Rattle.plan_text.specs.Capped.{saturated}
use Rattle.std.specs.Prelude.{Option, Some, None}
use Rattle.reader.specs.Cursor.{parse_of, parse_by}
use Rattle.reader.specs.Pairs.{halves_end, halves_read}
use Rattle.reader.proofs.Pieces.{next_assoc, next_same}

-- A copy is the start of a pair, and its end.
pub halves_parts : (t : List ℕ) → halves_read t ≡ next (pair_start saturated t) (λ x s. halves_end x s)
halves_parts t = next_assoc (pair_start saturated t) copy_end (λ c s. parsed (halves_of c) s)

module _ (x : Item) (t : List ℕ) where
  -- The ending by its film's test.
  abbrev by_film : Bool → Parse Item
  by_film fits = next (cond fits (next (mark_read t) (λ m s. parsed (marked_with m x) s)) unparsed) (λ c s. parsed (halves_of c) s)

  -- The same where its film is a plan's, by the bracket.
  abbrev by_bracket : Parse (Unit {0}) → Parse Item
  by_bracket closing =
      next
      (next (or_else (next closing (λ u s. parsed 0 s)) (next (literal (mark_end 1) t) (λ u s. parsed 1 s))) (λ m s. parsed (marked_with m x) s))
      (λ c s. parsed (halves_of c) s)

  -- No plan has the film.
  pub end_large : leb x.film most_plan_film ≡ false → halves_end x t ≡ unparsed
  end_large large = ap by_film large

  module _ (fits : leb x.film most_plan_film ≡ true) where
    -- A bracket follows: the copy has no mark.
    pub end_closed : (s : List ℕ) → byte closed t ≡ parsed tt s → halves_end x t ≡ parsed x s
    end_closed s e = ap by_film fits ∙ ap by_bracket e ∙ ap (λ (y : Item). parsed y s) (unmarked_halves x)

    -- No bracket follows: `held` does, or the copy does not end.
    pub end_held :
        byte closed t ≡ unparsed
        → halves_end x t ≡ next (literal (mark_end 1) t) (λ u s. parsed (item (x.film + 65536) x.amount) s)
    end_held e = ap by_film fits ∙ ap by_bracket e ∙ sym (one (literal (mark_end 1) t))
      where
        low : x.film + 65536 ≡ 1 * 65536 + x.film
        low = omega arith

        one : (z : Parse (Unit {0}))
            → next z (λ u s. parsed (item (x.film + 65536) x.amount) s)
            ≡ next (next (next z (λ u s. parsed 1 s)) (λ m s. parsed (marked_with m x) s)) (λ c s. parsed (halves_of c) s)
        one (parsed u s) = ap (λ (n : ℕ). parsed (item n x.amount) s) low
        one unparsed = refl

-- The start of a pair, and then the end of a copy or of a pair.
module _ (c : Option (Unit {0})) (t : List ℕ) (x : Item) (start : Option (Unit {0})) (s : List ℕ)
    (started : parse_by (λ u. x) start s ≡ next (parse_of c t) (λ u r. pair_start saturated r)) where
  pub copy_ended :
      {p : Parse Item} → p ≡ next (parse_by (λ u. x) start s) (λ y r. halves_end y r)
      → p ≡ next (parse_of c t) (λ u r. halves_read r)
  copy_ended ends =
      ends
      ∙ ap (λ (q : Parse Item). next q (λ y r. halves_end y r)) started
      ∙ next_assoc (parse_of c t) (λ u r. pair_start saturated r) (λ y r. halves_end y r)
      ∙ next_same (parse_of c t) (λ u r. next (pair_start saturated r) (λ y e. halves_end y e)) (λ u r. halves_read r)
      (λ u r. sym (halves_parts r))

  pub pair_ended :
      (end : Option (Unit {0})) (rest : List ℕ) → parse_of end rest ≡ next (parse_of start s) (λ u r. byte closed r)
      → parse_by (λ u. x) end rest ≡ next (parse_of c t) (λ u r. pair saturated r)
  pair_ended end rest ended =
      held end rest
      ∙ ap (λ (q : Parse (Unit {0})). next q (λ u r. parsed x r)) ended
      ∙ closing start
      ∙ ap (λ (q : Parse Item). next q (λ y r. next (byte closed r) (λ u e. parsed y e))) started
      ∙ next_assoc (parse_of c t) (λ u r. pair_start saturated r) (λ y r. next (byte closed r) (λ u e. parsed y e))
    where
      held : (o : Option (Unit {0})) (r : List ℕ) → parse_by (λ u. x) o r ≡ next (parse_of o r) (λ u e. parsed x e)
      held (Some u) r = refl
      held None r = refl

      closing :
          (o : Option (Unit {0}))
          → next (next (parse_of o s) (λ u r. byte closed r)) (λ u r. parsed x r)
          ≡ next (parse_by (λ u. x) o s) (λ y r. next (byte closed r) (λ u e. parsed y e))
      closing (Some u) = refl
      closing None = refl
