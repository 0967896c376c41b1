-- Where something remains of a film outside the set, the window's films leave the set and it stays closed.
use mathlib.Core.Path.{◌≡◌, sym, ap, ◌∙◌}
use mathlib.Core.Bool.{Bool, true, false, cond, ◌&&◌, and-true, and-false}
use mathlib.Core.List.{List, [], ◌∷◌}
use Prim.Native.Nat.{ℕ, ◌+◌, ◌≤◌}
use native.Mathlib.Omega.{arith}
use borrow.Author.Tests.{eq-eqb, ne_eqb}
use lib.Dec.{leb, eqb}
use Rattle.placement.specs.Items.{Item, sum_by, one_if, occurrences}
use Rattle.placement.specs.Rack.{Disk}
use Rattle.placement.specs.Window.{within, outside, window_of}
use Rattle.placement.specs.Disk.{remainder, list_after}
use Rattle.placement.specs.Method.{placement, served}
use Rattle.placement.specs.Sharing.{WithinLoads}
use Rattle.placement.specs.Promise.{Distinct}
use Rattle.placement.proofs.Tests.{by_order}
use Rattle.placement.proofs.Sums.{sum_by_append}
use Rattle.placement.proofs.Disks.{copies_full, before_sum, after_sum}
use Rattle.placement.proofs.Films.{Usable, after_window}
use Rattle.placement.proofs.FilmSets.{in_set, in_set_same, in_set_none}
use Rattle.placement.proofs.Layouts.{together, OnWindows, on_windows_present}
use Rattle.placement.proofs.Listed.{cond_same}
use Rattle.placement.proofs.Closed.{Closed, set_absent}

module _
    (d : Disk) (ds : List Disk) (list : List Item) (usable : Usable (d ∷ ds)) (distinct : Distinct list)
    (set : ℕ → Bool) (closed : Closed ds (list_after d list) set)
  where
    abbrev films : List Item
    films = within (window_of d list) list

    abbrev others : List Item
    others = outside (window_of d list) list

    abbrev rest : Item
    rest = remainder d.load films

    -- The set without the films of this disk's window.
    abbrev reduced : ℕ → Bool
    reduced f = set f && eqb (occurrences f films) 0

    film_once : (f : ℕ) → occurrences f films + occurrences f others ≤ 1
    film_once f = omega (arith, distinct f, before_sum d list usable.0 usable.1 (one_if f))

    -- Something remains of a film outside the set: the window's films leave the set.
    module _ (some : 1 ≤ rest.amount) (out : set rest.film ≡ false) where
      reduced_others : sum_by (in_set reduced) others ≡ sum_by (in_set set) others
      reduced_others =
          in_set_same reduced set others
          (λ f h. ap (λ (t : Bool). set f && t) (eq-eqb (occurrences f films) 0 (omega (arith, film_once f))) ∙ and-true (set f))

      reduced_films : sum_by (in_set reduced) films ≡ 0
      reduced_films =
          in_set_none reduced films
          (λ f h. ap (λ (t : Bool). set f && t) (ne_eqb (occurrences f films) 0 (λ e. omega arith)) ∙ and-false (set f))

      -- A film of the next list is in both sets or in none.
      reduced_later : (f : ℕ) → 1 ≤ occurrences f (list_after d list) → reduced f ≡ set f
      reduced_later f later =
          by_order 0 (occurrences f films)
          (λ here. ap (λ (t : Bool). t && eqb (occurrences f films) 0) (not_in here) ∙ sym (not_in here))
          (λ h. ap (λ (t : Bool). set f && t) (eq-eqb (occurrences f films) 0 (omega arith)) ∙ and-true (set f))
        where
          not_in : 1 ≤ occurrences f films → set f ≡ false
          not_in here = ap set (after_window d list usable.0 usable.1 f distinct here later).1 ∙ out

      reduced_list : sum_by (in_set reduced) list ≡ sum_by (in_set set) (list_after d list)
      reduced_list =
          omega (
            arith,
            before_sum d list usable.0 usable.1 (in_set reduced),
            after_sum d list usable.0 usable.1 (in_set set),
            ap (λ (t : Bool). cond (leb 1 rest.amount) (cond t rest.amount 0) 0) out,
            cond_same (leb 1 rest.amount) 0,
            reduced_others,
            reduced_films,
          )

      reduced_absent : (f : ℕ) → occurrences f list ≡ 0 → reduced f ≡ true
      reduced_absent f h =
          ap (λ (t : Bool). t && eqb (occurrences f films) 0) (set_absent d ds list usable set closed f h)
          ∙ eq-eqb (occurrences f films) 0 (omega (arith, before_sum d list usable.0 usable.1 (one_if f)))

      pub reduced_closed : Closed (d ∷ ds) list reduced
      reduced_closed = record {
        absent = reduced_absent;
        bound = go;
      }
        where
          go :
              (shares : List (List Item)) → WithinLoads (d ∷ ds) shares → OnWindows (d ∷ ds) list shares
              → served shares + sum_by (in_set reduced) list
              ≤ served (placement (d ∷ ds) list) + sum_by (in_set reduced) (together shares)
          go [] loads on = absurd on
          go (copies ∷ later) loads on =
              omega (
                arith,
                copies_full d list usable.0 usable.1 (omega arith),
                closed.bound later loads.1 on.1,
                reduced_list,
                sum_by_append (in_set reduced) copies (together later),
                in_set_same reduced set (together later)
                    (λ f h. reduced_later f (on_windows_present ds (list_after d list) later usable.2 on.1 f h)),
              )
