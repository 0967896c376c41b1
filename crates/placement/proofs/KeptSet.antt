-- Where what remains, if anything, is of a film in the set, the set stays closed as it is.
use mathlib.Core.Path.{◌≡◌, ap, ◌∙◌}
use mathlib.Core.Bool.{Bool, true, cond}
use mathlib.Core.List.{List, [], ◌∷◌}
use Prim.Native.Nat.{ℕ, ◌+◌, ◌≤◌}
use native.Mathlib.Omega.{arith}
use lib.Dec.{leb}
use Rattle.placement.specs.Items.{Item, sum_by, occurrences}
use Rattle.placement.specs.Rack.{Disk}
use Rattle.placement.specs.Window.{within, window_of}
use Rattle.placement.specs.Disk.{remainder, list_after}
use Rattle.placement.specs.Method.{placement, served}
use Rattle.placement.specs.Sharing.{WithinLoads}
use Rattle.placement.specs.Promise.{Distinct}
use Rattle.placement.proofs.Tests.{by_order, chosen, passed}
use Rattle.placement.proofs.Sums.{sum_by_append}
use Rattle.placement.proofs.Disks.{copies_total, before_sum, after_sum}
use Rattle.placement.proofs.Films.{Usable, after_window}
use Rattle.placement.proofs.FilmSets.{in_set, in_set_all}
use Rattle.placement.proofs.Layouts.{together, OnWindows}
use Rattle.placement.proofs.Closed.{Closed, set_absent}

module _
    (d : Disk) (ds : List Disk) (list : List Item) (usable : Usable (d ∷ ds)) (distinct : Distinct list)
    (set : ℕ → Bool) (closed : Closed ds (list_after d list) set)
  where
    abbrev films : List Item
    films = within (window_of d list) list

    abbrev rest : Item
    rest = remainder d.load films

    -- What remains, if anything, is of a film in the set: the set stays.
    module _ (covered : 1 ≤ rest.amount → set rest.film ≡ true) where
      films_in : (f : ℕ) → 1 ≤ occurrences f films → set f ≡ true
      films_in f here =
          by_order 0 (occurrences f (list_after d list)) (λ later. remains (after_window d list usable.0 usable.1 f distinct here later))
          (λ none. closed.absent f (omega arith))
        where
          remains : (1 ≤ rest.amount) × (f ≡ rest.film) → set f ≡ true
          remains r = ap set r.1 ∙ covered r.0

      rest_in : cond (leb 1 rest.amount) (in_set set rest) 0 ≡ rest.amount
      rest_in =
          by_order 0 rest.amount
          (λ h. chosen rest.amount (in_set set rest) 0 h ∙ ap (λ (t : Bool). cond t rest.amount 0) (covered h))
          (λ h. passed rest.amount (in_set set rest) 0 (omega arith) ∙ omega arith)

      pub set_closed : Closed (d ∷ ds) list set
      set_closed = record {
        absent = set_absent d ds list usable set closed;
        bound = go;
      }
        where
          go :
              (shares : List (List Item)) → WithinLoads (d ∷ ds) shares → OnWindows (d ∷ ds) list shares
              → served shares + sum_by (in_set set) list
              ≤ served (placement (d ∷ ds) list) + sum_by (in_set set) (together shares)
          go [] loads on = absurd on
          go (copies ∷ later) loads on =
              omega (
                arith,
                copies_total d list usable.0 usable.1,
                closed.bound later loads.1 on.1,
                before_sum d list usable.0 usable.1 (in_set set),
                after_sum d list usable.0 usable.1 (in_set set),
                in_set_all set films films_in,
                in_set_all set copies (λ f h. films_in f (omega (arith, on.0 f))),
                sum_by_append (in_set set) copies (together later),
                rest_in,
              )
