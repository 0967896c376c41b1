-- `plan_after::mark_places` meets its contract. The invariant: the places so far are marked, the others as they were.
use mathlib.Core.Path.{◌≡◌}
use mathlib.Core.List.{List, map, ◌++◌}
use Prim.Native.Nat.{ℕ}
use lib.ListN.{take, drop}
use Rattle.placement.specs.Copies.{unmarked}
use Rattle.placement.specs.Tables.{copies_in}
use Rattle.plan_after.specs.Marking.{marked_entry}
use Rattle.plan_after.proofs.mark.mark_places.Given as goal

-- The mark of an entry by the copies held.
abbrev pub marks : List ℕ → ℕ → ℕ
marks held = marked_entry (map unmarked (copies_in held))

abbrev pub invariant-loop-place : goal.invariant-loop-place
invariant-loop-place l = l.places ≡ map (marks l.held) (take l.place-index l.fn.places) ++ drop l.place-index l.fn.places
