-- The set of films behind best sharing: over the films outside the set disks are full, and over those in it all demand is served.
use mathlib.Core.Bool.{Bool}
use mathlib.Core.List.{List, [], ◌∷◌}
use Prim.Native.Nat.{ℕ}
use native.Mathlib.Omega.{arith}
use lib.Dec.{eqb}
use Rattle.placement.specs.Items.{Item, occurrences}
use Rattle.placement.specs.Rack.{Disk}
use Rattle.placement.specs.Window.{within, window_of}
use Rattle.placement.specs.Disk.{remainder, list_after}
use Rattle.placement.specs.Promise.{Distinct}
use Rattle.placement.proofs.Tests.{by_order, by_test}
use Rattle.placement.proofs.Films.{Usable, after_distinct}
pub use Rattle.placement.proofs.Closed.{Closed}
use Rattle.placement.proofs.Closed.{none_closed}
use Rattle.placement.proofs.ReducedSet.{reduced_closed}
use Rattle.placement.proofs.KeptSet.{set_closed}

-- Each list of distinct films has such a set.
pub closed_set : (disks : List Disk) (list : List Item) → Usable disks → Distinct list → (set : ℕ → Bool) × Closed disks list set
closed_set [] list usable distinct = (λ f. eqb (occurrences f list) 0, none_closed list)
closed_set (d ∷ ds) list usable distinct =
    go (closed_set ds (list_after d list) usable.2 (after_distinct d list usable.0 usable.1 distinct))
  where
    go : (set : ℕ → Bool) × Closed ds (list_after d list) set → (set : ℕ → Bool) × Closed (d ∷ ds) list set
    go s =
        by_test (s.0 last.film) (λ e. (s.0, set_closed d ds list usable distinct s.0 s.1 (λ h. e)))
        (λ e. by_order 0 last.amount
        (λ h. (_, reduced_closed d ds list usable distinct s.0 s.1 h e))
        (λ h. (s.0, set_closed d ds list usable distinct s.0 s.1 (λ some. absurd (omega arith)))))
      where
        last : Item
        last = remainder d.load (within (window_of d list) list)
