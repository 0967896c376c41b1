-- Each mark of a marked layout is 1 where the disk held the film, else 0.
use mathlib.Core.Path.{◌≡◌, refl}
use mathlib.Core.List.{List, [], ◌∷◌}
use Prim.Native.Nat.{ℕ, zero, suc, ◌<◌}
use native.Mathlib.Omega.{arith}
use lib.ListN.{length, get_or}
use Rattle.placement.specs.Items.{Item}
use Rattle.placement.specs.Copies.{copy, mark_for, marked_disk, marked}
use Rattle.plan_after.specs.AfterPromise.{on_disk, copy_at}

disk_at_lem :
    (held xs : List Item) (i : ℕ) → i < length (marked_disk held xs)
    → (get_or (marked_disk held xs) i (copy 0 0 0)).mark ≡ mark_for held (get_or (marked_disk held xs) i (copy 0 0 0)).film
disk_at_lem held [] i h = absurd (omega arith)
disk_at_lem held (x ∷ xs) zero h = refl
disk_at_lem held (x ∷ xs) (suc i) h = disk_at_lem held xs i (omega arith)

pub marked_at :
    (earlier layout : List (List Item)) (d i : ℕ) → i < length (on_disk (marked earlier layout) d)
    → (copy_at (marked earlier layout) d i).mark ≡ mark_for (on_disk earlier d) (copy_at (marked earlier layout) d i).film
marked_at earlier [] d i h = absurd (omega arith)
marked_at [] (xs ∷ layout) zero i h = disk_at_lem [] xs i h
marked_at [] (xs ∷ layout) (suc d) i h = marked_at [] layout d i h
marked_at (held ∷ more) (xs ∷ layout) zero i h = disk_at_lem held xs i h
marked_at (held ∷ more) (xs ∷ layout) (suc d) i h = marked_at more layout d i h
