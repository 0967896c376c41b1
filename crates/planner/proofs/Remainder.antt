-- What remains of a window's last film, as a key.
use mathlib.Core.Path.{◌≡◌, sym, ap, ◌∙◌}
use mathlib.Core.List.{List}
use Prim.Native.Nat.{ℕ, zero, suc, ◌+◌, ◌-◌, ◌≤◌}
use native.Mathlib.Omega.{arith}
use lib.ListN.{length, get_or}
use Rattle.placement.specs.Items.{Item, item}
use Rattle.placement.specs.Disk.{last_film}
use Rattle.placement.specs.Tables.{entry_of}
use Rattle.placement.proofs.EntryNumbers.{item_entry}
use Rattle.planner.specs.Keys.{item_of}
use Rattle.planner.specs.Copies.{run_of}
use Rattle.planner.proofs.Copies.{run_last}

-- A window whose last film has something has a film.
pub last_some : (keys : List ℕ) (start size over : ℕ) → 1 ≤ over → over ≤ (last_film (run_of keys start size)).amount → 1 ≤ size
last_some keys start zero over some h = absurd (omega arith)
last_some keys start (suc size) over some h = omega arith

-- The key that enters is that of the remainder.
pub remainder_key :
    (keys : List ℕ) (start size over film key : ℕ) → start + size ≤ length keys → 1 ≤ size
    → film ≡ (item_of (get_or keys (start + (size - 1)) 0)).film → key ≡ entry_of (item film over)
    → item_of key ≡ item (last_film (run_of keys start size)).film over
remainder_key keys start size over film key inside some e made =
    ap item_of made
    ∙ item_entry (item film over) (omega arith)
    ∙ ap (λ (f : ℕ). item f over) (e ∙ ap (λ (x : Item). x.film) (sym (run_last keys start size inside some)))
