-- `transfers::note_starts` meets its contract. The invariant: the starts are noted for the copies from `i` on.
use mathlib.Core.Path.{◌≡◌}
use mathlib.Core.List.{map}
use lib.ListN.{length}
use Rattle.transfers.specs.Keys.{stored_in, start_places}
use Rattle.transfers.proofs.Starting.{StartsFrom}
use Rattle.transfers.proofs.sources.note_starts.Given as goal

abbrev pub invariant-loop-i : goal.invariant-loop-i
invariant-loop-i l = (length l.starts ≡ start_places) × StartsFrom l.starts (map stored_in l.old) l.i
