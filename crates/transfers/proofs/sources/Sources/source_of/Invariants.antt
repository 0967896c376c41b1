-- `Sources::source_of` meets its contract. The invariant: the source among all copies is the one among those that are left.
use mathlib.Core.Path.{◌≡◌}
use mathlib.Core.List.{map}
use lib.ListN.{drop}
use Rattle.transfer_schedule.specs.Stored.{source_of}
use Rattle.transfers.specs.Keys.{stored_in}
use Rattle.transfers.proofs.sources.Sources.source_of.Given as goal

abbrev pub invariant-loop-key : goal.invariant-loop-key
invariant-loop-key l = source_of (map stored_in l.self.old.now) l.film ≡ source_of (drop l.key-index (map stored_in l.behind)) l.film
