-- The entries so far are put, each behind a space.
use Rattle.std.proofs.Common.{◌∷◌, take}
use Rattle.std.specs.List.{flat_map}
use Rattle.plan_text.specs.Text.{space}
use Rattle.writer.proofs.entries.put_entries.Given as goal

abbrev pub invariant-loop-entry : goal.invariant-loop-entry
invariant-loop-entry g l =
    g.S.Sink.takes l.initial.sink (flat_map (λ e. space ∷ g.E.EntryText.text e) (take l.entry-index l.entries)) l.sink
