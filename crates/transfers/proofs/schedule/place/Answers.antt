-- `transfers::place` meets its contract: the source and the round are those of the definition.
use mathlib.Core.Path.{◌≡◌, ap, ap₂, subst, ◌∙◌}
use mathlib.Core.List.{List, [], ◌∷◌, ◌++◌, map}
use Prim.Native.Nat.{ℕ, ◌/◌, ◌%◌, ◌≤◌}
use native.Mathlib.Omega.{arith}
use Rattle.transfer_schedule.specs.Stored.{StoredCopy}
use Rattle.transfer_schedule.specs.Schedule.{Transfer, transfer, transfer_for, earliest}
use Rattle.transfer_schedule.specs.Transfers.{transfer_entry}
use Rattle.transfer_schedule.proofs.Sources.{source_fits}
use Rattle.transfers.specs.Keys.{stored_in, BusyTable}
use Rattle.transfers.proofs.schedule.place.Goals as goal

pub entry_of-requires : goal.entry_of-requires
entry_of-requires c =
    let source_few : c.source_of-source.result ≤ 8 = omega (arith, c.source_of-source.ensures, source_fits (map stored_in c.args.sources.now.old.now) (c.args.key % 16777216) c.requires.copy_fits.1) in
    let film : ℕ = c.args.key % 16777216 in
    record {
      source = omega (arith, source_few);
      destination = omega (arith, c.requires.copy_fits.0.disk);
      film = c.requires.copy_fits.0.film;
      round = omega (arith, c.take-round.ensures.upper_bound, c.requires.placed);
    }

pub take-round-requires : goal.take-round-requires
take-round-requires c =
    let source_few : c.source_of-source.result ≤ 8 = omega (arith, c.source_of-source.ensures, source_fits (map stored_in c.args.sources.now.old.now) (c.args.key % 16777216) c.requires.copy_fits.1) in
    record {
      ends = (omega (arith, source_few), omega (arith, c.requires.copy_fits.0.disk));
      placed = c.requires.placed;
    }

pub returns : goal.returns
returns c =
    let film : ℕ = c.args.key % 16777216 in
    let old : List StoredCopy = map stored_in c.args.sources.now.old.now in
    let disk : ℕ = c.args.key / 16777216 in
    let made : Transfer = transfer c.source_of-source.result disk film c.take-round.result in
    let made_is : (placed : List Transfer) → c.take-round.result ≡ earliest placed c.source_of-source.result disk → made ≡ transfer_for old placed (stored_in c.args.key) = (λ placed first. ap₂ (λ (s r : ℕ). transfer s disk film r) c.source_of-source.ensures (first ∙ ap (λ (s : ℕ). earliest placed s disk) c.source_of-source.ensures)) in
    record {
      placed_next = λ placed long table. let taken = c.take-round.ensures.round_taken placed long table in (c.entry_of.ensures ∙ ap transfer_entry (made_is placed taken.0), subst (λ (t : Transfer). BusyTable c.take-round.new.self.busy (placed ++ (t ∷ []))) (made_is placed taken.0) (taken.1 film));
      placed = c.take-round.ensures.placed;
    }
