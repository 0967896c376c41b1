-- `Rounds::earliest` meets its contract: each round before the one that is found is passed.
use mathlib.Core.Path.{sym, subst, ◌∙◌}
use Prim.Native.Nat.{◌≤◌}
use native.Mathlib.Omega.{arith}
use Rattle.transfers.specs.Keys.{NoneFree}
use Rattle.transfers.proofs.FullRounds.{none_free}
use Rattle.transfers.proofs.FreeRounds.{places_free, earliest_passed, earliest_found, earliest_next}
use Rattle.transfers.proofs.rounds.Rounds.earliest.Goals as goal

pub loop-r-init : goal.loop-r-init
loop-r-init c =
    let s = c.args.source in
    let d = c.args.destination in
    let table = c.args.self.now.full_table in
    let rounds = c.args.self.now in
    let few : c.max-from.result ≤ rounds.placed = omega (arith, c.max-from.ensures, table.few s c.requires.ends.0, table.few d c.requires.ends.1) in
    let none : NoneFree rounds.busy s d c.max-from.result =
    subst (NoneFree rounds.busy s d) (sym c.max-from.ensures) (none_free rounds.busy rounds.full rounds.placed table s d c.requires.ends.0 c.requires.ends.1) in
    λ placed t. earliest_passed rounds.busy placed t rounds.placed s d c.requires.ends.0 c.requires.ends.1 c.requires.placed c.max-from.result few none

pub loop-r-preserved : goal.loop-r-preserved
loop-r-preserved c =
    let a = c.args in
    λ placed t.
    let free = places_free a.self.now.busy placed t a.source a.destination c.loop-r.r c.requires.ends.0 c.requires.ends.1
    (omega (arith, c.loop-r-test.true, c.requires.placed)) in
    c.loop-r.invariant placed t ∙ earliest_next a.self.now.placed c.loop-r.r c.loop-r-test.true placed a.source a.destination
    (sym (c.both_free.ensures ∙ free) ∙ c.if-both_free.false)

pub returns-then-both_free-clause-earliest_for : goal.returns-then-both_free-clause-earliest_for
returns-then-both_free-clause-earliest_for c =
    let a = c.args in
    λ placed t.
    let free = places_free a.self.now.busy placed t a.source a.destination c.loop-r.r c.requires.ends.0 c.requires.ends.1
    (omega (arith, c.loop-r-test.true, c.requires.placed)) in
    earliest_found a.self.now.placed c.loop-r.r c.loop-r-test.true placed a.source a.destination (sym (c.both_free.ensures ∙ free) ∙ c.if-both_free.true)
    ∙ sym (c.loop-r.invariant placed t)
