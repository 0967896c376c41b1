-- `planner::store::entry_at` meets its contract: before the run's last film by its key, at it with `over` less, behind it by the run's length.
use mathlib.Core.Path.{refl, ap₂, ◌∙◌}
use Prim.Native.Nat.{ℕ, ◌-◌}
use native.Mathlib.Omega.{arith}
use Rattle.placement.specs.Items.{item}
use Rattle.placement.specs.Tables.{entry_of}
use Rattle.planner.proofs.Copies.{entry_behind, entry_early, entry_last}
use Rattle.planner.proofs.store.entry_at.Goals as goal

pub returns-then-size-place : goal.returns-then-size-place
returns-then-size-place c =
    let a = c.args in
    entry_behind a.keys.now a.start a.size c.requires.size_in_bounds a.over a.place c.if-size-place.true

pub returns-then-place-size : goal.returns-then-place-size
returns-then-place-size c =
    let a = c.args in
    c.as_entry.ensures ∙ entry_early a.keys.now a.start a.size c.requires.size_in_bounds a.over a.place (omega arith)

pub returns : goal.returns
returns c =
    let a = c.args in
    c.entry_of.ensures
    ∙ ap₂ (λ (film amount : ℕ). entry_of (item film (amount - a.over))) c.film.ensures c.amount.ensures
    ∙ entry_last a.keys.now a.start a.size c.requires.size_in_bounds a.over a.place _ refl (omega arith) (omega arith)
