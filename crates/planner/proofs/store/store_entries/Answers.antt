-- `planner::store::store_entries` meets its contract. The invariant: the places so far hold the run's entries, with zeros behind them.
use mathlib.Core.Path.{◌≡◌, sym, ap₂, ◌∙◌}
use mathlib.Core.List.{List}
use Prim.Native.Nat.{ℕ, ◌+◌, ◌<◌}
use native.Mathlib.Omega.{arith}
use lib.ListN.{length, get_or, set}
use Rattle.placement.specs.Tables.{padded}
use Rattle.placement.proofs.Written.{padded_length, padded_at, overwritten, overwritten_more, overwritten_all}
use Rattle.planner.proofs.Copies.{entries_of, entries_length}
use Rattle.planner.proofs.store.store_entries.Goals as goal

-- One place more.
stored_more : (n : ℕ) (xs old now : List ℕ) (i v : ℕ) → now ≡ overwritten (padded n xs) old i → v ≡ get_or xs i 0 → i < length (padded n xs) → i < length old
    → set now i v ≡ overwritten (padded n xs) old (i + 1)
stored_more n xs old now i v e is h k = ap₂ (λ (l : List ℕ) (w : ℕ). set l i w) e (is ∙ sym (padded_at n xs i)) ∙ overwritten_more (padded n xs) old i h k

pub loop-place-preserved : goal.loop-place-preserved
loop-place-preserved c =
    let entries : List ℕ = (let a = c.args in entries_of a.keys.now a.start a.size a.over) in
    let new : List ℕ = padded c.args.places entries in
    let all : length new ≡ c.args.places = (let a = c.args in padded_length a.places entries (omega (arith, entries_length a.keys.now a.start a.size c.requires.size_in_bounds.0 a.over))) in
    let place = c.loop-place.place in (
      omega arith,
      stored_more c.args.places entries c.args.table.now c.loop-place.table place c.entry_at.result
          c.loop-place.invariant.1 c.entry_at.ensures (omega (arith, all)) (omega arith),
    )

pub returns : goal.returns
returns c =
    let entries : List ℕ = (let a = c.args in entries_of a.keys.now a.start a.size a.over) in
    let new : List ℕ = padded c.args.places entries in
    let all : length new ≡ c.args.places = (let a = c.args in padded_length a.places entries (omega (arith, entries_length a.keys.now a.start a.size c.requires.size_in_bounds.0 a.over))) in
    c.loop-place.invariant.1
    ∙ overwritten_all new c.args.table.now c.loop-place.place (omega (arith, all))
