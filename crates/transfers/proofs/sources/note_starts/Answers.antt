-- `transfers::note_starts` meets its contract. The invariant: the starts are noted for the copies from `i` on.
use mathlib.Core.Path.{◌≡◌, subst, ◌∙◌}
use mathlib.Core.List.{map}
use Prim.Native.Nat.{◌+◌, ◌-◌, ◌%◌, ◌<◌}
use native.Mathlib.Omega.{arith}
use lib.ListN.{length, get_or, length-set}
use Rattle.transfers.specs.Keys.{stored_in, start_places}
use Rattle.transfers.proofs.Starting.{StartsFrom, starts_more}
use Rattle.transfers.proofs.Looks.{copy_here}
use Rattle.transfers.proofs.sources.note_starts.Goals as goal

pub loop-i-preserved : goal.loop-i-preserved
loop-i-preserved c =
    let keys = c.args.old.now in
    let i = c.loop-i.i - 1 in
    let less : i < length keys = omega (arith, c.loop-i.auto.i, c.loop-i-test.true) in
    let next : c.loop-i.i ≡ i + 1 = omega (arith, c.loop-i-test.true) in (
      length-set c.loop-i.starts (get_or keys i 0 % start_places) i ∙ c.loop-i.invariant.0,
      starts_more c.loop-i.starts (map stored_in keys) i (get_or keys i 0) (copy_here keys i less) c.loop-i.invariant.0
          (subst (StartsFrom c.loop-i.starts (map stored_in keys)) next c.loop-i.invariant.1),
    )
