-- `transfers::put_lacking` meets its contract: each key is looked up where the lower ones are passed.
use mathlib.Core.Path.{◌≡◌, sym, ap₂, ◌∙◌}
use mathlib.Core.List.{map}
use Prim.Native.Nat.{◌+◌, ◌≤◌}
use native.Mathlib.Omega.{arith}
use lib.ListN.{take, get_or}
use Rattle.transfer_schedule.specs.Schedule.{lacking}
use Rattle.transfers.specs.Keys.{stored_in, stored_at}
use Rattle.transfers.proofs.Passing.{next_key, below_higher, lacking_stored, lacking_put}
use Rattle.transfers.proofs.lacking.put_lacking.Goals.{then-not-stands_at, else-not-stands_at}
use Rattle.transfers.proofs.lacking.put_lacking.Goals as goal

pub loop-key-preserved : goal.loop-key-preserved
loop-key-preserved c =
    let old = c.args.old.now in
    let new = c.args.new.now in
    let i = c.loop-key.key-index in
    let less = c.loop-key-test.true in
    let joined = c.if-not-stands_at in
    let few : joined.n ≤ i + 1 = elim c.if-not-stands_at.branch [
      | then-not-stands_at w ↦ omega (arith, w.n-is, c.loop-key.invariant.few)
      | else-not-stands_at w ↦ omega (arith, w.n-is, c.loop-key.invariant.few)
    ] in
    let found : stored_at joined.n joined.keys ≡ lacking (map stored_in old) (map stored_in (take (i + 1) new)) = elim c.if-not-stands_at.branch [
      | then-not-stands_at w ↦ ap₂ stored_at w.n-is w.keys-is ∙ lacking_put (map stored_in old) new c.loop-key.keys i c.loop-key.n less
          (omega (arith, less, c.loop-key.invariant.few, c.loop-key.auto.keys, c.requires.2)) (sym c.stands_at.ensures ∙ w.if-not-stands_at.true) c.loop-key.invariant.found
      | else-not-stands_at w ↦ ap₂ stored_at w.n-is w.keys-is ∙ lacking_stored (map stored_in old) new c.loop-key.keys i c.loop-key.n less
          (sym c.stands_at.ensures ∙ w.if-not-stands_at.false) c.loop-key.invariant.found
    ] in
    record {
      few = few;
      found = found;
      within = c.pass_lower-at.ensures.within;
      below = λ more. below_higher (get_or new i 0) (get_or new (i + 1) 0) (take c.pass_lower-at.result old) (next_key new i c.requires.1 more)
          c.pass_lower-at.ensures.below;
    }
