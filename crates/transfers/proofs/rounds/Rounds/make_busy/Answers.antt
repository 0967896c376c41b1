-- `Rounds::make_busy` meets its contract: what is known to be busy is.
use mathlib.Core.Path.{◌≡◌, refl, ap}
use lib.ListN.{length, set}
use Rattle.std.proofs.Common.{rules}
use native.Mathlib.Omega.{arith}
use Rattle.transfers.proofs.FullRounds.{full_after}
use Rattle.transfers.proofs.rounds.Rounds.make_busy.Goals as goal

pub invariant_of-self : goal.invariant_of-self
invariant_of-self c =
    let before = c.args.self.now in
    let wide : length before.busy ≡ 2304 = search rules in
    record {
      full_table = full_after before.busy before.full before.placed before.placed before.full_table wide c.args.end c.args.round c.requires.0 c.requires.1
          (omega (arith, c.requires.2, c.requires.3)) c.requires.2 c.requires.3 (omega arith) refl (ap (set before.full c.args.end) c.next_full.ensures);
    }
