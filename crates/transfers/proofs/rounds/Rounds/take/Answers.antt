-- `Rounds::take` meets its contract: the round is the earliest, and each end is busy in it.
use mathlib.Core.Path.{◌≡◌, sym, ap, subst, ◌∙◌}
use mathlib.Core.List.{List, [], ◌∷◌, ◌++◌}
use Prim.Native.Nat.{ℕ, ◌+◌, ◌-◌, ◌*◌, ◌≤◌}
use native.Mathlib.Omega.{arith}
use lib.ListN.{set}
use Rattle.transfer_schedule.specs.Schedule.{transfer, earliest_from}
use Rattle.transfers.specs.Keys.{row_length, BusyTable, FullTable}
use Rattle.transfers.proofs.Busy.{busy_more}
use Rattle.transfers.proofs.rounds.Rounds.take.Goals as goal

-- With one transfer more, what is known to be busy is.
later : (busy full : List ℕ) (n : ℕ) → FullTable busy full n → FullTable busy full (n + 1)
later busy full n table = record {
  wide = table.wide;
  few = λ end less. omega (arith, table.few end less);
  ones = table.ones;
}

pub invariant_of-self : goal.invariant_of-self
invariant_of-self c =
    let before = c.args.self.now in
    record { full_table = later before.busy before.full before.placed before.full_table }

pub returns-clause-round_taken : goal.returns-clause-round_taken
returns-clause-round_taken c =
    let s = c.args.source in
    let d = c.args.destination in
    let before = c.args.self.now in
    let both = c.make_busy-2.new.self in
    let round = c.earliest-round.result in
    let to : round ≤ row_length = omega (arith, c.earliest-round.ensures.bounds.1, c.requires.placed) in
    let both_busy : both.busy ≡ set (set before.busy (s * row_length + (round - 1)) 1) (d * row_length + (round - 1)) 1 =
    c.make_busy-2.ensures.busy ∙ ap (λ (b : List ℕ). set b (d * row_length + (round - 1)) 1) c.make_busy.ensures.busy in
    λ placed long table. (
      c.earliest-round.ensures.earliest_for placed table ∙ ap (λ (n : ℕ). earliest_from n placed s d 1) (sym long),
      λ film. subst (λ (b : List ℕ). BusyTable b (placed ++ (transfer s d film round ∷ []))) (sym both_busy)
          (busy_more before.busy placed table (transfer s d film round) c.requires.ends.0 c.requires.ends.1 c.earliest-round.ensures.bounds.0 to),
    )
