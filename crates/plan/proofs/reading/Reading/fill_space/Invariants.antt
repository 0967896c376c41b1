use Rattle.std.proofs.Common.{◌≡◌, true, ◌-◌, ◌≤◌, length}
use Rattle.plan_output.specs.Input.{most_kept}
use Rattle.plan.specs.Answers.{answer_number, goes_on}
use Rattle.plan.proofs.reading.Reading.fill_space.Given as goal

abbrev pub invariant-loop-self : goal.invariant-loop-self
invariant-loop-self g l = record {
  within : l.self.kept ≤ most_kept;
  space_len : length l.space ≡ most_kept;
  more : goes_on (answer_number l.self.last) ≡ true;
  turns : l.self.turns ≡ l.initial.self.turns;
}

abbrev pub decreases-loop-self : goal.decreases-loop-self
decreases-loop-self g l = most_kept - l.self.kept
