use Rattle.std.proofs.Common.{◌≡◌, true}
use Rattle.plan.specs.Answers.{answer_number, goes_on}
use Rattle.plan.specs.Reading.{Counted}
use Rattle.plan.proofs.reading.Reading.count_on.Given as goal

abbrev pub invariant-loop-self : goal.invariant-loop-self
invariant-loop-self g l = record {
  counted : Counted l.initial.self.kept l.self.kept;
  more : goes_on (answer_number l.self.last) ≡ true;
}

abbrev pub decreases-loop-self : goal.decreases-loop-self
decreases-loop-self g l = l.self.turns
