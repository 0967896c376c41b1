-- The numbers of document 01 for each answer of reading.
use Rattle.std.specs.Prelude.{Result}
use Rattle.refusal.specs.Verdict.{Numbers, answered}
use Rattle.refusal.specs.Numbers.{verdict_of}
use Rattle.refusal.specs.declared.Refusal.{Refusal}
use Rattle.plan_text.specs.ReadCall.{Told, told, told_nothing}
use Rattle.reader.specs.declared.answer.PlanRead.{PlanRead}

-- What the answer tells of a plan.
abbrev pub told_by : PlanRead → Told
told_by p = told p.disks p.served p.unserved p.left

abbrev pub numbers_of : Result PlanRead Refusal → Numbers Told
numbers_of answer = answered told_nothing told_by (verdict_of answer)
