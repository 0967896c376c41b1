-- What reading into disks and tables of its own comes to.
use Rattle.std.specs.Prelude.{◌≡◌, List, length, take, Result}
use Rattle.refusal.specs.Verdict.{Verdict, given}
use Rattle.placement.specs.Rack.{Disk}
use Rattle.placement.specs.Packed.{disks_in}
use Rattle.placement.specs.Tables.{Tables, tables}
use Rattle.placement.specs.Plan.{Plan}
use Rattle.plan_text.specs.ReadCall.{answer_to, holding_plan}
use Rattle.refusal.specs.declared.Refusal.{Refusal}
use Rattle.reader.specs.declared.answer.PlanRead.{PlanRead}
use Rattle.reader.specs.declared.plan.OwnPlan.{OwnPlan}
use Rattle.reader.specs.Answers.{numbers_of}

-- What its tables hold.
abbrev pub holds : OwnPlan → Tables
holds plan = tables plan.tables.copies plan.tables.counts plan.tables.left

-- The disks that were read.
abbrev pub disks_read : PlanRead → OwnPlan → List Disk
disks_read read plan = disks_in (take read.disks plan.rack)

-- The answer is that of the verdict, and where there is a plan, the disks begin with its rack and the tables hold it.
pub record Judged (verdict : Verdict Plan) (disks : List Disk) (entry exit : Tables) (answer : Result PlanRead Refusal) : Type 0 where
  pub numbers : numbers_of answer ≡ answer_to verdict
  pub rack : (p : Plan) → verdict ≡ given p → take (length p.rack) disks ≡ p.rack
  pub tables : (p : Plan) → verdict ≡ given p → exit ≡ holding_plan p entry
