-- What planning promises to its caller, as one record: the contract of every entry that plans.
use Rattle.std.specs.Prelude.{◌≤◌, ◌≡◌}
use Rattle.refusal.specs.Verdict.{Numbers}
use Rattle.placement.specs.Items.{total}
use Rattle.placement.specs.Copies.{layout_of}
use Rattle.placement.specs.Rack.{least_slots}
use Rattle.placement.specs.Tables.{Tables}
use Rattle.placement.specs.Held.{copies_held, left_held}
use Rattle.placement.specs.Planning.{Call, PlanSums, planning, tables_after, records_in}
use Rattle.placement.specs.Promise.{Demand3}
use Rattle.placement.specs.ShelfPromise.{ShelfPromise}

-- A call, the lent tables at entry and at exit, and the numbers of the answer.
pub record PlanPromise (call : Call) (entry exit : Tables) (answer : Numbers PlanSums) : Type 0 where
  -- the answer is what the definition gives: a plan's numbers, or a refusal
  pub numbers : answer ≡ planning call entry
  -- every place of every lent table is what the definition gives
  pub tables : exit ≡ tables_after call entry
  -- a refusal changes no lent table
  pub unchanged : 1 ≤ answer.refusal → exit ≡ entry
  -- demand 3 of the copies that stand in the lent tables, disk by disk and without marks, with the S and U of the answer
  pub demand3 :
      answer.refusal ≡ 0
      → Demand3 (least_slots call.rack) call.rack (records_in call) (layout_of (copies_held call.rack exit)) answer.values.served
      answer.values.unserved
  -- U is the sum over the left table
  pub left : answer.refusal ≡ 0 → total (left_held answer.values.left exit) ≡ answer.values.unserved
  -- films of demand 0 are on the shelf or left, and the rest is the method's
  pub shelf :
      answer.refusal ≡ 0
      → ShelfPromise call.rack (records_in call) (layout_of (copies_held call.rack exit)) (left_held answer.values.left exit)
