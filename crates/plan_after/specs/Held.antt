-- What the steps of planning after an earlier plan ask of the tables that hold it, and what they leave.
use Rattle.std.specs.Prelude.{ℕ, ◌≡◌, true, List}
use Rattle.refusal.specs.Verdict.{Numbers, afterwards}
use Rattle.placement.specs.Items.{Item, occurrences}
use Rattle.placement.specs.Copies.{layout_of}
use Rattle.placement.specs.Rack.{Disk}
use Rattle.placement.specs.Tables.{Tables}
use Rattle.placement.specs.Held.{marked_from}
use Rattle.placement.specs.Planning.{Call, PlanSums, plan_after, holding_for, verdict, answer_for}
use Rattle.placement.specs.WellFormed.{Each}
use Rattle.plan_text.specs.Held.{unused_zero_from}
use Rattle.writer.specs.Call.{CopyRoom}

-- No unused place is among the copies held: their films are not 0.
abbrev pub NoneUnused : List Item → Type 0
NoneUnused held = occurrences 0 held ≡ 0

-- The tables of an earlier plan have a place for each slot and each disk, and zero entries behind at most as many copies as slots.
pub record HeldBefore (rack : List Disk) (copies counts : List ℕ) : Type 0 where
  pub room : CopyRoom rack copies counts
  pub unused : unused_zero_from rack copies counts ≡ true
  pub films : Each NoneUnused (layout_of (marked_from rack copies counts))

-- The numbers of planning, and where it refuses nothing the tables with its plan, marked by what those tables hold.
pub record MarkedPlan (call : Call) (rack : List Disk) (copies counts : List ℕ) (entry exit : Tables) (answer : Numbers PlanSums) : Type 0 where
  pub numbers : answer ≡ answer_for call (verdict call entry)
  pub tables :
      exit ≡ afterwards entry (λ u. holding_for call (plan_after (layout_of (marked_from rack copies counts)) call) entry) (verdict call entry)
