-- The numbers in the structs that the C functions answer: number and second are the refusal, 0 where there is none.
use Rattle.std.specs.Prelude.{ℕ}
use Rattle.refusal.specs.Verdict.{Numbers}
use Rattle.placement.specs.Planning.{PlanSums, sums}
use Rattle.plan_text.specs.ReadCall.{Told, told}
use Rattle.jugfjord.specs.declared.planning.Planned.{Planned}
use Rattle.jugfjord.specs.declared.reading.ReadPlan.{ReadPlan}
use Rattle.transfer_schedule.specs.Transfers.{ScheduleSize, schedule_size}
use Rattle.jugfjord.specs.declared.writing.WrittenNumbers.{WrittenNumbers}
use Rattle.jugfjord.specs.declared.transferring.Transferred.{Transferred}

-- Of `struct jugfjord_planned`.
abbrev pub planned_fields : Planned → Numbers PlanSums
planned_fields r =
    record { refusal = r.number; second = r.second; values = sums r.served r.unserved r.left }

-- Of `struct jugfjord_written`.
abbrev pub written_fields : WrittenNumbers → Numbers ℕ
written_fields r = record { refusal = r.number; second = r.second; values = r.length }

-- Of `struct jugfjord_read_plan`.
abbrev pub read_fields : ReadPlan → Numbers Told
read_fields r = record {
  refusal = r.number;
  second = r.second;
  values = told r.disks r.served r.unserved r.left;
}

-- Of `struct jugfjord_transferred`.
abbrev pub transferred_fields : Transferred → Numbers ScheduleSize
transferred_fields r = record { refusal = r.number; second = r.second; values = schedule_size r.transfers r.rounds }
