-- The numbers of the answer of transfers.
use Rattle.std.specs.Prelude.{Result}
use Rattle.refusal.specs.Verdict.{Numbers, answered}
use Rattle.refusal.specs.Numbers.{verdict_of}
use Rattle.refusal.specs.declared.Refusal.{Refusal}
use Rattle.transfer_schedule.specs.Transfers.{ScheduleSize, schedule_size}
use Rattle.transfers.specs.declared.answer.InRounds.{InRounds}

-- The numbers of a schedule.
abbrev pub size_told : InRounds → ScheduleSize
size_told a = schedule_size a.transfers a.rounds

-- The numbers of the answer.
abbrev pub transfer_numbers : Result InRounds Refusal → Numbers ScheduleSize
transfer_numbers a = answered (schedule_size 0 0) size_told (verdict_of a)
