-- The numbers of answers of transfers, by computation on the definition.
use mathlib.Core.Path.{◌≡◌, refl}
use Rattle.refusal.specs.declared.Refusal.TheVariants.{Line, TooManyDisks, FirstLinesDiffer}
use Rattle.transfer_schedule.specs.Transfers.{schedule_size}
use Rattle.std.specs.Prelude.{Ok, Err}
use Rattle.transfers.specs.Answers.{transfer_numbers}

-- Those of a schedule, or those of a refusal and zero for the rest.
pub numbers_hold :
    (transfer_numbers (Ok (record { transfers = 5; rounds = 3 })) ≡ record { refusal = 0; second = 0; values = schedule_size 5 3 })
    × (transfer_numbers (Err TooManyDisks) ≡ record { refusal = 14; second = 0; values = schedule_size 0 0 })
    × (transfer_numbers (Err FirstLinesDiffer) ≡ record { refusal = 15; second = 0; values = schedule_size 0 0 })
    × (transfer_numbers (Err (Line 4)) ≡ record { refusal = 9; second = 4; values = schedule_size 0 0 })
numbers_hold = (refl, refl, refl, refl)
