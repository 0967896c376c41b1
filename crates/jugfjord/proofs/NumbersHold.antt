-- The numbers of each struct, on one with another number in every field.
use mathlib.Core.Path.{◌≡◌, refl}
use Rattle.placement.specs.Planning.{sums}
use Rattle.plan_text.specs.ReadCall.{told}
use Rattle.transfer_schedule.specs.Transfers.{schedule_size}
use Rattle.jugfjord.specs.Numbers.{planned_fields, written_fields, read_fields, transferred_fields}

pub planned_holds :
    planned_fields (record { number = 1; second = 2; served = 3; unserved = 4; left = 5 }) ≡ record { refusal = 1; second = 2; values = sums 3 4 5 }
planned_holds = refl

pub written_holds : written_fields (record { number = 1; second = 2; length = 3 }) ≡ record { refusal = 1; second = 2; values = 3 }
written_holds = refl

pub read_holds :
    read_fields (record { number = 1; second = 2; disks = 3; left = 4; served = 5; unserved = 6 })
    ≡ record { refusal = 1; second = 2; values = told 3 5 6 4 }
read_holds = refl

pub transferred_holds :
    transferred_fields (record { number = 1; second = 2; transfers = 3; rounds = 4 }) ≡ record { refusal = 1; second = 2; values = schedule_size 3 4 }
transferred_holds = refl
