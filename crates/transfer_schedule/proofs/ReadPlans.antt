-- Two plans that are read: the transfers between them keep document 02's words, and there are at most 256.
use mathlib.Core.Path.{◌≡◌}
use mathlib.Core.Bool.{true}
use mathlib.Core.List.{List, []}
use Prim.Native.Nat.{ℕ, ◌≤◌}
use native.Mathlib.Omega.{arith}
use lib.ListN.{length}
use Rattle.placement.specs.Plan.{well_formed}
use Rattle.plan_text.proofs.Verdicts.{verdict_well_formed}
use Rattle.transfer_schedule.specs.Stored.{stored_copies}
use Rattle.transfer_schedule.specs.Schedule.{lacking}
use Rattle.transfer_schedule.specs.Transfers.{Plans, transfers_of}
use Rattle.transfer_schedule.specs.Words.{Scheduled}
use Rattle.transfer_schedule.proofs.Placing.{place_length}
use Rattle.transfer_schedule.proofs.Lacking.{lacking_few}
use Rattle.transfer_schedule.proofs.StoredPlans.{stored_fits, stored_ascend, stored_few}
use Rattle.transfer_schedule.proofs.Scheduled.{schedule_words}
use Rattle.transfer_schedule.proofs.BothTexts.{BothRead}

module _ (old new : List ℕ) (both : Plans) (r : BothRead old new both) where
  -- Both plans are well formed,
  pub old_formed : well_formed both.old ≡ true
  old_formed = verdict_well_formed old both.old r.first

  pub new_formed : well_formed both.new ≡ true
  new_formed = verdict_well_formed new both.new r.second

  -- so that their transfers are a schedule,
  pub read_words : Scheduled (stored_copies both.old) (stored_copies both.new) (transfers_of both)
  read_words =
      schedule_words (stored_copies both.old) (stored_copies both.new) (stored_ascend both.old)
      (stored_fits both.old old_formed r.first_few) (stored_fits both.new new_formed r.second_few)
      (stored_few both.new new_formed r.second_few)

  -- of at most as many as a rack of 8 disks has slots.
  pub read_few : length (transfers_of both) ≤ 256
  read_few =
      omega (
        arith,
        place_length (stored_copies both.old) [] (lacking (stored_copies both.old) (stored_copies both.new)),
        lacking_few (stored_copies both.old) (stored_copies both.new),
        stored_few both.new new_formed r.second_few,
      )
