-- Two texts that were read: their refusal, or what their stored copies say of the keys.
use mathlib.Core.Path.{◌≡◌, refl, sym, ap, subst, ◌∙◌}
use mathlib.Core.List.{List}
use Prim.Native.Nat.{ℕ, ◌≤◌}
use lib.ListN.{length}
use Rattle.refusal.specs.Verdict.{Verdict, given, refused, Numbers}
use Rattle.placement.specs.WellFormed.{Each}
use Rattle.transfer_schedule.specs.Stored.{StoredCopy, stored_copies}
use Rattle.transfer_schedule.specs.Schedule.{schedule}
use Rattle.transfer_schedule.specs.Words.{InOrder}
use Rattle.transfer_schedule.specs.Transfers.{Plans, texts_verdict, ScheduleSize, schedule_size}
use Rattle.transfer_schedule.specs.Fits.{CopyFits}
use Rattle.transfers.specs.Keys.{stored_at, TransfersMade, WorkedOut, StoredTexts}
use Rattle.transfer_schedule.proofs.BothTexts.{BothRead, texts_given}
use Rattle.transfers.proofs.ReadSteps.{IsGiven, sizes_or}
use Rattle.transfer_schedule.proofs.ReadPlans.{old_formed, new_formed}
use Rattle.transfer_schedule.proofs.StoredPlans.{stored_fits}
use Rattle.transfer_schedule.proofs.Ordered.{stored_ordered}

-- Two plans that were read, whose stored copies stand in front.
pub record BothAs (verdict : Verdict Plans) (oldkeys newkeys : List ℕ) (m n : ℕ) : Type 0 where
  pub both : Plans
  pub same : verdict ≡ given both
  pub old_room : m ≤ length oldkeys
  pub new_room : n ≤ length newkeys
  pub olds : stored_at m oldkeys ≡ stored_copies both.old
  pub news : stored_at n newkeys ≡ stored_copies both.new

-- Sizes are those of two plans.
pub both_as : (v : Verdict Plans) (oldkeys newkeys : List ℕ) (m n : ℕ) → StoredTexts v oldkeys newkeys (given (m, n)) → BothAs v oldkeys newkeys m n
both_as (refused number second) oldkeys newkeys m n s = absurd (subst IsGiven s tt)
both_as (given both) oldkeys newkeys m n (a, b, e, old_room, new_room, olds, news) =
    let first : a ≡ m = sym (ap (λ (w : Verdict (ℕ × ℕ)). (sizes_or (0, 0) w).0) e) in
    let second : b ≡ n = sym (ap (λ (w : Verdict (ℕ × ℕ)). (sizes_or (0, 0) w).1) e) in
    record {
      both = both;
      same = refl;
      old_room = subst (λ (k : ℕ). k ≤ length oldkeys) first old_room;
      new_room = subst (λ (k : ℕ). k ≤ length newkeys) second new_room;
      olds = ap (λ (k : ℕ). stored_at k oldkeys) (sym first) ∙ olds;
      news = ap (λ (k : ℕ). stored_at k newkeys) (sym second) ∙ news;
    }

-- A refusal is the texts' own.
pub both_refused :
    (v : Verdict Plans) (oldkeys newkeys entries : List ℕ) (number second : ℕ) → StoredTexts v oldkeys newkeys (refused number second)
    → WorkedOut v entries (record { refusal = number; second = second; values = schedule_size 0 0 })
both_refused (refused a b) oldkeys newkeys entries number second e = ap numbers_in e
  where
    numbers_in : Verdict (ℕ × ℕ) → Numbers ScheduleSize
    numbers_in (given sizes) = record { refusal = 0; second = 0; values = schedule_size 0 0 }
    numbers_in (refused x y) = record { refusal = x; second = y; values = schedule_size 0 0 }
both_refused (given both) oldkeys newkeys entries number second (a, b, e, old_room, new_room, olds, news) = absurd (subst IsGiven (sym e) tt)

-- The transfers between the copies that were read are those of the texts.
pub both_worked :
    (v : Verdict Plans) (oldkeys newkeys entries : List ℕ) (m n : ℕ) (answer : Numbers ScheduleSize) (r : BothAs v oldkeys newkeys m n)
    → TransfersMade (schedule (stored_at m oldkeys) (stored_at n newkeys)) entries answer → WorkedOut v entries answer
both_worked v oldkeys newkeys entries m n answer r o =
    subst (λ (w : Verdict Plans). WorkedOut w entries answer) (sym r.same)
    (subst (λ (cs : List StoredCopy). TransfersMade (schedule (stored_copies r.both.old) cs) entries answer) r.news
    (subst (λ (cs : List StoredCopy). TransfersMade (schedule cs (stored_at n newkeys)) entries answer) r.olds o))

module _ (old new oldkeys newkeys : List ℕ) (m n : ℕ) (r : BothAs (texts_verdict old new) oldkeys newkeys m n) where
  read : BothRead old new r.both
  read = texts_given old new r.both r.same

  -- Their copies fit,
  pub olds_fit : Each CopyFits (stored_at m oldkeys)
  olds_fit = subst (Each CopyFits) (sym r.olds) (stored_fits r.both.old (old_formed old new r.both read) read.first_few)

  pub news_fit : Each CopyFits (stored_at n newkeys)
  news_fit = subst (Each CopyFits) (sym r.news) (stored_fits r.both.new (new_formed old new r.both read) read.second_few)

  -- and stand in order.
  pub olds_ordered : InOrder (stored_at m oldkeys)
  olds_ordered = subst InOrder (sym r.olds) (stored_ordered r.both.old (old_formed old new r.both read))

  pub news_ordered : InOrder (stored_at n newkeys)
  news_ordered = subst InOrder (sym r.news) (stored_ordered r.both.new (new_formed old new r.both read))
