-- `transfers::work_out` meets its contract: the texts are refused, or the transfers are those between their stored copies.
use mathlib.Core.List.{List}
use Prim.Native.Nat.{ℕ}
use native.Mathlib.Omega.{arith}
use lib.ListN.{length-replicate}
use lib.Seq.{length-take-le}
use Rattle.transfer_schedule.specs.Transfers.{texts_verdict}
use Rattle.transfers.proofs.TextsSteps.{BothAs, both_as, olds_fit, news_fit, olds_ordered, news_ordered}
use Rattle.transfers.proofs.work_out.Goals as goal

pub transfers_between-requires : goal.transfers_between-requires
transfers_between-requires c =
    let oldkeys : List ℕ = c.read_texts.new.oldkeys in
    let newkeys : List ℕ = c.read_texts.new.newkeys in
    let m : ℕ = c.in_ok-old_copies.old_copies in
    let n : ℕ = c.in_ok-old_copies.new_copies in
    let plans_read : BothAs (texts_verdict c.args.old.now c.args.new.now) oldkeys newkeys m n = both_as (texts_verdict c.args.old.now c.args.new.now) oldkeys newkeys m n c.in_ok-old_copies.ensures in
    let a = c.args in
    let r = plans_read in
    let long = length-take-le m oldkeys r.old_room in
    let longer = length-take-le n newkeys r.new_room in
    record {
      olds = (olds_fit a.old.now a.new.now oldkeys newkeys m n r, olds_ordered a.old.now a.new.now oldkeys newkeys m n r, omega (arith, long, r.old_room, c.read_texts.auto.oldkeys, length-replicate {A = ℕ} 256 0));
      news = (news_fit a.old.now a.new.now oldkeys newkeys m n r, news_ordered a.old.now a.new.now oldkeys newkeys m n r, omega (arith, longer, r.new_room, c.read_texts.auto.newkeys, length-replicate {A = ℕ} 256 0));
    }
