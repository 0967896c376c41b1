-- `transfers::transfers_between` meets its contract: the copies that the old ones lack are placed, and the largest round is the number of rounds.
use mathlib.Core.Path.{◌≡◌, sym, ap, ap₂, subst, ◌∙◌}
use mathlib.Core.List.{List, [], ◌∷◌, map}
use Prim.Native.Nat.{ℕ, ◌≤◌}
use native.Mathlib.Omega.{arith}
use lib.ListN.{length, take, drop, length-map, length-append}
use lib.Seq.{length-take-le, take_at}
use Rattle.placement.specs.WellFormed.{Each}
use Rattle.transfer_schedule.specs.Stored.{StoredCopy}
use Rattle.transfer_schedule.specs.Schedule.{Transfer, place_all, rounds_of, schedule as schedule_of}
use Rattle.transfer_schedule.specs.Fits.{CopyFits, TransferFits}
use Rattle.transfer_schedule.specs.Transfers.{transfer_entry, schedule_size}
use Rattle.transfer_schedule.proofs.Lacking.{lacking_each}
use Rattle.transfer_schedule.proofs.Placing.{place_length}
use Rattle.transfer_schedule.proofs.Scheduled.{schedule_fits}
use Rattle.transfers.specs.Keys.{stored_in, stored_at}
use Rattle.transfers.proofs.schedule.transfers_between.Goals as goal

-- No round is above 256.
rounds_most : (ts : List Transfer) → Each TransferFits ts → rounds_of ts ≤ 256
rounds_most [] fit = omega arith
rounds_most (t ∷ ts) fit = omega (arith, fit.0.round, rounds_most ts fit.1)

pub overflow_cast-result-2 : goal.overflow_cast-result-2
overflow_cast-result-2 c =
    let old : List StoredCopy = map stored_in c.args.old.now in
    let new : List StoredCopy = map stored_in c.args.new.now in
    let fits : Each TransferFits (schedule_of old new) = schedule_fits old new c.requires.olds.0 c.requires.news.0 (omega (arith, length-map c.args.new.now stored_in, c.requires.news.2)) in
    let n : ℕ = c.put_lacking-n.result in
    let keys : List ℕ = c.put_lacking-n.new.keys in
    let placed_is : place_all old [] (stored_at n keys) ≡ schedule_of old new = ap (place_all old []) c.put_lacking-n.ensures.keys_after in
    let rounds_are : c.place_all-rounds.result ≡ rounds_of (schedule_of old new) = c.place_all-rounds.ensures.value ∙ ap rounds_of placed_is in
    omega (
      arith,
      rounds_are,
      rounds_most (schedule_of old new) fits,
    )

pub returns : goal.returns
returns c =
    let old : List StoredCopy = map stored_in c.args.old.now in
    let new : List StoredCopy = map stored_in c.args.new.now in
    let n : ℕ = c.put_lacking-n.result in
    let keys : List ℕ = c.put_lacking-n.new.keys in
    let room : n ≤ length keys = omega (arith, c.put_lacking-n.ensures.upper_bound, c.put_lacking-n.auto.keys, c.told-entries, c.requires.news.2) in
    let fits : Each TransferFits (schedule_of old new) = schedule_fits old new c.requires.olds.0 c.requires.news.0 (omega (arith, length-map c.args.new.now stored_in, c.requires.news.2)) in
    let placed_is : place_all old [] (stored_at n keys) ≡ schedule_of old new = ap (place_all old []) c.put_lacking-n.ensures.keys_after in
    let front_long : length (take n keys) ≡ n = length-take-le n keys room in
    let number : length (schedule_of old new) ≡ n = ap length (sym placed_is) ∙ (omega (arith, place_length old [] (stored_at n keys), length-map (take n keys) stored_in, front_long)) in
    let rounds_are : c.place_all-rounds.result ≡ rounds_of (schedule_of old new) = c.place_all-rounds.ensures.value ∙ ap rounds_of placed_is in
    let ts = schedule_of old new in
    let entries = c.place_all-rounds.new.keys in
    let rest = drop n keys in
    let made : entries ≡ map transfer_entry ts = c.place_all-rounds.ensures.keys_after ∙ ap (map transfer_entry) placed_is in
    let long : length entries ≡ length ts = ap length made ∙ length-map ts transfer_entry in
    record {
      told = ap₂ (λ (k r : ℕ). record { refusal = 0; second = 0; values = schedule_size k r }) (sym number) rounds_are;
      front = take_at entries rest (length ts) long ∙ made;
      fit = fits;
      room = omega (arith, long, length-append entries rest);
    }

pub place_all-rounds-requires : goal.place_all-rounds-requires
place_all-rounds-requires c =
    let old : List StoredCopy = map stored_in c.args.old.now in
    let new : List StoredCopy = map stored_in c.args.new.now in
    let n : ℕ = c.put_lacking-n.result in
    let keys : List ℕ = c.put_lacking-n.new.keys in
    let room : n ≤ length keys = omega (arith, c.put_lacking-n.ensures.upper_bound, c.put_lacking-n.auto.keys, c.told-entries, c.requires.news.2) in
    let front_long : length (take n keys) ≡ n = length-take-le n keys room in
    let few : n ≤ 256 = omega (arith, c.put_lacking-n.ensures.upper_bound, c.requires.news.2) in
    (c.requires.olds.0, subst (Each CopyFits) (sym c.put_lacking-n.ensures.keys_after) (lacking_each old CopyFits new c.requires.news.0), omega (arith, front_long, few))
