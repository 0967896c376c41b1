-- `transfers::read_stored` meets its contract: the text is refused, or the stored copies of its plan are put into keys.
use mathlib.Core.Path.{◌≡◌, refl, sym, ap, subst, ◌∙◌}
use mathlib.Core.Bool.{true}
use mathlib.Core.List.{List}
use Prim.Native.Nat.{ℕ, ◌≤◌}
use native.Mathlib.Omega.{arith}
use lib.ListN.{length, take, length-replicate}
use lib.Seq.{length-take-le}
use Rattle.std.specs.Prelude.{Ok, Err}
use Rattle.std.proofs.lemmas.Result.{err_from_is_err_and}
use Rattle.refusal.specs.Verdict.{Verdict, given}
use Rattle.refusal.specs.Numbers.{refusal_of}
use Rattle.placement.specs.Copies.{Copy}
use Rattle.placement.specs.Rack.{Disk, most_disks, rack_accepted}
use Rattle.placement.specs.Packed.{disks_in}
use Rattle.placement.specs.Tables.{Tables, tables, own_tables}
use Rattle.placement.specs.Plan.{Plan}
use Rattle.placement.specs.Held.{marked_from}
use Rattle.placement.proofs.Racks.{accepted_all_slots}
use Rattle.placement.proofs.Formed.{plan_rack}
use Rattle.placement.proofs.PackedRacks.{disks_length}
use Rattle.plan_text.specs.ReadCall.{told, text_verdict}
use Rattle.reader.specs.Answers.{numbers_of}
use Rattle.reader.specs.Promise.{ReadPromise}
use Rattle.reader.proofs.OwnReading.{read_refused, read_given, formed_read, rack_few, rack_read_lem, copies_read, unused_read}
use Rattle.reader.proofs.PackedDisks.{take_disks}
use Rattle.transfer_schedule.specs.Stored.{stored_from}
use Rattle.transfers.specs.Keys.{TablesFit, KeysHold, StoredText}
use Rattle.transfers.proofs.texts.read_stored.Goals as goal

pub returns-in_err-plan : goal.returns-in_err-plan
returns-in_err-plan c =
    let text : List ℕ = c.args.text.now in
    let rack : List ℕ = c.read.new.rack in
    let enough : most_disks ≤ length (disks_in c.args.rack.now) = omega (arith, disks_length c.args.rack.now, c.told-rack) in
    let after : Tables = tables c.read.new.copies c.read.new.counts c.read.new.left in
    let r = c.in_err-plan.field-0.0 in
    let promised : ReadPromise text (disks_in c.args.rack.now) own_tables (disks_in rack) after (numbers_of (Err r)) = subst (λ (t : Tables). ReadPromise text (disks_in c.args.rack.now) t (disks_in rack) after (numbers_of (Err r))) c.new-own.ensures c.in_err-plan.ensures.promise in
    let p = err_from_is_err_and c.from_residual.result c.from_residual.ensures.1 in
    rw (p.1, p.2)
    (subst (λ (v : Verdict Plan). StoredText v rack c.args.keys.now (refusal_of r))
    (sym (read_refused text _ enough promised r refl)) refl)

pub returns : goal.returns
returns c =
    let rack : List ℕ = c.read.new.rack in
    let after : Tables = tables c.read.new.copies c.read.new.counts c.read.new.left in
    let disks : ℕ = c.in_ok-plan.plan.disks in
    let text : List ℕ = c.args.text.now in
    let enough : most_disks ≤ length (disks_in c.args.rack.now) = omega (arith, disks_length c.args.rack.now, c.told-rack) in
    let promised : ReadPromise text (disks_in c.args.rack.now) own_tables (disks_in rack) after (numbers_of (Ok c.in_ok-plan.plan)) = subst (λ (t : Tables). ReadPromise text (disks_in c.args.rack.now) t (disks_in rack) after (numbers_of (Ok c.in_ok-plan.plan))) c.new-own.ensures c.in_ok-plan.ensures.promise in
    let found : (p : Plan) × (text_verdict text ≡ given p) × (disks ≡ length p.rack) = read_given text _ enough promised (told c.in_ok-plan.plan.disks c.in_ok-plan.plan.served c.in_ok-plan.plan.unserved c.in_ok-plan.plan.left) refl in
    let few : disks ≤ length rack = omega (arith, found.2, rack_few text _ enough promised found.0 found.1, c.read.auto.rack, c.told-rack) in
    let rack_is : disks_in (take disks rack) ≡ found.0.rack = take_disks disks rack ∙ ap (λ (n : ℕ). take n (disks_in rack)) found.2 ∙ rack_read_lem text _ enough promised found.0 found.1 in
    let copies_are : marked_from (disks_in (take disks rack)) after.copies after.counts ≡ found.0.copies = ap (λ (ds : List Disk). marked_from ds after.copies after.counts) rack_is ∙ copies_read text _ enough promised found.0 found.1 in
    let v : Verdict (ℕ × ℕ) = given c.stored_copies.result in
    let keys = c.stored_copies.new.keys in
    let p = found.0 in
    let number : length (take disks rack) ≡ length p.rack = length-take-le _ _ few ∙ found.2 in
    subst (λ (w : Verdict Plan). StoredText w rack keys v) (sym found.1) (
      ap (λ (n : ℕ). disks_in (take n rack)) (sym found.2) ∙ rack_is,
      subst (λ (cs : List (List Copy)). KeysHold (length p.rack) (stored_from 1 cs) keys v) copies_are
          (subst (λ (n : ℕ). KeysHold n (stored_from 1 (marked_from (disks_in (take disks rack)) after.copies after.counts)) keys v)
          number c.stored_copies.ensures),
    )

pub stored_copies-requires : goal.stored_copies-requires
stored_copies-requires c =
    let after : Tables = tables c.read.new.copies c.read.new.counts c.read.new.left in
    let text : List ℕ = c.args.text.now in
    let rack : List ℕ = c.read.new.rack in
    let enough : most_disks ≤ length (disks_in c.args.rack.now) = omega (arith, disks_length c.args.rack.now, c.told-rack) in
    let promised : ReadPromise text (disks_in c.args.rack.now) own_tables (disks_in rack) after (numbers_of (Ok c.in_ok-plan.plan)) = subst (λ (t : Tables). ReadPromise text (disks_in c.args.rack.now) t (disks_in rack) after (numbers_of (Ok c.in_ok-plan.plan))) c.new-own.ensures c.in_ok-plan.ensures.promise in
    let disks : ℕ = c.in_ok-plan.plan.disks in
    let found : (p : Plan) × (text_verdict text ≡ given p) × (disks ≡ length p.rack) = read_given text _ enough promised (told c.in_ok-plan.plan.disks c.in_ok-plan.plan.served c.in_ok-plan.plan.unserved c.in_ok-plan.plan.left) refl in
    let rack_is : disks_in (take disks rack) ≡ found.0.rack = take_disks disks rack ∙ ap (λ (n : ℕ). take n (disks_in rack)) found.2 ∙ rack_read_lem text _ enough promised found.0 found.1 in
    let accepted : rack_accepted found.0.rack ≡ true = plan_rack found.0 (formed_read text _ enough promised found.0 found.1) in
    let copies_wide : length after.copies ≡ 2048 = c.read.auto.copies ∙ ap (λ (t : Tables). length t.copies) c.new-own.ensures ∙ length-replicate {A = ℕ} 2048 0 in
    let counts_wide : length after.counts ≡ 64 = c.read.auto.counts ∙ ap (λ (t : Tables). length t.counts) c.new-own.ensures ∙ length-replicate {A = ℕ} 64 0 in
    let fits : TablesFit found.0.rack after.copies after.counts = record { room = record { copy_places = omega (arith, copies_wide, accepted_all_slots found.0.rack accepted); count_places = omega (arith, counts_wide, rack_few text _ enough promised found.0 found.1) }; unused = unused_read text _ enough promised found.0 found.1 } in
    record {
      tables_fit = subst (λ (ds : List Disk). TablesFit ds after.copies after.counts) (sym rack_is) fits;
      rack_value = ap rack_accepted rack_is ∙ accepted;
      keys_len = c.told-keys;
    }
