-- `write` meets its contract: at each `return` one law of the verdict says how the call ends.
use Rattle.std.proofs.Common.{◌≡◌, ℕ, ◌≤◌, true, length, sym, refl, ap, rules, arith}
use Rattle.std.proofs.lemmas.Result.{err_from_is_err_and}
use Rattle.refusal.specs.Verdict.{given}
use Rattle.placement.specs.Rack.{rack_accepted}
use Rattle.placement.specs.Packed.{disks_in}
use Rattle.placement.specs.Tables.{tables}
use Rattle.plan_text.specs.WriteCall.{WriteCall, write_call, room_stated, well_formed_call, write_answer}
use Rattle.writer.specs.WritePromise.{text_held}
use Rattle.writer.proofs.Spaces.{put_first}
use Rattle.writer.proofs.Calls.{rack_passed, text_short}
use Rattle.writer.proofs.Verdicts.{refused_judged, refused_tables, refused_plan, refused_space, given_text}
use Rattle.writer.proofs.Promises.{promise_at}
use Rattle.writer.proofs.write.Goals as goal

pub returns-in_err-judge_rack-clause-promise : goal.returns-in_err-judge_rack-clause-promise
returns-in_err-judge_rack-clause-promise c =
    let called : WriteCall = (let a = c.args in write_call (disks_in a.rack.now) (tables a.copies.now a.counts.now a.left.now) a.films) in
    let p = err_from_is_err_and c.from_residual.result c.from_residual.ensures.1 in
    rw (p.1, p.2) (promise_at (refused_judged called c.args.text.now _ c.in_err-judge_rack.ensures) refl refl)

pub returns-then-not-room-clause-promise : goal.returns-then-not-room-clause-promise
returns-then-not-room-clause-promise c =
    let called : WriteCall = (let a = c.args in write_call (disks_in a.rack.now) (tables a.copies.now a.counts.now a.left.now) a.films) in
    let rack_holds : rack_accepted called.rack ≡ true = rack_passed called.rack c.in_ok-judge_rack.ensures in
    promise_at (refused_tables called c.args.text.now rack_holds (sym c.if-not-room.ensures)) refl refl

pub invariant_of-plan : goal.invariant_of-plan
invariant_of-plan c =
    record { accepted = rack_passed (disks_in c.args.rack.now) c.in_ok-judge_rack.ensures; room = sym c.if-not-room.ensures }

pub returns-then-not-is_formed-clause-promise : goal.returns-then-not-is_formed-clause-promise
returns-then-not-is_formed-clause-promise c =
    let called : WriteCall = (let a = c.args in write_call (disks_in a.rack.now) (tables a.copies.now a.counts.now a.left.now) a.films) in
    let rack_holds : rack_accepted called.rack ≡ true = rack_passed called.rack c.in_ok-judge_rack.ensures in
    let room_holds : room_stated called ≡ true = sym c.if-not-room.ensures in
    promise_at (refused_plan called c.args.text.now rack_holds room_holds (sym c.if-not-is_formed.ensures)) refl refl

pub returns-then-text-length-clause-promise : goal.returns-then-text-length-clause-promise
returns-then-text-length-clause-promise c =
    let called : WriteCall = (let a = c.args in write_call (disks_in a.rack.now) (tables a.copies.now a.counts.now a.left.now) a.films) in
    let rack_holds : rack_accepted called.rack ≡ true = rack_passed called.rack c.in_ok-judge_rack.ensures in
    let room_holds : room_stated called ≡ true = sym c.if-not-room.ensures in
    let formed_holds : well_formed_call called ≡ true = sym c.if-not-is_formed.ensures in
    let counted : c.put_text.new.sink.bytes ≡ length (text_held called) = omega (arith, text_short called formed_holds, c.put_text.ensures) in
    promise_at
    (refused_space called c.args.text.now rack_holds room_holds formed_holds (omega (arith, c.if-text-length.true, counted)))
    refl refl

pub returns-clause-promise : goal.returns-clause-promise
returns-clause-promise c =
    let called : WriteCall = (let a = c.args in write_call (disks_in a.rack.now) (tables a.copies.now a.counts.now a.left.now) a.films) in
    let rack_holds : rack_accepted called.rack ≡ true = rack_passed called.rack c.in_ok-judge_rack.ensures in
    let room_holds : room_stated called ≡ true = sym c.if-not-room.ensures in
    let formed_holds : well_formed_call called ≡ true = sym c.if-not-is_formed.ensures in
    let counted : c.put_text.new.sink.bytes ≡ length (text_held called) = omega (arith, text_short called formed_holds, c.put_text.ensures) in
    let fits : length (text_held called) ≤ length c.args.text.now = omega (arith, c.if-text-length.false, counted) in
    promise_at
    (given_text called c.args.text.now rack_holds room_holds formed_holds fits)
    (ap (λ (n : ℕ). write_answer (given n)) counted)
    (put_first c.put_text-2.ensures.1 (text_short called formed_holds) fits (search rules))
