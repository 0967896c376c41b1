-- `refusal_line::write_refusal` keeps its promise, whether the space is long enough or not.
use Rattle.std.proofs.Common.{◌≡◌, ◌^◌, ◌<◌, length, rules, arith}
use Rattle.plan_text.specs.RefusalLine.{refusal_text}
use Rattle.writer.proofs.Refusals.{refusal_few, refusal_written}
use Rattle.writer.proofs.refusal_line.write_refusal.Goals as goal

pub returns : goal.returns
returns c =
    let few : length (refusal_text c.args.number c.args.second) < 2 ^ 64 = refusal_few _ _ c.ranges.number.fits c.ranges.second.fits in
    let counted : c.put_refusal.new.sink.bytes ≡ length (refusal_text c.args.number c.args.second) = omega (arith, c.put_refusal.ensures) in
    refusal_written _ _ _ few (omega (arith, counted, c.if-text-length.false)) c.put_refusal-2.ensures.1 (search rules) counted
