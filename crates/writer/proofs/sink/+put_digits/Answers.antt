-- `sink::put_digits` meets its contract: the digits of the number's tenth stand before its last digit.
use Rattle.plan_text.proofs.Decimals.{decimal_small, decimal_large}
use Rattle.writer.specs.SpaceLaws.{put_then}
use Rattle.writer.proofs.sink.+put_digits.Goals as goal

pub returns-then-number-lt10 : goal.returns-then-number-lt10
returns-then-number-lt10 t c = rw (decimal_small _ c.if-number-lt10.true) c.put_byte.ensures

pub returns : goal.returns
returns t c = rw (decimal_large _ c.if-number-lt10.false) (put_then c.put_digits-next.ensures c.put_byte-2.ensures)
