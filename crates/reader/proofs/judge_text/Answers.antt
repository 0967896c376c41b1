-- `reader::judge_text` meets its contract: it lends disks and tables of zeros to work in.
use Rattle.reader.specs.Answers.{numbers_of}
use Rattle.reader.proofs.Promises.{judge_promised}
use Rattle.reader.proofs.judge_text.Goals as goal

pub returns : goal.returns
returns c = judge_promised c.args.text.now (numbers_of c.judge.result) c.judge.ensures.numbers
