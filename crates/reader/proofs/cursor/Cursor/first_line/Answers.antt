-- `reader::cursor::Cursor::first_line` meets its contract: a line of equal disks, or a mixed one where it does not fit.
use Rattle.std.proofs.Common.{rules, ◌≡◌}
use Rattle.plan_text.specs.Parse.{parsed, unparsed}
use Rattle.plan_text.specs.Reading.{line, rack_body, sizes_accepted}
use Rattle.plan_text.specs.Capped.{saturated}
use Rattle.reader.specs.Line.{sizes}
use Rattle.reader.proofs.FirstLines.{equal_first, mixed_first}
use Rattle.reader.proofs.cursor.Cursor.first_line.Goals as goal

pub returns-in_default : goal.returns-in_default
returns-in_default c =
    let a = c.args in
    let m = c.mixed_line in
    let stops : unparsed ≡ line (rack_body saturated) sizes_accepted a.self.now = search rules in
    mixed_first a.self.now m.new.self a.rack.now m.new.rack stops m.auto.rack c.requires m.result m.ensures

pub returns : goal.returns
returns c =
    let a = c.args in
    let k = c.rack_line in
    let said : parsed (sizes c.in-Some.said) k.new.self ≡ line (rack_body saturated) sizes_accepted a.self.now = search rules in
    equal_first a.self.now k.new.self (sizes c.in-Some.said) said c.disk_of.result
    a.rack.now _ c.disk_of.ensures.result_value (search rules)
