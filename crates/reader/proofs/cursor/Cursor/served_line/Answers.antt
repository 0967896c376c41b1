-- `reader::cursor::Cursor::served_line` meets its contract: its pieces, one after the other.
use Rattle.std.proofs.Common.{rules, ◌≡◌, ◌∙◌}
use Rattle.reader.specs.Cursor.{parse_of}
use Rattle.reader.proofs.Lines.{served_pieces, served_parts}
use Rattle.reader.proofs.cursor.Cursor.served_line.Goals as goal

pub returns-in_err-eat_number : goal.returns-in_err-eat_number
returns-in_err-eat_number c =
    let a = c.args in
    let read : parse_of c.from_residual-in_err-eat_number.result c.eat_number.new.self ≡ served_pieces a.served a.unserved a.self.now = search rules in
    read ∙ served_parts a.served a.unserved a.self.now

pub returns-in_err-eat : goal.returns-in_err-eat
returns-in_err-eat c =
    let a = c.args in
    let read : parse_of c.from_residual-in_err-eat.result c.eat.new.self ≡ served_pieces a.served a.unserved a.self.now = search rules in
    read ∙ served_parts a.served a.unserved a.self.now

pub returns-in_err-eat_number-2 : goal.returns-in_err-eat_number-2
returns-in_err-eat_number-2 c =
    let a = c.args in
    let read : parse_of c.from_residual-in_err-eat_number-2.result c.eat_number-2.new.self ≡ served_pieces a.served a.unserved a.self.now = search rules in
    read ∙ served_parts a.served a.unserved a.self.now

pub returns-in_err-eat-2 : goal.returns-in_err-eat-2
returns-in_err-eat-2 c =
    let a = c.args in
    let read : parse_of c.from_residual-in_err-eat-2.result c.eat-2.new.self ≡ served_pieces a.served a.unserved a.self.now = search rules in
    read ∙ served_parts a.served a.unserved a.self.now

pub returns : goal.returns
returns c =
    let a = c.args in
    let read : parse_of c.end_line.result c.end_line.new.self ≡ served_pieces a.served a.unserved a.self.now = search rules in
    read ∙ served_parts a.served a.unserved a.self.now
