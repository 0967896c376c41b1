-- `reader::cursor::Cursor::disk_line` meets its contract: the head, the copies, and the end of the line with the test of the copies.
use Rattle.std.proofs.Common.{rules, ◌≡◌, ◌∙◌, sym, length, ℕ}
use mathlib.Core.Path.{ap₂}
use mathlib.Core.List.{map}
use Prim.Native.Nat.{◌≤◌}
use native.Mathlib.Omega.{arith}
use lib.ListN.{take, length-map, length-take}
use Rattle.placement.specs.Copies.{copy_of}
use Rattle.placement.specs.Tables.{item_in}
use Rattle.placement.specs.Rack.{disk}
use Rattle.placement.specs.Plan.{copies_accepted}
use Rattle.placement.specs.Packed.{disk_in}
use Rattle.placement.specs.Held.{front}
use Rattle.plan_text.specs.Parse.{parsed}
use Rattle.reader.specs.Cursor.{parse_by}
use Rattle.reader.proofs.Lines.{line_end_passed}
use Rattle.reader.proofs.PairLines.{disk_pieces, disk_parts}
use Rattle.reader.proofs.cursor.Cursor.disk_line.Goals as goal

pub returns-in_err-count : goal.returns-in_err-count
returns-in_err-count c =
    let a = c.args in
    let r = c.from_residual-in_err-count.result in
    let read : parse_by (λ l. map copy_of (front l.count c.listed.new.entries)) r c.listed.new.self
    ≡ disk_pieces a.number (disk_in a.disk) (length a.copies.now) a.self.now = search rules in
    record {
      reads = read ∙ disk_parts a.number (disk_in a.disk) (length a.copies.now) a.self.now;
      held = rw c.from_residual-in_err-count.ensures tt;
    }

pub returns-in_err-end_line : goal.returns-in_err-end_line
returns-in_err-end_line c =
    let a = c.args in
    let r = c.from_residual-in_err-end_line.result in
    let xs = front c.in_ok-count.count c.listed.new.entries in
    let tested : c.disk_accepted-storable.result ≡ copies_accepted (disk_in a.disk) (map copy_of xs) =
    c.disk_accepted-storable.ensures
    ∙ ap₂ (λ (k l : ℕ). copies_accepted (disk k l) (map copy_of xs)) c.disk_slots-slots.ensures c.disk_streams-streams.ensures in
    let read : parse_by (λ l. map copy_of (front l.count c.listed.new.entries)) r c.end_line.new.self
    ≡ disk_pieces a.number (disk_in a.disk) (length a.copies.now) a.self.now = search rules in
    record {
      reads = read ∙ disk_parts a.number (disk_in a.disk) (length a.copies.now) a.self.now;
      held = rw c.from_residual-in_err-end_line.ensures tt;
    }

pub returns : goal.returns
returns c =
    let a = c.args in
    let n : ℕ = c.in_ok-count.count in
    let xs = front n c.listed.new.entries in
    let few : length c.listed.new.entries ≤ 4294967296 = omega (arith, c.listed.auto.entries, c.requires) in
    let tested : c.disk_accepted-storable.result ≡ copies_accepted (disk_in a.disk) (map copy_of xs) =
    c.disk_accepted-storable.ensures
    ∙ ap₂ (λ (k l : ℕ). copies_accepted (disk k l) (map copy_of xs)) c.disk_slots-slots.ensures c.disk_streams-streams.ensures in
    let read : parsed (map copy_of xs) c.end_line.new.self
    ≡ disk_pieces a.number (disk_in a.disk) (length a.copies.now) a.self.now = search rules in
    record {
      reads = read ∙ disk_parts a.number (disk_in a.disk) (length a.copies.now) a.self.now;
      held = record {
        stored = search rules;
        summed = c.total-sum.ensures.plain (omega (arith, few, length-map (take n c.listed.new.entries) item_in, length-take n c.listed.new.entries));
        passed =
            sym tested
            ∙ line_end_passed c.disk_accepted-storable.result c.listed.new.self c.end_line.new.self
            (search rules);
      };
    }
