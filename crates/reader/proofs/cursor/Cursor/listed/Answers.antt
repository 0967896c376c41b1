-- `reader::cursor::Cursor::listed` meets its contract: after some pairs the line ends, or it has one more.
use Rattle.std.proofs.Common.{rules, ◌≡◌, ◌∙◌, ap, List, ℕ, length, ◌<◌, ◌-◌, ◌+◌}
use native.Mathlib.Omega.{arith}
use lib.ListN.{set, length-set}
use Rattle.std.proofs.lemmas.List.{set-get_or}
use Rattle.placement.specs.Items.{Item, item}
use Rattle.placement.specs.Held.{front}
use Rattle.plan_text.specs.Parse.{parsed, unparsed, byte}
use Rattle.reader.proofs.PairLists.{reads_on, pairs_end, pairs_more}
use Rattle.reader.proofs.StoredPairs.{front_more, kept_more}
use Rattle.reader.proofs.cursor.Cursor.listed.Goals as goal

pub returns-then-is_none : goal.returns-then-is_none
returns-then-is_none g c =
    let a = c.args in
    let l = c.loop-n in
    let no_pair : byte 32 l.here ≡ unparsed = search rules in
    let end : byte 41 l.here ≡ parsed tt c.eat-then-is_none.new.self = search rules in
    rw (set-get_or l.entries l.n 0)
    (pairs_end g.L.Listed.reads a.self.now l.here a.entries.now l.entries l.n l.invariant.2 c.eat-then-is_none.new.self no_pair end l.invariant.1)

pub loop-n-preserved : goal.loop-n-preserved
loop-n-preserved g c =
    let a = c.args in
    let l = c.loop-n in
    let one = g.L.Listed.reads in
    let x : Item = item c.in_ok-low.low c.in_ok-low.high in
    let e : ℕ = c.entry_of.result in
    let m : ℕ = length a.entries.now - (l.n + 1) in
    let spaced : byte 32 l.here ≡ parsed tt c.eat.new.self = search rules in
    let pair : g.L.Listed.reads c.eat.new.self ≡ parsed x c.read.new.cursor = search rules in
    let room : l.n < length a.entries.now = omega arith in
    let small : x.film < 4294967296 = omega arith in (
      length-set l.entries l.n e ∙ l.invariant.0,
      record { few = omega arith; kept = kept_more l.entries a.entries.now l.n e l.invariant.1.kept },
      ap (λ (v : ℕ). reads_on one (front (l.n + 1) (set l.entries l.n v)) m c.read.new.cursor) c.entry_of.ensures
          ∙ ap (λ (b : List Item). reads_on one b m c.read.new.cursor) (front_more l.entries l.n x (omega arith) small)
          ∙ pairs_more g.L.Listed.reads a.self.now l.here a.entries.now l.entries l.n l.invariant.2 c.eat.new.self spaced room x c.read.new.cursor pair,
    )
