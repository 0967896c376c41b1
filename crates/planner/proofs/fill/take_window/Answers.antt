-- `planner::fill::take_window` meets its contract: the key that enters is that of the window's last film with what remains of it.
use mathlib.Core.Path.{sym, ap₂, ◌∙◌}
use mathlib.Core.List.{List}
use Prim.Native.Nat.{◌≤◌}
use native.Mathlib.Omega.{arith}
use Rattle.placement.specs.Items.{Item, item, enter, insert_by, before}
use Rattle.placement.specs.Disk.{last_film}
use Rattle.placement.specs.Window.{window, outside}
use Rattle.placement.proofs.Tests.{passed}
use Rattle.planner.specs.Keys.{items_of}
use Rattle.planner.specs.Copies.{run_of}
use Rattle.planner.proofs.Places.{outside_items}
use Rattle.planner.proofs.Remainder.{last_some, remainder_key}
use Rattle.planner.proofs.fill.take_window.Goals as goal

pub returns-then-over-lt1 : goal.returns-then-over-lt1
returns-then-over-lt1 c =
    let a = c.args in
    let rest = outside (window a.start a.size) (items_of a.n a.keys.now) in
    let last = item (last_film (run_of a.keys.now a.start a.size)).film a.over in
    record {
      keys_after = outside_items a.keys.now c.remove.new.keys a.n a.start a.size c.remove.ensures ∙ sym (passed a.over (insert_by before last rest) rest (omega arith));
      upper_bound = omega arith;
    }

pub returns : goal.returns
returns c =
    let a = c.args in
    let some : 1 ≤ a.size =
    last_some a.keys.now a.start a.size a.over c.if-over-lt1.false c.requires.over_bound in
    record {
      keys_after = c.enter.ensures.keys_after ∙ ap₂ (λ (x : Item) (list : List Item). enter x list) (remainder_key a.keys.now a.start a.size a.over c.film-film.result c.make.result (omega arith) some c.film-film.ensures c.make.ensures) (outside_items a.keys.now c.remove-2.new.keys a.n a.start a.size c.remove-2.ensures);
      upper_bound = omega (arith, c.enter.ensures.upper_bound);
    }
