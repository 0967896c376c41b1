-- `printing::output` keeps the promise of the output, for a short input, for N, k or L outside its range, and for a call.
use mathlib.Core.Path.{◌≡◌, sym, ◌∙◌}
use mathlib.Core.Bool.{true}
use Prim.Native.Nat.{◌≤◌}
use native.Mathlib.Omega.{arith}
use lib.ListN.{length}
use Rattle.plan_output.specs.Input.{head_bytes, sizes_in}
use Rattle.plan_output.proofs.Inputs.{sizes_same, call_same}
use Rattle.plan_output.proofs.Outputs.{short_promise, sizes_promise, long_promise}
use Rattle.plan_output.proofs.printing.output.Goals as goal

pub returns-then-input-lt-HEAD : goal.returns-then-input-lt-HEAD
returns-then-input-lt-HEAD c = short_promise (omega (arith, c.if-input-lt-HEAD.true)) c.refuse.ensures

pub returns-then-not-accepted : goal.returns-then-not-accepted
returns-then-not-accepted c =
    let sizes : c.accepted.result ≡ sizes_in c.args.input.now = c.accepted.ensures ∙ sizes_same c.args.input.now c.number32.ensures c.number32-2.ensures c.number32-3.ensures in
    let long : head_bytes ≤ length c.args.input.now = omega (arith, c.if-input-lt-HEAD.false) in
    sizes_promise long (sym sizes ∙ c.if-not-accepted.true) c.refuse-then-not-accepted.ensures

pub returns : goal.returns
returns c =
    let long : head_bytes ≤ length c.args.input.now = omega (arith, c.if-input-lt-HEAD.false) in
    let sizes : c.accepted.result ≡ sizes_in c.args.input.now = c.accepted.ensures ∙ sizes_same c.args.input.now c.number32.ensures c.number32-2.ensures c.number32-3.ensures in
    let inside : sizes_in c.args.input.now ≡ true = sym sizes ∙ c.if-not-accepted.false in
    long_promise (call_same c.args.input.now c.number32.ensures c.number32-2.ensures c.number32-3.ensures)
    long inside c.print_plan.ensures
