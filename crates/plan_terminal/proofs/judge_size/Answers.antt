-- `plan_terminal::judge_size` meets its contract: the judgements that led to each `return` give the refusal.
use mathlib.Core.Path.{◌≡◌, sym, ap, ◌∙◌}
use mathlib.Core.List.{List}
use Prim.Native.Nat.{ℕ}
use Rattle.refusal.specs.Verdict.{Verdict, given, refused}
use Rattle.refusal.specs.Numbers.{refusal_of}
use Rattle.refusal.specs.declared.Refusal.{Refusal}
use Rattle.refusal.proofs.Verdicts.{and_then}
use Rattle.placement.specs.Rack.{Disk}
use Rattle.placement.specs.Packed.{disks_in}
use Rattle.placement.specs.Records.{shape_judged}
use Rattle.placement.specs.Planning.{rack_judged}
use Rattle.std.proofs.lemmas.Result.{err_from_is_err_and}
use Rattle.placement.proofs.Conjunctions.{cond_false}
use Rattle.placement.proofs.Chains.{rack_then, shape_then}
use Rattle.plan_terminal.proofs.judge_size.Goals as goal

module _ (rack : List Disk) (list : List ℕ) where
  -- What stands behind the rack.
  abbrev from_shape : Verdict (Unit {0})
  from_shape = shape_judged list (refused 17 0)

  rack_refuses : (r : Refusal) → refusal_of {A = Unit {0}} r ≡ rack_judged rack (given tt) → refusal_of r ≡ rack_judged rack from_shape
  rack_refuses r e = ap (λ (w : Verdict (Unit {0})). and_then w from_shape) e ∙ sym (rack_then rack from_shape)

  module _ (accepted : rack_judged {A = Unit {0}} rack (given tt) ≡ given tt) where
    shape_decides : from_shape ≡ rack_judged rack from_shape
    shape_decides = sym (rack_then rack from_shape ∙ ap (λ (w : Verdict (Unit {0})). and_then w from_shape) accepted)

    shape_refuses : (r : Refusal) → refusal_of {A = Unit {0}} r ≡ shape_judged list (given tt) → refusal_of r ≡ rack_judged rack from_shape
    shape_refuses r e =
        ap (λ (w : Verdict (Unit {0})). and_then w (refused 17 0)) e ∙ sym (shape_then list (refused 17 0)) ∙ shape_decides

    size_refuses : shape_judged {A = Unit {0}} list (given tt) ≡ given tt → refused 17 0 ≡ rack_judged rack from_shape
    size_refuses passed =
        sym (shape_then list (refused 17 0) ∙ ap (λ (w : Verdict (Unit {0})). and_then w (refused 17 0)) passed) ∙ shape_decides

pub returns-in_err-judge_rack : goal.returns-in_err-judge_rack
returns-in_err-judge_rack c =
    let p = err_from_is_err_and c.from_residual.result c.from_residual.ensures.1 in
    rw (p.1, p.2)
    (rack_refuses (disks_in c.args.rack.now) c.args.list.now _ c.in_err-judge_rack.ensures ∙ sym (cond_false _ _ _ (sym c.if-fits_terminal.ensures)))

pub returns-in_err-judge_shape : goal.returns-in_err-judge_shape
returns-in_err-judge_shape c =
    let p = err_from_is_err_and c.from_residual-in_err-judge_shape.result c.from_residual-in_err-judge_shape.ensures.1 in
    rw (p.1, p.2)
    (shape_refuses (disks_in c.args.rack.now) c.args.list.now (sym c.in_ok-judge_rack.ensures) _ c.in_err-judge_shape.ensures
    ∙ sym (cond_false _ _ _ (sym c.if-fits_terminal.ensures)))

pub returns : goal.returns
returns c =
    size_refuses (disks_in c.args.rack.now) c.args.list.now (sym c.in_ok-judge_rack.ensures) (sym c.in_ok-judge_shape.ensures)
    ∙ sym (cond_false _ _ _ (sym c.if-fits_terminal.ensures))
