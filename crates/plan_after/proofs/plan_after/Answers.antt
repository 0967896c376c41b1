-- `plan_after::plan_after` meets its contract: the earlier text is refused, or its plan marks that of the call.
use mathlib.Core.Path.{◌≡◌, refl, sym, ap, subst, ◌∙◌}
use mathlib.Core.List.{List}
use Prim.Native.Nat.{ℕ, ◌≤◌}
use native.Mathlib.Omega.{arith}
use lib.ListN.{length, take, replicate, length-replicate}
use Rattle.std.specs.Prelude.{Ok, Err}
use Rattle.std.proofs.lemmas.Result.{err_from_is_err_and}
use Rattle.refusal.specs.Verdict.{given, refused}
use Rattle.refusal.specs.declared.Refusal.{Refusal}
use Rattle.refusal.specs.Numbers.{number_of, second_of}
use Rattle.refusal.proofs.Refusals.{number_some}
use Rattle.placement.specs.Copies.{Copy, layout_of}
use Rattle.placement.specs.Rack.{Disk, most_disks}
use Rattle.placement.specs.Packed.{disks_in}
use Rattle.placement.specs.Tables.{Tables, tables, own_tables, written}
use Rattle.placement.specs.Plan.{Plan}
use Rattle.placement.specs.Held.{marked_from}
use Rattle.placement.specs.Planning.{call}
use Rattle.placement.proofs.PackedRacks.{disks_length}
use Rattle.plan_text.specs.ReadCall.{text_verdict}
use Rattle.planner.proofs.Fulfilled.{plannable}
use Rattle.reader.specs.Answers.{numbers_of, told_by}
use Rattle.reader.specs.Promise.{ReadPromise}
use Rattle.reader.specs.declared.answer.PlanRead.{PlanRead}
use Rattle.reader.proofs.OwnReading.{read_refused, read_given, rack_read_lem, copies_read}
use Rattle.reader.proofs.PackedDisks.{take_disks}
use Rattle.plan_after.specs.Held.{HeldBefore, NoneUnused}
use Rattle.plan_after.specs.Marking.{marked_places}
use Rattle.placement.specs.WellFormed.{Each}
use Rattle.plan_after.proofs.AfterPromise.{refused_behind, marked_promise}
use Rattle.plan_after.proofs.Steps.{planned_given, refused_plan, marked_plan_lem, held_before}
use Rattle.plan_after.proofs.plan_after.Goals as goal

-- A plan that was read into tables of one's own.
record EarlierRead (text rack copies counts : List ℕ) (disks : ℕ) : Type 0 where
  pub plan : Plan
  pub same : text_verdict text ≡ given plan
  pub before : HeldBefore (disks_in (take disks rack)) copies counts
  pub held : marked_from (disks_in (take disks rack)) copies counts ≡ plan.copies

earlier_read :
    (text rack₀ rack copies counts left : List ℕ) (lent : Tables) (r : PlanRead) → length rack₀ ≡ 64 → lent ≡ own_tables
    → length copies ≡ length lent.copies → length counts ≡ length lent.counts
    → ReadPromise text (disks_in rack₀) lent (disks_in rack) (tables copies counts left) (numbers_of (Ok r))
    → EarlierRead text rack copies counts r.disks
earlier_read text rack₀ rack copies counts left lent r wide own copies_wide counts_wide promise =
    let promised : ReadPromise text (disks_in rack₀) own_tables (disks_in rack) (tables copies counts left) (numbers_of (Ok r)) =
    subst (λ (t : Tables). ReadPromise text (disks_in rack₀) t (disks_in rack) (tables copies counts left) (numbers_of (Ok r))) own promise in
    let enough : most_disks ≤ length (disks_in rack₀) = omega (arith, disks_length rack₀, wide) in
    let found : (p : Plan) × (text_verdict text ≡ given p) × (r.disks ≡ length p.rack) = read_given text _ enough promised (told_by r) refl in
    let rack_is : disks_in (take r.disks rack) ≡ found.0.rack =
    take_disks r.disks rack ∙ ap (λ (n : ℕ). take n (disks_in rack)) found.2 ∙ rack_read_lem text _ enough promised found.0 found.1 in
    record {
      plan = found.0;
      same = found.1;
      before = subst (λ (ds : List Disk). HeldBefore ds copies counts) (sym rack_is)
          (held_before text _ enough promised found.0 found.1
          (copies_wide ∙ ap (λ (t : Tables). length t.copies) own ∙ length-replicate {A = ℕ} 2048 0)
          (counts_wide ∙ ap (λ (t : Tables). length t.counts) own ∙ length-replicate {A = ℕ} 64 0));
      held = ap (λ (ds : List Disk). marked_from ds copies counts) rack_is ∙ copies_read text _ enough promised found.0 found.1;
    }

earlier_refused :
    (text rack₀ rack copies counts left : List ℕ) (lent : Tables) (r : Refusal) → length rack₀ ≡ 64 → lent ≡ own_tables
    → ReadPromise text (disks_in rack₀) lent (disks_in rack) (tables copies counts left) (numbers_of (Err r))
    → text_verdict text ≡ refused (number_of r) (second_of r)
earlier_refused text rack₀ rack copies counts left lent r wide own promise =
    let promised : ReadPromise text (disks_in rack₀) own_tables (disks_in rack) (tables copies counts left) (numbers_of (Err r)) =
    subst (λ (t : Tables). ReadPromise text (disks_in rack₀) t (disks_in rack) (tables copies counts left) (numbers_of (Err r))) own promise in
    let enough : most_disks ≤ length (disks_in rack₀) = omega (arith, disks_length rack₀, wide) in
    read_refused text _ enough promised r refl

pub returns-in-Err-clause-promise : goal.returns-in-Err-clause-promise
returns-in-Err-clause-promise c =
    let a = c.args in
    let read = c.read-read.new in
    refused_behind (call (disks_in a.rack.now) a.list.now) a.earlier.now (tables a.copies.now a.counts.now a.left.now) _ _
    (earlier_refused a.earlier.now (replicate 64 0) read.rack read.copies read.counts read.left _ c.in-Err.refusal (length-replicate {A = ℕ} 64 0) c.new-before.ensures
    c.in-Err.ensures.promise)
    c.plan_behind.ensures.promise.numbers c.plan_behind.ensures.promise.tables

pub returns-in_err-sums-in-Ok-clause-promise : goal.returns-in_err-sums-in-Ok-clause-promise
returns-in_err-sums-in-Ok-clause-promise c =
    let a = c.args in
    let read = c.read-read.new in
    let called = call (disks_in a.rack.now) a.list.now in
    let lent = tables a.copies.now a.counts.now a.left.now in
    let early = earlier_read a.earlier.now (replicate 64 0) read.rack read.copies read.counts read.left _ c.in-Ok.told (length-replicate {A = ℕ} 64 0) c.new-before.ensures
    c.read-read.auto.copies c.read-read.auto.counts c.in-Ok.ensures.promise in
    let p = err_from_is_err_and c.from_residual.result c.from_residual.ensures.1 in
    let after = refused_plan called lent c.in_err-sums-in-Ok.ensures.promise (layout_of early.plan.copies) (number_some _) in
    rw (p.1, p.2) (marked_promise called a.earlier.now lent early.plan early.same after.0 after.1)

pub mark_disks-requires : goal.mark_disks-requires
mark_disks-requires c =
    let a = c.args in
    let read = c.read-read.new in
    let called = call (disks_in a.rack.now) a.list.now in
    let lent = tables a.copies.now a.counts.now a.left.now in
    let early = earlier_read a.earlier.now (replicate 64 0) read.rack read.copies read.counts read.left _ c.in-Ok.told (length-replicate {A = ℕ} 64 0) c.new-before.ensures
    c.read-read.auto.copies c.read-read.auto.counts c.in-Ok.ensures.promise in
    record {
      rack_in_bounds = omega (arith, (plannable called lent (planned_given called lent c.in_ok-sums-in-Ok.ensures.promise refl)).copies, c.plan.auto.copies);
      held_before = early.before;
    }

pub returns-in_ok-sums-in-Ok-clause-promise : goal.returns-in_ok-sums-in-Ok-clause-promise
returns-in_ok-sums-in-Ok-clause-promise c =
    let a = c.args in
    let read = c.read-read.new in
    let called = call (disks_in a.rack.now) a.list.now in
    let lent = tables a.copies.now a.counts.now a.left.now in
    let early = earlier_read a.earlier.now (replicate 64 0) read.rack read.copies read.counts read.left _ c.in-Ok.told (length-replicate {A = ℕ} 64 0) c.new-before.ensures
    c.read-read.auto.copies c.read-read.auto.counts c.in-Ok.ensures.promise in
    let films : Each NoneUnused (layout_of early.plan.copies) = subst (λ (l : List (List Copy)). Each NoneUnused (layout_of l)) early.held early.before.films in
    let after = marked_plan_lem called lent c.in_ok-sums-in-Ok.ensures.promise (layout_of early.plan.copies) films refl
    (c.mark_disks.ensures
    ∙ ap (λ (l : List (List Copy)). written (marked_places (disks_in a.rack.now) c.plan.new.copies (layout_of l)) c.plan.new.copies) early.held) in
    marked_promise called a.earlier.now lent early.plan early.same after.0 after.1
