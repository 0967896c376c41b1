-- What the tests of record i lead to.
use Rattle.std.proofs.Common.{rules, refl, sym, ap, ◌∙◌, ℕ, ◌+◌}
use Rattle.std.specs.Iterator.Adapters.{enumerate_count, enumerate_source}
use Rattle.std.specs.Slice.Iter.{chunks_exact_rest, chunks_exact_size}
use Rattle.demand_list.proofs.Checking.{checked_none, checked_more, checked_all, refuses_film, refuses_clip, refuses_demand, refuses_repeated}
use Rattle.demand_list.proofs.Chunks.{checked_at, left_at, next_record, none_left}
use Rattle.demand_list.proofs.records.judge_records.Goals as goal

pub returns-then-not-in_range : goal.returns-then-not-in_range
returns-then-not-in_range c =
    let inv = c.loop-i.invariant in
    let step = c.in-Some.ensures.steps in
    let next = next_record _ _ _ _ _ _ inv.3 inv.4 step.0.1.0 step.0.1.1 _ _ step.1 inv.2 in
    refuses_film next.checked next.here (c.number32-film.ensures ∙ next.film) (c.number32-demand.ensures ∙ next.demand)
    c.if-not-in_range.ensures

pub returns-then-film-gt-MOST_FILM : goal.returns-then-film-gt-MOST_FILM
returns-then-film-gt-MOST_FILM c =
    let inv = c.loop-i.invariant in
    let step = c.in-Some.ensures.steps in
    let next = next_record _ _ _ _ _ _ inv.3 inv.4 step.0.1.0 step.0.1.1 _ _ step.1 inv.2 in
    refuses_clip next.checked next.here (c.number32-film.ensures ∙ next.film) (c.number32-demand.ensures ∙ next.demand)
    c.if-not-in_range.ensures c.if-film-gt-MOST_FILM.true

pub returns-then-demand-gt-MOST_DEMAND : goal.returns-then-demand-gt-MOST_DEMAND
returns-then-demand-gt-MOST_DEMAND c =
    let inv = c.loop-i.invariant in
    let step = c.in-Some.ensures.steps in
    let next = next_record _ _ _ _ _ _ inv.3 inv.4 step.0.1.0 step.0.1.1 _ _ step.1 inv.2 in
    refuses_demand next.checked next.here (c.number32-film.ensures ∙ next.film) (c.number32-demand.ensures ∙ next.demand)
    c.if-not-in_range.ensures c.if-film-gt-MOST_FILM.false c.if-demand-gt-MOST_DEMAND.true

pub returns-then-seen-place : goal.returns-then-seen-place
returns-then-seen-place c =
    let inv = c.loop-i.invariant in
    let step = c.in-Some.ensures.steps in
    let next = next_record _ _ _ _ _ _ inv.3 inv.4 step.0.1.0 step.0.1.1 _ _ step.1 inv.2 in
    refuses_repeated next.checked next.here (c.number32-film.ensures ∙ next.film) (c.number32-demand.ensures ∙ next.demand)
    c.if-not-in_range.ensures c.if-film-gt-MOST_FILM.false c.if-demand-gt-MOST_DEMAND.false c.if-seen-place.true

pub returns : goal.returns
returns c =
    let inv = c.loop-i.invariant in
    checked_all _ _ _ inv.2 (none_left _ _ _ _ inv.3 inv.4 c.in-None.ensures.steps.0.1.0)

pub loop-i-init : goal.loop-i-init
loop-i-init c =
    let same = c.into_iter-i-iterator.ensures.into_iter_gives in
    let none = ap enumerate_count same ∙ c.enumerate-i-items.ensures.count in
    let source = ap enumerate_source same ∙ c.enumerate-i-items.ensures.source in (
      search rules,
      tt,
      checked_at _ _ _ 0 none (checked_none _ _ refl),
      left_at _ _ _ 0 none (ap chunks_exact_rest source ∙ c.chunks_exact.ensures.rest),
      ap chunks_exact_size source ∙ c.chunks_exact.ensures.size,
    )

pub loop-i-preserved : goal.loop-i-preserved
loop-i-preserved c =
    let inv = c.loop-i.invariant in
    let step = c.in-Some.ensures.steps in
    let next = next_record _ _ _ _ _ _ inv.3 inv.4 step.0.1.0 step.0.1.1 _ _ step.1 inv.2 in
    let more = step.2 ∙ ap (λ (n : ℕ). n + 1) (sym step.1) in (
      search rules,
      tt,
      checked_at _ _ _ _ more
          (checked_more next.checked next.here (c.number32-film.ensures ∙ next.film) (c.number32-demand.ensures ∙ next.demand)
          c.if-not-in_range.ensures c.if-film-gt-MOST_FILM.false c.if-demand-gt-MOST_DEMAND.false c.if-seen-place.false),
      left_at _ _ _ _ more next.left,
      step.0.0 ∙ inv.4,
    )
