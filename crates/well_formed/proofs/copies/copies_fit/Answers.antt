-- The tests are those of `disk_accepted`, in its order.
use Rattle.std.proofs.Common.{sym, ◌∙◌, arith}
use Rattle.std.proofs.lemmas.Bool.Decides.{nat_tests}
use Rattle.placement.proofs.Conjunctions.{false_true}
use Rattle.well_formed.proofs.Sums.{copies_fit_lem}
use Rattle.well_formed.proofs.copies.copies_fit.Goals as goal
use Rattle.well_formed.proofs.copies.copies_fit.Goals.{then-copies-slots, else-copies-slots, then-distinct_films, else-distinct_films}

pub returns-then-every_copy_accepted : goal.returns-then-every_copy_accepted
returns-then-every_copy_accepted c =
    elim c.if-distinct_films.branch [
      | then-distinct_films w ↦
          elim c.if-copies-slots.branch [
            | then-copies-slots v ↦
                rw c.from.ensures
                (copies_fit_lem _ c.args.copies.now (omega (arith, v.if-copies-slots.true))
                (sym v.distinct_films.ensures ∙ sym v.value-is ∙ w.if-distinct_films.true)
                (sym w.every_copy_accepted.ensures ∙ sym w.value-is ∙ c.if-every_copy_accepted.true)
                (omega arith) c.total.ensures.always)
            | else-copies-slots v ↦ absurd (grind (arith, nat_tests, v.value-is, w.if-distinct_films.true, v.if-copies-slots.false))
          ]
      | else-distinct_films w ↦ false_true (sym w.if-distinct_films.false ∙ sym w.value-is ∙ c.if-every_copy_accepted.true)
    ]
