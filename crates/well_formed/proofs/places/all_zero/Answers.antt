-- The test of every place, whatever goes over the places, as the definition has it.
use Rattle.std.proofs.Common.{◌≡◌, Decides, eqb, refl, rules}
use Rattle.std.specs.List.{All}
use Rattle.std.proofs.lemmas.Bool.Decides.{same_from_decides, Decides-by_and, Decides-eqb}
use Rattle.plan_text.specs.Held.{all_zero}
use Rattle.well_formed.proofs.places.all_zero.Goals as goal

pub returns : goal.returns
returns c =
    let places = c.args.places.now in
    let every : Decides c.all.result (All (λ n. n ≡ 0) places) = search rules in
    same_from_decides _ (all_zero places) every
    (Decides-by_and (λ n. eqb n 0) (λ n. n ≡ 0) all_zero (λ n. Decides-eqb n 0) refl (λ _ _. refl) places)
