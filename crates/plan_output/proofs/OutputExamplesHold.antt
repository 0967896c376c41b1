-- What the program prints for the inputs of the table, proved by computation on the definitions.
use mathlib.Core.Path.{◌≡◌, refl}
use mathlib.Core.List.{map}
use Rattle.plan_text.specs.Decimal.{decimal}
use Rattle.plan_text.specs.Text.{text_of}
use Rattle.plan_text.specs.RefusalLine.{refusal_text}
use Rattle.plan_output.specs.Output.{output_of}
use Rattle.plan_output.specs.OutputExamples.{Printing, printings}

-- Every input prints what is expected.
pub printings_hold : map (λ (p : Printing). output_of p.input) printings ≡ map (λ (p : Printing). p.prints) printings
unfolding output_of text_of refusal_text decimal
printings_hold = refl
