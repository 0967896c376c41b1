-- The reading of a plan's text (Reading) with numbers that stop at 2³² − 1, as the code has them.
use Rattle.std.specs.Prelude.{ℕ, min, List}
use Rattle.placement.specs.Plan.{Plan}
use Rattle.plan_text.specs.Reading.{Reading, plan_read_with}

-- A number, or 2³² − 1 where it is larger.
abbrev pub saturated : ℕ → ℕ
saturated n = min n 4294967295

-- The whole text, with such numbers.
unfoldable pub plan_read_capped : List ℕ → Reading Plan
plan_read_capped text = plan_read_with saturated text
