-- The rows of planning on the purser's terminal, proved by computation on the definitions.
use mathlib.Core.Path.{◌≡◌, refl}
use mathlib.Core.List.{[], ◌∷◌, ◌++◌, map}
use Prim.Native.Nat.{suc}
use lib.ListN.{length, replicate}
use Rattle.placement.specs.Held.{plan_held}
use Rattle.placement.specs.Planning.{planning, tables_after}
use Rattle.placement.specs.Cases.{outcome, expected_of, case_a}
use Rattle.plan_text.specs.Decimal.{decimal}
use Rattle.plan_text.specs.Text.{text_of}
use Rattle.plan_text.specs.WriteCall.{write_call, space_after}
use Rattle.plan_text.specs.Examples.{case_a_text}
use Rattle.plan_terminal.specs.Terminal.{terminal_planning, terminal_tables_after}
use Rattle.plan_terminal.specs.TerminalCases.{terminal_outcome, terminal_rows, office_rows}

-- Every row's outcome, the answer and all lent tables, is the one expected,
pub terminal_hold : map terminal_outcome terminal_rows ≡ map expected_of terminal_rows
unfolding terminal_planning terminal_tables_after
terminal_hold = refl

-- and in the office too, where the limits are others.
pub office_hold : map outcome office_rows ≡ map expected_of office_rows
unfolding planning tables_after
office_hold = refl

-- Case A on the terminal has its text.
pub text_holds :
    text_of (plan_held case_a.asked.rack (terminal_tables_after case_a.asked case_a.lent) (terminal_planning case_a.asked case_a.lent).values.left)
    ≡ case_a_text
unfolding terminal_planning terminal_tables_after text_of decimal
text_holds = refl

-- Written to a space with one byte more, the bytes of the text stand in front.
pub bytes_hold :
    space_after
    (write_call case_a.asked.rack (terminal_tables_after case_a.asked case_a.lent) (terminal_planning case_a.asked case_a.lent).values.left)
    (replicate (suc (length case_a_text)) 7)
    ≡ case_a_text ++ (7 ∷ [])
unfolding terminal_planning terminal_tables_after space_after text_of decimal
bytes_hold = refl
