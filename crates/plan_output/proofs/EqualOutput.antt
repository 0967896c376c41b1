-- What the program prints for N, k and L in range is what 01 has for N equal disks: the text of their plan, or the line of 2, 3 or a record's
-- refusal. 12 and 13 are never printed.
use mathlib.Core.Path.{◌≡◌, refl, ap, ◌∙◌}
use mathlib.Core.Bool.{true}
use mathlib.Core.List.{List}
use Prim.Native.Nat.{ℕ, ◌≤◌}
use lib.ListN.{length, drop}
use Rattle.refusal.specs.Verdict.{Verdict, given, refused}
use Rattle.placement.specs.Rack.{rack_of}
use Rattle.placement.specs.Records.{number32, record_count, shape_judged, records_judged}
use Rattle.placement.specs.Tables.{own_tables}
use Rattle.placement.specs.Planning.{call, room_judged}
use Rattle.placement.specs.EqualPlan.{equal_plan}
use Rattle.placement.proofs.Racks.{rack_accepted_lem}
use Rattle.placement.proofs.Chains.{rack_passes}
use Rattle.placement.proofs.EqualPlan.{equal_plan_lem}
use Rattle.plan_text.specs.Text.{text_of}
use Rattle.plan_text.specs.RefusalLine.{refusal_text}
use Rattle.plan_output.specs.Input.{head_bytes, sizes_in, call_in}
use Rattle.plan_output.specs.Output.{printed, output_of}
use Rattle.plan_output.proofs.Inputs.{long_output}

-- The text of the plan of N equal disks, or the line of a refusal.
abbrev printed_equal : ℕ → ℕ → ℕ → List ℕ → Verdict (Unit {0}) → List ℕ
printed_equal n k l list (given u) = text_of (equal_plan n k l list)
printed_equal n k l list (refused number second) = refusal_text number second

-- 01's refusals behind 1.
abbrev behind_sizes : ℕ → ℕ → ℕ → List ℕ → Verdict (Unit {0})
behind_sizes n k l list = shape_judged list (room_judged (rack_of n k l) (record_count list) own_tables (records_judged list (given tt)))

printed_equal_lem : (n k l : ℕ) (list : List ℕ) (v : Verdict (Unit {0})) → printed (call (rack_of n k l) list) v ≡ printed_equal n k l list v
printed_equal_lem n k l list (given u) = ap text_of (equal_plan_lem k l n list)
printed_equal_lem n k l list (refused number second) = refl

pub equal_output :
    (input : List ℕ) → head_bytes ≤ length input → sizes_in input ≡ true
    → output_of input
    ≡ printed_equal (number32 input 0) (number32 input 4) (number32 input 8) (drop head_bytes input)
    (behind_sizes (number32 input 0) (number32 input 4) (number32 input 8) (drop head_bytes input))
equal_output input long inside =
    long_output input long inside
    ∙ ap (printed (call_in input)) (rack_passes (rack_of n k l) (behind_sizes n k l list) (rack_accepted_lem n k l ∙ inside))
    ∙ printed_equal_lem n k l list (behind_sizes n k l list)
  where
    n : ℕ
    n = number32 input 0

    k : ℕ
    k = number32 input 4

    l : ℕ
    l = number32 input 8

    list : List ℕ
    list = drop head_bytes input
