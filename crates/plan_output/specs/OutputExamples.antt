-- Inputs of the program `plan` and what it prints, cases A and G of document 01 whole among them.
use Rattle.std.specs.Prelude.{ℕ, List, [], ◌∷◌, ◌++◌, replicate}
use Rattle.placement.specs.Items.{◌∶◌}
use Rattle.placement.specs.Cases.{bytes32, bytes_of, case_a, case_g, case_i}
use Rattle.plan_text.specs.Examples.{text_lines, case_a_text}

pub record Printing : Type 0 where
  pub input : List ℕ
  pub prints : List ℕ

abbrev printing : List ℕ → List ℕ → Printing
printing input prints = record { input = input; prints = prints }

-- N, k and L, then the records.
abbrev input_of : ℕ → ℕ → ℕ → List ℕ → List ℕ
input_of n k l list = bytes32 n ++ (bytes32 k ++ (bytes32 l ++ list))

abbrev pub printings : List Printing
printings =
    printing (input_of 3 4 6 case_a.asked.list) case_a_text
    ∷ printing (input_of 1 1 5 case_i.asked.list) (text_lines ("(refused 6 2)" ∷ []))
    ∷ printing (input_of 1 2 5 []) (text_lines ("(rack 1 2 5)" ∷ "(disk 1)" ∷ "(left)" ∷ "(served 0 0)" ∷ []))
    ∷ printing (input_of 1 33 5 []) (text_lines ("(refused 1)" ∷ []))
    ∷ printing (input_of 1 2 5 (7 ∷ [])) (text_lines ("(refused 2)" ∷ []))
    ∷ printing (replicate 11 0) (text_lines ("(refused 2)" ∷ []))
    ∷ printing (replicate 12 0) (text_lines ("(refused 1)" ∷ []))
    ∷ printing (input_of 1 4 9 case_g.asked.list)
    (text_lines ("(rack 1 4 9)" ∷ "(disk 1 (1 2) (2 3) (4 0))" ∷ "(left)" ∷ "(served 5 0)" ∷ []))
    ∷ printing (input_of 65 2 5 (7 ∷ [])) (text_lines ("(refused 1)" ∷ []))
    ∷ printing (input_of 1 2 0 []) (text_lines ("(refused 1)" ∷ []))
    ∷ printing (input_of 1 2 5 (bytes_of (49999 ∶ 4 ∷ [])))
    (text_lines ("(rack 1 2 5)" ∷ "(disk 1 (49999 4))" ∷ "(left)" ∷ "(served 4 0)" ∷ []))
    ∷ printing (input_of 1 2 5 (bytes_of (7 ∶ 1 ∷ 50000 ∶ 1 ∷ []))) (text_lines ("(refused 16 2)" ∷ []))
    ∷ []
