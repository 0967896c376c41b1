-- What the program makes of 12 bytes of zeros of which 11 are kept: the line of refusal 2 stands at the front.
use mathlib.Core.Path.{◌≡◌, refl, sym, ap, subst}
use mathlib.Core.List.{List, [], map}
use Prim.Native.Nat.{ℕ}
use native.Mathlib.Omega.{arith}
use lib.IntN.{pos, negsuc}
use lib.ListN.{length, take, get_or, replicate}
use Rattle.plan_output.specs.Output.{output_of}
use Rattle.plan_output.specs.OutputExamples.{Printing, printings}
use Rattle.plan_output.proofs.OutputExamplesHold.{printings_hold}
use Rattle.plan.specs.RunPromise.{RunPromise}
use Rattle.plan.proofs.OneReads.{torn}
use Rattle.plan.proofs.ReadingExamplesHold.{settled_end, settled_not}

abbrev zeros : List ℕ
zeros = replicate 12 0

-- What the table of inputs has for 11 zeros, row 5 from 0, and for 12 zeros, row 6.
abbrev prints_at : ℕ → List ℕ
prints_at row = get_or (map (λ (p : Printing). p.prints) printings) row []

prints_eleven : output_of (take 11 zeros) ≡ prints_at 5
prints_eleven = ap (λ (texts : List (List ℕ)). get_or texts 5 []) printings_hold

prints_twelve : output_of (take 12 zeros) ≡ prints_at 6
prints_twelve = ap (λ (texts : List (List ℕ)). get_or texts 6 []) printings_hold

-- The end was seen: the output of 11 bytes.
pub run_printed : RunPromise zeros 11 (pos 0) 7 [] (prints_at 5)
run_printed = record {
  printed = λ _. subst (λ (text : List ℕ). take (length text) (prints_at 5) ≡ text) (sym prints_eleven) refl;
  silent = λ unseen. torn refl unseen;
  settled = settled_end;
  within = omega arith;
}

-- It is not that of 12 bytes, and not nothing.
pub run_not_other : ¬ RunPromise zeros 12 (pos 0) 7 [] (prints_at 5)
run_not_other ran =
    let same = subst (λ (text : List ℕ). take (length text) (prints_at 5) ≡ text) prints_twelve (ran.printed refl) in
    omega (arith, ap (λ (text : List ℕ). get_or text 9 0) same)

pub run_not_empty : ¬ RunPromise zeros 11 (pos 0) 7 [] []
run_not_empty ran =
    omega (arith, ap length (subst (λ (text : List ℕ). take (length text) [] ≡ text) prints_eleven (ran.printed refl)))

-- A failed read: nothing is worked out.
pub run_silent : RunPromise zeros 11 (negsuc 0) 7 [] []
run_silent = record { printed = λ seen. torn seen refl; silent = λ _. refl; settled = λ more. torn more refl; within = omega arith }

pub run_not_silent : ¬ RunPromise zeros 11 (negsuc 0) 7 zeros (prints_at 5)
run_not_silent ran = omega (arith, ap (λ (text : List ℕ). get_or text 0 0) (ran.silent refl))

-- The turns are used up: nothing is worked out either.
pub run_not_given_up : ¬ RunPromise zeros 11 (pos 5) 0 zeros (prints_at 5)
run_not_given_up ran = omega (arith, ap (λ (text : List ℕ). get_or text 0 0) (ran.silent refl))

-- Nothing was counted: no promise.
pub run_not_counted : ¬ RunPromise zeros 8220 (pos 0) 7 [] (prints_at 5)
run_not_counted ran = omega (arith, ran.within)

-- Bytes came last: it reads on.
pub run_not_over : ¬ RunPromise zeros 11 (pos 5) 1 [] []
run_not_over ran = settled_not ran.settled
