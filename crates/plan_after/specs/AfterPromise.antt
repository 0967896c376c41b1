-- What planning after an earlier plan promises to its caller, as one record: the contract of every entry that plans so.
use Rattle.std.specs.Prelude.{ℕ, ◌≤◌, ◌<◌, ◌≡◌, true, List, [], length, get_or}
use Rattle.refusal.specs.Verdict.{Numbers}
use Rattle.placement.specs.Copies.{Copy, copy, layout_of, mark_for}
use Rattle.placement.specs.Tables.{Tables}
use Rattle.placement.specs.Plan.{Plan, well_formed}
use Rattle.placement.specs.Held.{copies_held}
use Rattle.placement.specs.Planning.{Call, PlanSums, planning}
use Rattle.placement.specs.PlanPromise.{PlanPromise}
use Rattle.plan_text.specs.Text.{text_of}
use Rattle.plan_text.specs.Accepted.{Accepted, RefusedLine}
use Rattle.plan_after.specs.After.{planning_after, tables_after_earlier, without_marks}

-- The copies of disk d + 1, and the copy at place i of them.
abbrev pub on_disk : {A : Type 0} → List (List A) → ℕ → List A
on_disk layout d = get_or layout d []

abbrev pub copy_at : List (List Copy) → ℕ → ℕ → Copy
copy_at layout d i = get_or (on_disk layout d) i (copy 0 0 0)

-- A call with the bytes of an earlier text, the lent tables at entry and at exit, and the numbers of the answer.
pub record PlanAfterPromise (call : Call) (earlier : List ℕ) (entry exit : Tables) (answer : Numbers PlanSums) : Type 0 where
  -- the answer is what the definition gives, and so is every place of every lent table
  pub numbers : answer ≡ planning_after call earlier entry
  pub tables : exit ≡ tables_after_earlier call earlier entry
  -- a refusal changes no lent table
  pub unchanged : 1 ≤ answer.refusal → exit ≡ entry
  -- planning's refusals come first
  pub first : 1 ≤ (planning call entry).refusal → answer ≡ planning call entry
  -- behind them 9 names "the first line that no accepted text has after the lines before it", and 8 is a text of more than 65,536 bytes
  pub refused_line : (planning call entry).refusal ≡ 0 → answer.refusal ≡ 9 → RefusedLine earlier answer.second
  pub refused_length : (planning call entry).refusal ≡ 0 → 1 ≤ answer.refusal → (answer.refusal ≡ 9 → ⊥) → (answer.refusal ≡ 8) × (65536 < length earlier)
  -- with an earlier text that is accepted, the answer is that of planning without it
  pub accepted : Accepted earlier → answer ≡ planning call entry
  -- where there is a plan, it is without its marks all that planning without the earlier text promises: the method's, and demand 3
  pub planned : answer.refusal ≡ 0 → PlanPromise call entry (without_marks call.rack exit) answer
  -- and its copies, with their marks left out, are the same
  pub layout :
      answer.refusal ≡ 0 → layout_of (copies_held call.rack exit) ≡ layout_of (copies_held call.rack (without_marks call.rack exit))
  -- each copy is marked where the same disk held the same film in the earlier plan, and nowhere else
  pub marks :
      answer.refusal ≡ 0 → (p : Plan) → well_formed p ≡ true → text_of p ≡ earlier → (d i : ℕ)
      → i < length (on_disk (copies_held call.rack exit) d)
      → (copy_at (copies_held call.rack exit) d i).mark
      ≡ mark_for (on_disk (layout_of p.copies) d) (copy_at (copies_held call.rack exit) d i).film
