-- What reading promises, in numbers and lists.
use Rattle.std.specs.Prelude.{ℕ, ◌≤◌, ◌≡◌, true, List, ◌⊎◌, take}
use Rattle.refusal.specs.Verdict.{Numbers}
use Rattle.placement.specs.Rack.{Disk}
use Rattle.placement.specs.Tables.{Tables}
use Rattle.placement.specs.Plan.{Plan, well_formed}
use Rattle.placement.specs.Held.{plan_held}
use Rattle.plan_text.specs.Text.{text_of}
use Rattle.plan_text.specs.Accepted.{Accepted, RefusedLine}
use Rattle.plan_text.specs.ReadCall.{Told, told_of, judging, reading, rack_after_reading, tables_after_reading}

-- A well-formed plan has this text, and these are its numbers.
pub record PlanOf (text : List ℕ) (values : Told) : Type 0 where
  pub plan : Plan
  pub formed : well_formed plan ≡ true
  pub same : text_of plan ≡ text
  pub told : values ≡ told_of plan

-- The answer for a text with nothing lent.
pub record JudgePromise (text : List ℕ) (answer : Numbers Told) : Type 0 where
  -- The numbers are those of the definition.
  pub numbers : answer ≡ judging text
  -- "The first line that no accepted text has after the lines before it."
  pub refused_line : answer.refusal ≡ 9 → RefusedLine text answer.second
  -- Where there is no refusal, the text is that of a well-formed plan, with these numbers.
  pub planned : answer.refusal ≡ 0 → PlanOf text answer.values
  -- No accepted text is refused.
  pub accepted : Accepted text → answer.refusal ≡ 0

-- The plan of the text is the one that the list's first entries and the tables hold.
pub record PlanStored (text : List ℕ) (rack : List Disk) (exit : Tables) (values : Told) : Type 0 where
  pub of : PlanOf text values
  pub held : plan_held (take values.disks rack) exit values.left ≡ of.plan

-- The answer for a text, a lent list of entries and lent tables, and the list and the tables afterwards.
pub record ReadPromise (text : List ℕ) (lent : List Disk) (entry : Tables) (rack_exit : List Disk) (exit : Tables) (answer : Numbers Told)
    : Type 0 where
  -- The numbers, the list and the tables are those of the definitions.
  pub numbers : answer ≡ reading text lent entry
  pub rack : rack_exit ≡ rack_after_reading text lent entry
  pub tables : exit ≡ tables_after_reading text lent entry
  -- A refusal changes neither the list nor any table.
  pub unchanged : 1 ≤ answer.refusal → (rack_exit ≡ lent) × (exit ≡ entry)
  -- "The first line that no accepted text has after the lines before it."
  pub refused_line : answer.refusal ≡ 9 → RefusedLine text answer.second
  -- Where there is no refusal, the text is that of a well-formed plan, with these numbers, and the list and the tables hold it.
  pub planned : answer.refusal ≡ 0 → PlanStored text rack_exit exit answer.values
  -- An accepted text is refused by 7 only.
  pub accepted : Accepted text → (answer.refusal ≡ 0) ⊎ (answer.refusal ≡ 7)
