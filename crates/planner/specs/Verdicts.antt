-- Planning's verdict by the lengths of the lent tables.
use Rattle.std.specs.Prelude.{ℕ, ◌≡◌, length, Result}
use Rattle.refusal.specs.Numbers.{verdict_of}
use Rattle.refusal.specs.declared.Refusal.{Refusal}
use Rattle.placement.specs.Tables.{Tables}
use Rattle.placement.specs.Planning.{Call, verdict}

-- The judgement is the verdict on the call, whatever the tables of these lengths hold.
abbrev pub Judges : Call → (copies counts left : ℕ) → Result (Unit {0}) Refusal → Type 0
Judges c copies counts left r =
    (t : Tables) → length t.copies ≡ copies → length t.counts ≡ counts → length t.left ≡ left → verdict_of r ≡ verdict c t
