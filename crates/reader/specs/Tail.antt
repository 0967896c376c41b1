-- What the left line, the served line and the end of the text are, where the left films stand at the front of a slice.
use Rattle.std.specs.Prelude.{ℕ, ◌≡◌, List, [], Result, IfOk, IfErr}
use Rattle.placement.specs.Items.{total}
use Rattle.placement.specs.Held.{front}
use Rattle.plan_text.specs.Reading.{Reading, whole, Tail, read_left}
use Rattle.plan_text.specs.Capped.{saturated}
use Rattle.refusal.specs.declared.Refusal.{Refusal}
use Rattle.reader.specs.declared.line.PairsLine.{PairsLine}
use Rattle.reader.specs.Cursor.{RefusedAt}
use Rattle.reader.specs.Pairs.{Stored}

-- What a text says behind the disks, which serve s.
abbrev pub tail_at : List ℕ → ℕ → Reading Tail
tail_at text s = read_left saturated s text

-- The left line fits, and what stands behind it.
pub record TailFit (text : List ℕ) (s : ℕ) (left left' : List ℕ) (l : PairsLine) : Type 0 where
  pub stored : Stored l.count left left'
  pub sum : l.sum ≡ total (front l.count left')
  pub reads : tail_at text s ≡ whole (record { copies = []; left = front l.count left' })

-- The lines fit and end the text, or one of them is refused.
pub record TailRead (first : ℕ) (text : List ℕ) (s : ℕ) (left left' : List ℕ) (r : Result PairsLine Refusal) : Type 0 where
  pub fit : IfOk r (λ l. TailFit text s left left' l)
  pub stopped : IfErr r (λ e. RefusedAt first (tail_at text s) e)
