-- What a text says behind the disks, by what its left line, its served line and its end are.
use mathlib.Core.Path.{◌≡◌, refl, sym, ap, ◌∙◌}
use mathlib.Core.Bool.{true}
use mathlib.Core.List.{List, [], ◌∷◌}
use Prim.Native.Nat.{ℕ, ◌+◌, ◌<◌}
use native.Mathlib.Omega.{arith}
use lib.ListN.{length}
use Rattle.std.specs.Prelude.{Option, Some, None, Ok, Err}
use Rattle.refusal.specs.declared.Refusal.TheVariants.{Line}
use Rattle.placement.specs.Items.{Item, total}
use Rattle.placement.specs.Plan.{left_accepted, most_left}
use Rattle.placement.specs.Held.{front}
use Rattle.plan_text.specs.Text.{left_head, served_line}
use Rattle.plan_text.specs.Parse.{Parse, literal}
use Rattle.plan_text.specs.Reading.{Reading, refused_after, Tail, line, line_then, joined, pairs_body, text_end, read_served}
use Rattle.plan_text.specs.Capped.{saturated}
use Rattle.reader.specs.declared.line.PairsLine.{PairsLine}
use Rattle.reader.specs.Cursor.{parse_of, parse_by}
use Rattle.reader.specs.Line.{LineRead}
use Rattle.reader.specs.Tail.{TailRead, tail_at}

abbrev tail_of : List Item → Tail
tail_of xs = record { copies = []; left = xs }

-- The left line, then the rest.
abbrev behind_left : ℕ → Parse (List Item) → Reading Tail
behind_left s p = line_then (λ l u. tail_of l) p (λ l. read_served s (total l))

left_read :
    {text after left left' : List ℕ} (s : ℕ) {r : Option PairsLine}
    → LineRead left_head left_accepted text after left left' r → length left ≡ most_left
    → tail_at text s ≡ behind_left s (parse_by (λ l. front l.count left') r after)
left_read {text} s read places =
    sym (ap (behind_left s) (read.reads ∙ ap (λ (n : ℕ). line (pairs_body saturated left_head n) left_accepted text) places))

-- A line is refused, behind n others.
refused :
    {text left left' : List ℕ} (first s n : ℕ) → tail_at text s ≡ refused_after n → TailRead first text s left left' (Err (Line (first + n)))
refused first s n e = record { fit = tt; stopped = record { fit = n; named = refl; reads = e } }

-- The left line is refused.
pub tail_no_left :
    {text after left left' : List ℕ} (first s : ℕ)
    → LineRead left_head left_accepted text after left left' None → length left ≡ most_left → TailRead first text s left left' (Err (Line first))
tail_no_left first s read places =
    record { fit = tt; stopped = record { fit = 0; named = ap Line (omega arith); reads = left_read s read places } }

module _
    {text after left left' : List ℕ} (s : ℕ) {l : PairsLine}
    (read : LineRead left_head left_accepted text after left left' (Some l))
    (end : Option (Unit {0})) (rest : List ℕ)
    (served : parse_of end rest ≡ line (literal (served_line s l.sum)) (λ a. true) after)
  where
    -- The left films.
    abbrev xs : List Item
    xs = front l.count left'

    -- The served line of these films is what the step read.
    pub served_line_lem : line (literal (served_line s (total xs))) (λ a. true) after ≡ parse_of end rest
    served_line_lem =
        ap (λ (n : ℕ). line (literal (served_line s n)) (λ a. true) after) (sym read.held.summed) ∙ sym served

    -- The served line, then the end of the text.
    abbrev ending : Parse (Unit {0}) → Reading Tail
    ending p = joined (λ u. tail_of xs) (line_then (λ a b. tt {0}) p (λ a. text_end))

    module _ (first : ℕ) (places : length left ≡ most_left) where
      served_read : tail_at text s ≡ ending (parse_of end rest)
      served_read = left_read s read places ∙ ap ending served_line_lem

      -- The served line is refused.
      pub tail_no_served : end ≡ None → TailRead first text s left left' (Err (Line (first + 1)))
      tail_no_served e = refused first s 1 (served_read ∙ ap (λ (o : Option (Unit {0})). ending (parse_of o rest)) e)

      module _ (u : Unit {0}) (read_on : end ≡ Some u) where
        -- What the text says behind the served line.
        abbrev last : List ℕ → Reading Tail
        last t = joined (λ u. tail_of xs) (joined (λ b. tt {0}) (text_end t))

        last_read : tail_at text s ≡ last rest
        last_read = served_read ∙ ap (λ (o : Option (Unit {0})). ending (parse_of o rest)) read_on

        -- Bytes follow behind the last line.
        pub tail_no_end : 0 < length rest → TailRead first text s left left' (Err (Line (first + 2)))
        tail_no_end some = refused first s 2 (last_read ∙ go rest some)
          where
            go : (t : List ℕ) → 0 < length t → last t ≡ refused_after 2
            go [] h = absurd (omega arith)
            go (b ∷ bs) h = refl

        -- The text ends.
        pub tail_fits : rest ≡ [] → TailRead first text s left left' (Ok l)
        tail_fits none = record {
          fit = record { stored = read.held.stored; sum = read.held.summed; reads = last_read ∙ ap last none };
          stopped = tt;
        }
