-- Lines of pairs or copies: head, pairs, line feed, test and sum.
use mathlib.Core.Path.{◌≡◌, refl, sym, ap, ◌∙◌}
use mathlib.Core.Bool.{Bool}
use mathlib.Core.List.{List, map}
use Prim.Native.Nat.{ℕ, ◌≤◌}
use native.Mathlib.Omega.{arith}
use lib.ListN.{length, take, length-take, length-map}
use Rattle.std.specs.Prelude.{Option, Some, None, IfSome, option_map}
use Rattle.placement.specs.Items.{Item}
use Rattle.placement.specs.Copies.{Copy, copy_of}
use Rattle.placement.specs.Rack.{Disk}
use Rattle.placement.specs.Tables.{item_in}
use Rattle.placement.specs.Plan.{copies_accepted}
use Rattle.placement.specs.Held.{front}
use Rattle.plan_text.specs.Ascii.{ascii}
use Rattle.plan_text.specs.Decimal.{decimal}
use Rattle.plan_text.specs.Text.{disk_head}
use Rattle.plan_text.specs.Parse.{Parse, parsed, next, literal, pair, pairs, copies, spaced_read}
use Rattle.plan_text.specs.Reading.{line, pairs_body, copies_body}
use Rattle.plan_text.specs.Capped.{saturated}
use Rattle.well_formed.specs.Sum.{Summed}
use Rattle.reader.specs.declared.line.PairsLine.{PairsLine}
use Rattle.reader.specs.Cursor.{parse_of, parse_by}
use Rattle.reader.specs.Pairs.{halves_read, Stored, PairsRead}
use Rattle.reader.specs.Line.{line_end, LineHeld, LineRead, DiskRead}
use Rattle.reader.proofs.Pieces.{next_assoc, next_same, literal_append}
use Rattle.reader.proofs.Lines.{line_parts, line_end_passed}
use Rattle.reader.proofs.CopyLists.{halves_copies}

module _ (number : ℕ) (d : Disk) (n : ℕ) where
  -- The end of the line behind its copies, which were read as halves.
  abbrev pub disk_end : List Item → List ℕ → Parse (List Copy)
  disk_end xs t = next (line_end (copies_accepted d (map copy_of xs)) t) (λ u r. parsed (map copy_of xs) r)

  -- The line, piece by piece.
  abbrev pub disk_pieces : List ℕ → Parse (List Copy)
  disk_pieces t =
      next (literal (ascii "(disk ") t) (λ u₁ t₁.
      next (literal (decimal number) t₁) (λ u₂ t₂.
      next (spaced_read halves_read n t₂) (λ xs t₃. disk_end xs t₃)))

  -- Copies as the halves that were read.
  abbrev copy_end_of : List Copy → List ℕ → Parse (List Copy)
  copy_end_of cs s = next (line_end (copies_accepted d cs) s) (λ u r. parsed cs r)

  pub disk_parts : (t : List ℕ) → disk_pieces t ≡ line (copies_body saturated (disk_head number) n) (copies_accepted d) t
  disk_parts t =
      sym
      (line_parts (copies_body saturated (disk_head number) n) (copies_accepted d) t
      ∙ next_assoc (literal (disk_head number) t) (λ u s. copies saturated n s) copy_end_of
      ∙ ap (λ (p : Parse (Unit {0})). next p (λ u s. next (copies saturated n s) copy_end_of)) (literal_append (ascii "(disk ") (decimal number) t)
      ∙ next_assoc (literal (ascii "(disk ") t) (λ u s. literal (decimal number) s) (λ u s. next (copies saturated n s) copy_end_of)
      ∙ next_same (literal (ascii "(disk ") t) _ _ (λ u₁ t₁.
      next_same (literal (decimal number) t₁) _ _ (λ u₂ t₂.
      ap (λ (p : Parse (List Copy)). next p copy_end_of) (sym (halves_copies n t₂))
      ∙ next_assoc (spaced_read halves_read n t₂) (λ xs r. parsed (map copy_of xs) r) copy_end_of)))

  -- The copies and the end, behind the head as one piece.
  abbrev listed : List ℕ → Parse (List Copy)
  listed t = next (spaced_read halves_read n t) (λ xs s. disk_end xs s)

  copies_said : (t : List ℕ) → next (literal (disk_head number) t) (λ u s. listed s) ≡ line (copies_body saturated (disk_head number) n) (copies_accepted d) t
  copies_said t =
      ap (λ (p : Parse (Unit {0})). next p (λ u s. listed s)) (literal_append (ascii "(disk ") (decimal number) t)
      ∙ next_assoc (literal (ascii "(disk ") t) (λ u s. literal (decimal number) s) (λ u s. listed s)
      ∙ disk_parts t

-- A line of pairs, piece by piece.
abbrev pub pairs_pieces : List ℕ → (List Item → Bool) → ℕ → List ℕ → Parse (List Item)
pairs_pieces head test n t =
    next (literal head t) (λ u₁ t₁.
    next (pairs saturated n t₁) (λ xs t₂.
    next (line_end (test xs) t₂) (λ u₂ r. parsed xs r)))

-- A line of pairs: head, pairs, line feed and test.
pub pairs_said :
    (head : List ℕ) (test : List Item → Bool) (n : ℕ) (t : List ℕ) → pairs_pieces head test n t ≡ line (pairs_body saturated head n) test t
pairs_said head test n t =
    sym
    (line_parts (pairs_body saturated head n) test t
    ∙ next_assoc (literal head t) (λ u s. pairs saturated n s) (λ xs s. next (line_end (test xs) s) (λ u r. parsed xs r)))

-- How many pairs a line has, and their sum, where the line ends.
abbrev pub line_of : (count sum : ℕ) → Option (Unit {0}) → Option PairsLine
line_of count sum end = option_map (λ u. record { count = count; sum = sum }) end

-- A line whose pairs were read, n of which stand in front: its line feed and its test.
module _ (entries entries' here rest : List ℕ) (n sum : ℕ) (accepted : Bool) (end : Option (Unit {0})) (test : List Item → Bool)
    (tested : accepted ≡ test (front n entries')) (ended : parse_of end rest ≡ line_end accepted here) where
  -- The line is read.
  line_said :
      {A : Type 0} (f : List Item → A)
      → parse_by (λ (l : PairsLine). f (front l.count entries')) (line_of n sum end) rest
      ≡ next (line_end (test (front n entries')) here) (λ u r. parsed (f (front n entries')) r)
  line_said {A} f =
      go end
      ∙ ap (λ (q : Parse (Unit {0})). next q (λ u r. parsed (f (front n entries')) r)) (ended ∙ ap (λ (b : Bool). line_end b here) tested)
    where
      go :
          (o : Option (Unit {0}))
          → parse_by (λ (l : PairsLine). f (front l.count entries')) (line_of n sum o) rest
          ≡ next (parse_of o rest) (λ u r. parsed (f (front n entries')) r)
      go (Some u) = refl
      go None = refl

  -- What ends passed the test.
  line_held :
      Stored n entries entries' → Summed (front n entries') sum → length entries' ≤ 4294967296
      → IfSome (line_of n sum end) (λ l. LineHeld test entries entries' l)
  line_held stored summed few = go end ended
    where
      go : (o : Option (Unit {0})) → parse_of o rest ≡ line_end accepted here → IfSome (line_of n sum o) (λ l. LineHeld test entries entries' l)
      go (Some u) e = record {
        stored = stored;
        summed = summed.plain (omega (arith, few, length-map (take n entries') item_in, length-take n entries'));
        passed = sym tested ∙ line_end_passed accepted here rest (sym e);
      }
      go None e = tt

  -- A line of pairs with its sum.
  pub pairs_line :
      (head : List ℕ) {text headed : List ℕ} → literal head text ≡ parsed tt headed → PairsRead (pair saturated) headed here entries entries' (Some n)
      → Summed (front n entries') sum → length entries' ≤ 4294967296 → LineRead head test text rest entries entries' (line_of n sum end)
  pairs_line head {text} headed_is read summed few = record {
    reads =
        line_said (λ xs. xs)
        ∙ ap (λ (p : Parse (List Item)). next p (λ xs s. next (line_end (test xs) s) (λ u r. parsed xs r))) read.reads
        ∙ ap (λ (p : Parse (Unit {0})). next p (λ u t. next (pairs saturated (length entries) t) (λ xs s. next (line_end (test xs) s) (λ v r. parsed xs r)))) (sym headed_is)
        ∙ pairs_said head test (length entries) text;
    held = line_held read.stored summed few;
  }

-- A disk's line with its sum.
pub copies_line :
    (entries entries' here rest : List ℕ) (n sum : ℕ) (accepted : Bool) (end : Option (Unit {0})) (number : ℕ) (d : Disk)
    → accepted ≡ copies_accepted d (map copy_of (front n entries')) → parse_of end rest ≡ line_end accepted here
    → {text headed : List ℕ} → literal (disk_head number) text ≡ parsed tt headed → PairsRead halves_read headed here entries entries' (Some n)
    → Summed (front n entries') sum → length entries' ≤ 4294967296 → DiskRead number d text rest entries entries' (line_of n sum end)
copies_line entries entries' here rest n sum accepted end number d tested ended {text} headed_is read summed few =
    let test : List Item → Bool = λ xs. copies_accepted d (map copy_of xs) in
    record {
      reads =
          line_said entries entries' here rest n sum accepted end test tested ended (map copy_of)
          ∙ ap (λ (p : Parse (List Item)). next p (λ xs s. disk_end number d (length entries) xs s)) read.reads
          ∙ ap (λ (p : Parse (Unit {0})). next p (λ u t. listed number d (length entries) t)) (sym headed_is)
          ∙ copies_said number d (length entries) text;
      held = line_held entries entries' here rest n sum accepted end test tested ended read.stored summed few;
    }
