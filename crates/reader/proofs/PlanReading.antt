-- What a whole text says, by what its lines are.
use mathlib.Core.Path.{◌≡◌, refl, sym, ap, ap₂, subst, ◌∙◌}
use mathlib.Core.Bool.{true}
use mathlib.Core.List.{List, map, append-nil}
use Prim.Native.Nat.{ℕ, suc, ◌+◌}
use native.Mathlib.Omega.{arith}
use Rattle.std.specs.Prelude.{Result, Some, None, Ok, Err}
use lib.ListN.{length, take, length-map}
use lib.Seq.{length-take-le}
use Rattle.refusal.specs.Verdict.{given}
use Rattle.refusal.specs.declared.Refusal.TheVariants.{Line}
use Rattle.placement.specs.Items.{Item}
use Rattle.placement.specs.Copies.{Copy, copy_of}
use Rattle.placement.specs.Rack.{Disk, rack_accepted}
use Rattle.placement.specs.Tables.{Tables, tables, places, written}
use Rattle.placement.specs.Plan.{Plan, served_of, unserved_of}
use Rattle.placement.specs.Held.{front}
use Rattle.placement.specs.Packed.{disks_in}
use Rattle.placement.proofs.PackedRacks.{disks_length}
use Rattle.placement.proofs.MarkedCopies.{copied_served, copied_halves}
use Rattle.placement.proofs.ReadBack.{front_length}
use Rattle.plan_text.specs.Parse.{Parse}
use Rattle.plan_text.specs.Reading.{Reading, Tail, line_then, joined, with_rack, read_disks, plan_read}
use Rattle.plan_text.specs.Capped.{saturated}
use Rattle.plan_text.specs.ReadCall.{Told, told, told_of, lines_judged, answer_to, holding_plan}
use Rattle.plan_text.proofs.Numbers.{saturated_faithful}
use Rattle.plan_text.proofs.FirstLine.{first_line_lem}
use Rattle.reader.specs.declared.line.PairsLine.{PairsLine}
use Rattle.refusal.specs.declared.Refusal.{Refusal}
use Rattle.reader.specs.declared.answer.PlanRead.{PlanRead}
use Rattle.reader.specs.First.{FirstRead}
use Rattle.reader.specs.Disks.{DisksFit, DisksRead, prefixed, disks_at}
use Rattle.reader.specs.Tail.{TailRead, tail_at}
use Rattle.reader.specs.Pass.{Judged}
use Rattle.reader.proofs.PlanParts.{stored_written}
use Rattle.reader.proofs.PackedDisks.{take_disks}
use Rattle.reader.proofs.Judgements.{refused_at_lem, capped}

-- The first line is refused.
pub plan_no_rack :
    {text start packed rest : List ℕ} {disks : List Disk} {entry exit : Tables}
    → start ≡ text → FirstRead start rest packed None → Judged (lines_judged (plan_read text)) disks entry exit (Err (Line 1))
plan_no_rack {text} {start} {packed} {rest} {disks} {entry} {exit} begins read =
    let first_is : FirstRead text rest packed None = subst (λ (t : List ℕ). FirstRead t rest packed None) begins read in
    refused_at_lem text disks entry exit 0 1
    (sym (capped text) ∙ ap (λ (p : Parse (List Disk)). line_then with_rack p (λ r. read_disks saturated r 1 0)) (sym first_is.reads)) refl

module _ {text start packed rest : List ℕ} {n : ℕ} (begins : start ≡ text) (read : FirstRead start rest packed (Some n)) where
  first_is : FirstRead text rest packed (Some n)
  first_is = subst (λ (t : List ℕ). FirstRead t rest packed (Some n)) begins read

  -- The rack that the first line says.
  abbrev rack : List Disk
  rack = disks_in (take n packed)

  rack_count : length rack ≡ n
  rack_count = disks_length (take n packed) ∙ length-take-le n packed first_is.few

  pub rack_accepted_lem : rack_accepted rack ≡ true
  rack_accepted_lem = (first_line_lem saturated_faithful).passes text rack rest (sym first_is.reads)

  rack_read_lem : plan_read text ≡ joined (with_rack rack) (disks_at rest rack)
  rack_read_lem = sym (capped text) ∙ ap (λ (p : Parse (List Disk)). line_then with_rack p (λ r. read_disks saturated r 1 0)) (sym first_is.reads)

  module _ {copies counts copies' counts' after : List ℕ} where
    -- A disk line is refused.
    pub plan_no_disk :
        {e : Refusal} {disks : List Disk} {entry exit : Tables}
        → DisksRead rest after rack copies counts copies' counts' (Err e)
        → Judged (lines_judged (plan_read text)) disks entry exit (Err e)
    plan_no_disk {e} {disks} {entry} {exit} found =
        let s = found.stopped in
        rw s.named
        (refused_at_lem text disks entry exit (suc s.fit) (2 + s.fit)
        (rack_read_lem ∙ ap (joined (with_rack rack)) s.reads) (omega arith))

    module _ {sum : ℕ} (disks_fit : DisksRead rest after rack copies counts copies' counts' (Ok sum)) where
      fit : DisksFit rest after rack copies counts copies' counts' sum
      fit = disks_fit.fit

      -- The copies of the disks.
      abbrev found_copies : List (List Copy)
      found_copies = map (map copy_of) fit.layout

      -- What the text says behind its disks, before what it says to the end.
      abbrev behind : Reading Tail → Reading Plan
      behind x = joined (with_rack rack) (prefixed found_copies x)

      disks_read : plan_read text ≡ behind (tail_at after sum)
      disks_read = rack_read_lem ∙ ap (joined (with_rack rack)) fit.reads

      -- A line behind the disks is refused.
      pub plan_no_tail :
          {left left' : List ℕ} {e : Refusal} {disks : List Disk} {entry exit : Tables}
          → TailRead (n + 2) after sum left left' (Err e)
          → Judged (lines_judged (plan_read text)) disks entry exit (Err e)
      plan_no_tail {left} {left'} {e} {disks} {entry} {exit} found =
          let s = found.stopped in
          rw s.named
          (refused_at_lem text disks entry exit (suc (length found_copies + s.fit)) (n + 2 + s.fit)
          (disks_read ∙ ap behind s.reads)
          (omega (arith, length-map fit.layout (map copy_of), fit.filled.number, rack_count)))

      -- All lines fit: the plan of the text, with the pairs that the tables hold.
      module _ {left left' : List ℕ} {tail : PairsLine} (tail_read : TailRead (n + 2) after sum left left' (Ok tail)) (wide : length left' ≡ length left) where
        abbrev xs : List Item
        xs = front tail.count left'

        abbrev plan : Plan
        plan = with_rack rack (record { copies = found_copies; left = xs })

        abbrev answer : Result PlanRead Refusal
        answer = Ok (record { disks = n; served = sum; unserved = tail.sum; left = tail.count })

        left_count : length xs ≡ tail.count
        left_count = front_length tail.count left' (omega (arith, tail_read.fit.stored.few))

        said : told n sum tail.sum tail.count ≡ told_of plan
        said =
            ap₂ (λ (s u : ℕ). told n s u tail.count) (fit.sum_is ∙ sym (copied_served fit.layout)) tail_read.fit.sum
            ∙ ap₂ (λ (a m : ℕ). told a (served_of plan) (unserved_of plan) m) (sym rack_count) (sym left_count)

        whole_read : lines_judged (plan_read text) ≡ given plan
        whole_read =
            ap lines_judged (disks_read ∙ ap behind tail_read.fit.reads)
            ∙ ap (λ (l : List (List Copy)). given (with_rack rack (record { copies = l; left = xs }))) (append-nil found_copies)

        held : tables copies' counts' left' ≡ holding_plan plan (tables copies counts left)
        held =
            ap₂ (λ (a b : List ℕ). tables a b left') fit.filled.in_copies fit.filled.in_counts
            ∙ ap (λ (l : List (List Item)). tables (written (places rack l) copies) (written (map length l) counts) left') (sym (copied_halves fit.layout))
            ∙ ap (tables _ _) (stored_written tail.count left left' tail_read.fit.stored wide)

        pub plan_fits :
            Judged (lines_judged (plan_read text)) (disks_in packed) (tables copies counts left) (tables copies' counts' left') answer
        plan_fits = record {
          numbers = ap (λ (t : Told). record { refusal = 0; second = 0; values = t }) said ∙ sym (ap answer_to whole_read);
          rack = λ p f.
              let same : plan ≡ p = cc whole_read in
              ap (λ (q : Plan). take (length q.rack) (disks_in packed)) (sym same)
              ∙ ap (λ (m : ℕ). take m (disks_in packed)) rack_count
              ∙ sym (take_disks n packed)
              ∙ ap (λ (q : Plan). q.rack) same;
          tables = λ p f.
              held
              ∙ ap (λ (q : Plan). holding_plan q (tables copies counts left)) (let same : plan ≡ p = cc whole_read in same);
        }
