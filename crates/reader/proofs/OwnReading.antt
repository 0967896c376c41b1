-- A text read into a list of disks and tables of an operation's own: it is refused as judging refuses it, or they hold its plan.
use mathlib.Core.Path.{◌≡◌, refl, sym, ap, ap₂, ◌∙◌}
use mathlib.Core.Bool.{true}
use mathlib.Core.List.{List}
use Prim.Native.Nat.{ℕ, ◌≤◌}
use native.Mathlib.Omega.{arith}
use lib.ListN.{length, take}
use Rattle.refusal.specs.Verdict.{Verdict, given, refused, Numbers}
use Rattle.refusal.specs.Numbers.{number_of, second_of}
use Rattle.refusal.specs.declared.Refusal.{Refusal}
use Rattle.refusal.proofs.Refusals.{number_some}
use Rattle.placement.specs.Rack.{Disk, most_disks}
use Rattle.placement.specs.Tables.{Tables, own_tables}
use Rattle.placement.specs.Plan.{Plan, well_formed}
use Rattle.placement.specs.Held.{marked_from, plan_held}
use Rattle.placement.proofs.Conjunctions.{both_true}
use Rattle.placement.proofs.Racks.{accepted_disks}
use Rattle.placement.proofs.Formed.{plan_rack}
use Rattle.plan_text.specs.Held.{unused_zero_from}
use Rattle.plan_text.specs.ReadCall.{Told, told_nothing, answer_to, text_verdict, judging}
use Rattle.plan_text.proofs.OwnTables.{own_reading, own_rack, own_held, own_well_formed}
use Rattle.plan_text.proofs.Verdicts.{verdict_well_formed, verdict_eight}
use Rattle.reader.specs.Promise.{ReadPromise}

-- A verdict by its numbers.
verdict_refused : (w : Verdict Plan) (n s : ℕ) → 1 ≤ n → answer_to w ≡ record { refusal = n; second = s; values = told_nothing } → w ≡ refused n s
verdict_refused (given p) n s some e = let none : 0 ≡ n = ap (λ (a : Numbers Told). a.refusal) e in absurd (omega arith)
verdict_refused (refused m r) n s some e = ap₂ (λ (a b : ℕ). refused a b) (ap (λ (a : Numbers Told). a.refusal) e) (ap (λ (a : Numbers Told). a.second) e)

-- A text, read into a list of at least 64 disks and tables of zeros.
module _ (text : List ℕ) (lent : List Disk) (enough : most_disks ≤ length lent) {rack_exit : List Disk} {exit : Tables} {answer : Numbers Told}
    (promise : ReadPromise text lent own_tables rack_exit exit answer) where
  judged : answer ≡ answer_to (text_verdict text)
  unfolding judging
  judged = promise.numbers ∙ own_reading text lent enough

  -- It is refused.
  pub read_refused : (r : Refusal) → answer ≡ record { refusal = number_of r; second = second_of r; values = told_nothing } → text_verdict text ≡ refused (number_of r) (second_of r)
  read_refused r is = verdict_refused (text_verdict text) (number_of r) (second_of r) (number_some r) (sym judged ∙ is)

  -- Or it is the text of a plan with the disks told.
  pub read_given :
      (values : Told) → answer ≡ record { refusal = 0; second = 0; values = values }
      → (p : Plan) × (text_verdict text ≡ given p) × (values.disks ≡ length p.rack)
  read_given values is = go (text_verdict text) refl (sym judged ∙ is)
    where
      go : (w : Verdict Plan) → text_verdict text ≡ w → answer_to w ≡ record { refusal = 0; second = 0; values = values }
          → (p : Plan) × (text_verdict text ≡ given p) × (values.disks ≡ length p.rack)
      go (given p) e a = (p, e, sym (ap (λ (x : Numbers Told). x.values.disks) a))
      go (refused n s) e a =
          let none : n ≡ 0 = ap (λ (x : Numbers Told). x.refusal) a in
          let eight : n ≡ 8 = (verdict_eight text n s e (λ nine. omega arith)).0 in
          absurd (omega arith)

  module _ (p : Plan) (e : text_verdict text ≡ given p) where
    -- It is well formed,
    pub formed_read : well_formed p ≡ true
    formed_read = verdict_well_formed text p e

    -- has at most 64 disks,
    pub rack_few : length p.rack ≤ most_disks
    rack_few = (accepted_disks p.rack (plan_rack p formed_read)).1

    -- the list begins with its rack,
    pub rack_read_lem : take (length p.rack) rack_exit ≡ p.rack
    rack_read_lem = ap (take (length p.rack)) promise.rack ∙ own_rack text lent enough p e

    -- the tables hold its copies,
    pub copies_read : marked_from p.rack exit.copies exit.counts ≡ p.copies
    copies_read =
        ap (λ (t : Tables). (plan_held p.rack t (length p.left)).copies) promise.tables
        ∙ ap (λ (q : Plan). q.copies) (own_held text lent enough p e)

    -- and have zero entries behind them.
    pub unused_read : unused_zero_from p.rack exit.copies exit.counts ≡ true
    unused_read =
        ap (λ (t : Tables). unused_zero_from p.rack t.copies t.counts) promise.tables
        ∙ (both_true _ _ (own_well_formed text lent enough p e)).0
