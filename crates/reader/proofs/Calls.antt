-- The whole call: the answer, the entries and the tables, by the judgement of the text and the room in what is lent.
use mathlib.Core.Path.{◌≡◌, refl, sym, ap, ap₂, ◌∙◌}
use mathlib.Core.Bool.{Bool, true, false, ◌&&◌}
use mathlib.Core.List.{List, ◌++◌}
use Prim.Native.Nat.{ℕ, ◌*◌, ◌≤◌}
use native.Mathlib.Omega.{arith}
use lib.Dec.{leb}
use lib.ListN.{length, take, drop, length-take}
use Rattle.refusal.specs.Verdict.{Verdict, given, refused, unless, Numbers}
use Rattle.refusal.specs.Numbers.{number_of}
use Rattle.refusal.specs.declared.Refusal.{Refusal}
use Rattle.refusal.specs.declared.Refusal.TheVariants.{TablesTooShort}
use Rattle.refusal.proofs.Verdicts.{unless_refuses}
use Rattle.placement.specs.Rack.{Disk, all_slots, most_disks, most_slots}
use Rattle.placement.specs.Packed.{disks_in}
use Rattle.placement.specs.Tables.{Tables, room_in, room_for, own_tables}
use Rattle.placement.specs.Plan.{Plan, most_left, well_formed}
use Rattle.placement.proofs.Conjunctions.{both_true}
use Rattle.placement.proofs.Racks.{accepted_disks, accepted_all_slots}
use Rattle.placement.proofs.PackedRacks.{disks_length}
use Rattle.placement.proofs.Formed.{plan_rack, plan_left, left_count}
use Rattle.placement.proofs.OwnTables.{own_room}
use Rattle.plan_text.specs.ReadCall.{Told, answer_to, text_verdict, with_tables}
use Rattle.plan_text.proofs.Verdicts.{verdict_well_formed}
use Rattle.reader.specs.declared.answer.PlanRead.{PlanRead}
use Rattle.std.specs.Prelude.{Ok, Err}
use Rattle.reader.specs.Answers.{numbers_of}
use Rattle.reader.specs.Pass.{Judged}
use Rattle.reader.specs.Stored.{front_copied, fronts_copied}
use Rattle.reader.specs.Promise.{ReadPromise}
use Rattle.refusal.proofs.Refusals.{number_some}
use Rattle.reader.proofs.Judgements.{text_numbered, found_plan}
use Rattle.reader.proofs.Copied.{copied}
use Rattle.reader.proofs.PackedDisks.{take_disks, over_disks}
use Rattle.reader.proofs.Promises.{read_given, read_short, read_declined}

-- A text that is refused changes nothing.
pub call_refused :
    (text : List ℕ) (lent : List Disk) (entry : Tables) (disks : List Disk) (work work' : Tables) (r : Refusal)
    → Judged (text_verdict text) disks work work' (Err r) → ReadPromise text lent entry lent entry (numbers_of (Err r))
call_refused text lent entry disks work work' r judged = go (text_verdict text) refl
  where
    go : (v : Verdict Plan) → text_verdict text ≡ v → ReadPromise text lent entry lent entry (numbers_of (Err r))
    go (given p) e =
        let z : number_of r ≡ 0 = ap (λ (n : Numbers Told). n.refusal) (judged.numbers ∙ ap answer_to e) in
        absurd (omega (arith, number_some r))
    go (refused n s) e = read_declined text n s e (numbers_of (Err r)) (judged.numbers ∙ ap answer_to e) lent entry

-- Two tests of one refusal, of which one fails.
both_unless : {A : Type 0} (a b : Bool) (following : Verdict A) → (a && b) ≡ false → unless a 7 0 (unless b 7 0 following) ≡ refused 7 0
both_unless true b following e = unless_refuses b 7 0 following e
both_unless false b following e = refl

-- A text with a plan, whose disks were packed to work with.
module _ (text packed : List ℕ) {work work' : Tables} {r : PlanRead}
    (judged : Judged (text_verdict text) (disks_in packed) work work' (Ok r)) where
  found : (p : Plan) × (text_verdict text ≡ given p)
  found = found_plan (text_verdict text) (text_numbered text) (sym (ap (λ (n : Numbers Told). n.refusal) judged.numbers))

  abbrev p : Plan
  p = found.0

  formed : well_formed p ≡ true
  formed = verdict_well_formed text p found.1

  numbers : numbers_of (Ok r) ≡ answer_to (given p)
  numbers = judged.numbers ∙ ap answer_to found.1

  -- The rack and the number of left films are the plan's.
  disks_same : r.disks ≡ length p.rack
  disks_same = ap (λ (n : Numbers Told). n.values.disks) numbers

  abbrev rack : List Disk
  rack = disks_in (take r.disks packed)

  rack_same : rack ≡ p.rack
  rack_same =
      take_disks r.disks packed ∙ ap (λ (n : ℕ). take n (disks_in packed)) disks_same ∙ judged.rack p found.1

  left_same : r.left ≡ length p.left
  left_same = ap (λ (n : Numbers Told). n.values.left) numbers

  room_same : (t : Tables) → room_for rack r.left t ≡ room_for p.rack (length p.left) t
  room_same t = ap₂ (λ (ds : List Disk) (n : ℕ). room_for ds n t) rack_same left_same

  -- They are few, among those that were packed, and their slots are those of an accepted rack.
  pub work_few : r.disks ≤ most_disks
  work_few = omega (arith, disks_same, (accepted_disks p.rack (plan_rack p formed)).1)

  pub work_among : r.disks ≤ length packed
  work_among =
      omega (arith, disks_same, ap length rack_same, disks_length (take r.disks packed), length-take r.disks packed)

  pub work_slots : all_slots rack ≤ most_disks * most_slots
  work_slots = omega (arith, ap all_slots rack_same, accepted_all_slots p.rack (plan_rack p formed))

  pub work_left : r.left ≤ most_left
  work_left = omega (arith, left_same, left_count p.left (plan_left p formed))

  -- The tables to work in have room.
  pub work_room :
      work ≡ own_tables → length work'.copies ≡ length work.copies → length work'.counts ≡ length work.counts
      → length work'.left ≡ length work.left → room_for rack r.left work' ≡ true
  work_room own a b c =
      ap₂ (λ (i j : ℕ). room_in rack r.left i j (length work'.left)) a b
      ∙ ap (λ (k : ℕ). room_in rack r.left (length work.copies) (length work.counts) k) c
      ∙ ap (room_for rack r.left) own
      ∙ room_same own_tables
      ∙ own_room p.rack (length p.left) (plan_rack p formed) (left_count p.left (plan_left p formed))

  -- The list of disks and the tables that are lent.
  module _ (lent : List ℕ) (entry : Tables) where
    abbrev Short : Type 0
    Short = ReadPromise text (disks_in lent) entry (disks_in lent) entry (numbers_of (Err TablesTooShort))

    short : with_tables (disks_in lent) entry (given p) ≡ refused 7 0 → Short
    short e =
        read_short text p found.1 (numbers_of (Ok r)) numbers (disks_in lent) entry (numbers_of (Err TablesTooShort))
        e refl

    -- What is lent has room for it.
    abbrev enough : Bool
    enough = leb r.disks (length lent) && room_for rack r.left entry

    fits_same : leb r.disks (length lent) ≡ leb (length p.rack) (length (disks_in lent))
    fits_same = ap₂ leb disks_same (sym (disks_length lent))

    -- It has not.
    pub call_short : enough ≡ false → Short
    call_short e =
        short
        (both_unless (leb (length p.rack) (length (disks_in lent))) (room_for p.rack (length p.left) entry) (given p)
        (sym (ap₂ ◌&&◌ fits_same (room_same entry)) ∙ e))

    -- It has, and the plan is stored.
    pub call_stored :
        (lent' : List ℕ) (exit : Tables) → enough ≡ true → lent' ≡ front_copied r.disks packed lent
        → exit ≡ fronts_copied rack r.left work' entry
        → ReadPromise text (disks_in lent) entry (disks_in lent') exit (numbers_of (Ok r))
    call_stored lent' exit e copied_rack stored =
        let both = both_true (leb r.disks (length lent)) (room_for rack r.left entry) e in
        read_given text p found.1 (numbers_of (Ok r)) numbers (disks_in lent) entry (disks_in lent') exit (sym fits_same ∙ both.0)
        (sym (room_same entry) ∙ both.1)
        (ap disks_in copied_rack
        ∙ over_disks (take r.disks packed) lent r.disks
        ∙ ap₂ (λ (ds : List Disk) (n : ℕ). ds ++ drop n (disks_in lent)) rack_same disks_same)
        (stored
        ∙ ap₂ (λ (ds : List Disk) (n : ℕ). fronts_copied ds n work' entry) rack_same left_same
        ∙ ap (λ (t : Tables). fronts_copied p.rack (length p.left) t entry) (judged.tables p found.1)
        ∙ copied p work entry formed)
