-- The promises of reading in document 01's words, from the verdict on the text and the room in what is lent.
use mathlib.Core.Path.{◌≡◌, refl, sym, ap, ◌∙◌, subst}
use mathlib.Core.Bool.{true}
use mathlib.Core.List.{List}
use mathlib.Core.Logic.{inl, inr}
use Prim.Native.Nat.{ℕ, ◌≤◌}
use native.Mathlib.Omega.{arith}
use lib.Dec.{leb}
use lib.ListN.{length, take}
use Rattle.refusal.specs.Verdict.{Verdict, given, refused, Numbers}
use Rattle.refusal.proofs.Verdicts.{Numbered, unless_passes}
use Rattle.placement.specs.Rack.{Disk}
use Rattle.placement.specs.Tables.{Tables, room_for}
use Rattle.placement.specs.Plan.{Plan}
use Rattle.placement.specs.Held.{plan_held}
use Rattle.plan_text.specs.Accepted.{Accepted, RefusedLine}
use Rattle.plan_text.specs.ReadCall.{Told, answer_to, text_verdict, with_tables, rack_given, tables_given, holding_rack, holding_plan, judging, reading, rack_after_reading, tables_after_reading}
use Rattle.plan_text.proofs.Verdicts.{verdict_text, verdict_well_formed, verdict_same, verdict_line}
use Rattle.plan_text.proofs.ReadTables.{holding_rack_lem, holding_held}
use Rattle.reader.specs.Promise.{PlanOf, JudgePromise, ReadPromise}
use Rattle.reader.proofs.Judgements.{given_refused, text_numbered}

-- An accepted text has a plan as its verdict.
accepted_verdict : (text : List ℕ) (a : Accepted text) → text_verdict text ≡ given a.plan
accepted_verdict text a = ap text_verdict (sym a.same) ∙ verdict_text a.plan a.formed

module _ (text : List ℕ) where
  -- A text with a plan.
  module _ (p : Plan) (e : text_verdict text ≡ given p) (answer : Numbers Told) (is : answer ≡ answer_to (given p)) where
    refusal_none : answer.refusal ≡ 0
    refusal_none = ap (λ (n : Numbers Told). n.refusal) is

    plan_of : PlanOf text answer.values
    plan_of = record {
      plan = p;
      formed = verdict_well_formed text p e;
      same = verdict_same text p e;
      told = ap (λ (n : Numbers Told). n.values) is;
    }

    judge_given : answer ≡ judging text → JudgePromise text answer
    judge_given numbers = record {
      numbers = numbers;
      refused_line = λ h. let z : ◌≡◌ {A = ℕ} 0 9 = sym refusal_none ∙ h in absurd (omega arith);
      planned = λ h. plan_of;
      accepted = λ a. refusal_none;
    }

    -- The plan is stored.
    pub read_given :
        (lent : List Disk) (entry : Tables) (rack_exit : List Disk) (exit : Tables) → leb (length p.rack) (length lent) ≡ true
        → room_for p.rack (length p.left) entry ≡ true → rack_exit ≡ holding_rack p lent → exit ≡ holding_plan p entry
        → ReadPromise text lent entry rack_exit exit answer
    unfolding reading rack_after_reading tables_after_reading plan_of
    read_given lent entry rack_exit exit enough room begins held =
        let verdict : with_tables lent entry (text_verdict text) ≡ given p =
        ap (with_tables lent entry) e
        ∙ unless_passes (leb (length p.rack) (length lent)) 7 0 _ enough
        ∙ unless_passes (room_for p.rack (length p.left) entry) 7 0 (given p) room in
        record {
          numbers = is ∙ sym (ap answer_to verdict);
          rack = begins ∙ sym (ap (rack_given lent) verdict);
          tables = held ∙ sym (ap (tables_given entry) verdict);
          unchanged = λ some. absurd (omega (arith, refusal_none));
          refused_line = λ h. let z : ◌≡◌ {A = ℕ} 0 9 = sym refusal_none ∙ h in absurd (omega arith);
          planned = λ h. record {
            of = plan_of;
            held =
                ap (λ (n : Numbers Told). plan_held (take n.values.disks rack_exit) exit n.values.left) is
                ∙ ap (λ (ds : List Disk). plan_held (take (length p.rack) ds) exit (length p.left)) begins
                ∙ ap (λ (ds : List Disk). plan_held ds exit (length p.left)) (holding_rack_lem p lent)
                ∙ ap (λ (t : Tables). plan_held p.rack t (length p.left)) held
                ∙ holding_held p entry (verdict_well_formed text p e);
          };
          accepted = λ a. inl refusal_none;
        }

    -- The list of entries or the tables are too short for it.
    pub read_short :
        (lent : List Disk) (entry : Tables) (short : Numbers Told) → with_tables lent entry (given p) ≡ refused 7 0
        → short ≡ answer_to (refused 7 0) → ReadPromise text lent entry lent entry short
    unfolding reading rack_after_reading tables_after_reading
    read_short lent entry short seventh said =
        let verdict : with_tables lent entry (text_verdict text) ≡ refused 7 0 = ap (with_tables lent entry) e ∙ seventh in
        let seven : short.refusal ≡ 7 = ap (λ (n : Numbers Told). n.refusal) said in
        record {
          numbers = said ∙ sym (ap answer_to verdict);
          rack = sym (ap (rack_given lent) verdict);
          tables = sym (ap (tables_given entry) verdict);
          unchanged = λ some. (refl, refl);
          refused_line = λ h. absurd (omega arith);
          planned = λ h. absurd (omega arith);
          accepted = λ a. inr seven;
        }

  -- A text that is refused.
  module _ (n s : ℕ) (e : text_verdict text ≡ refused n s) (answer : Numbers Told) (is : answer ≡ answer_to (refused n s)) where
    refusal_same : answer.refusal ≡ n
    refusal_same = ap (λ (m : Numbers Told). m.refusal) is

    some : 1 ≤ n
    some = subst Numbered e (text_numbered text)

    line_of : answer.refusal ≡ 9 → RefusedLine text answer.second
    line_of h =
        subst (RefusedLine text) (sym (ap (λ (m : Numbers Told). m.second) is))
        (verdict_line text s (e ∙ ap (λ (k : ℕ). refused k s) (sym refusal_same ∙ h)))

    judge_refused : answer ≡ judging text → JudgePromise text answer
    judge_refused numbers = record {
      numbers = numbers;
      refused_line = line_of;
      planned = λ h. absurd (omega (arith, some, refusal_same));
      accepted = λ a. given_refused (text_verdict text) (accepted_verdict text a) e;
    }

    -- Nothing changes.
    pub read_declined : (lent : List Disk) (entry : Tables) → ReadPromise text lent entry lent entry answer
    unfolding reading rack_after_reading tables_after_reading
    read_declined lent entry = record {
      numbers = is ∙ sym (ap (λ (v : Verdict Plan). answer_to (with_tables lent entry v)) e);
      rack = sym (ap (λ (v : Verdict Plan). rack_given lent (with_tables lent entry v)) e);
      tables = sym (ap (λ (v : Verdict Plan). tables_given entry (with_tables lent entry v)) e);
      unchanged = λ some. (refl, refl);
      refused_line = line_of;
      planned = λ h. absurd (omega (arith, some, refusal_same));
      accepted = λ a. given_refused (text_verdict text) (accepted_verdict text a) e;
    }

  -- The promise of judging.
  pub judge_promised : (answer : Numbers Told) → answer ≡ answer_to (text_verdict text) → JudgePromise text answer
  unfolding judging
  judge_promised answer is = go (text_verdict text) refl
    where
      go : (v : Verdict Plan) → text_verdict text ≡ v → JudgePromise text answer
      go (given p) e = judge_given p e answer (is ∙ ap answer_to e) is
      go (refused n s) e = judge_refused n s e answer (is ∙ ap answer_to e) is
