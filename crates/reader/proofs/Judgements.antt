-- What reading into tables of its own comes to, by the verdict on the text.
use mathlib.Core.Path.{◌≡◌, refl, sym, ap, ◌∙◌}
use mathlib.Core.List.{List}
use Prim.Native.Nat.{ℕ, suc}
use native.Mathlib.Omega.{arith}
use lib.Dec.{leb}
use lib.ListN.{length}
use Rattle.refusal.specs.Verdict.{Verdict, given, refused}
use Rattle.refusal.specs.Numbers.{refusal_of}
use Rattle.refusal.specs.declared.Refusal.{Refusal}
use Rattle.refusal.specs.declared.Refusal.TheVariants.{Line}
use Rattle.refusal.proofs.Verdicts.{Numbered, unless_numbered}
use Rattle.placement.specs.Rack.{Disk}
use Rattle.placement.specs.Tables.{Tables}
use Rattle.placement.specs.Plan.{Plan}
use Rattle.plan_text.specs.Reading.{Reading, whole, refused_after, plan_read_with, plan_read}
use Rattle.plan_text.specs.Capped.{saturated, plan_read_capped}
use Rattle.plan_text.specs.ReadCall.{lines_judged, answer_to, text_verdict, most_bytes}
use Rattle.plan_text.proofs.Laws.{capped_read}
use Rattle.std.specs.Prelude.{Err}
use Rattle.reader.specs.Pass.{Judged}

-- A plan is no refusal.
pub given_refused : {P : Type 0} (v : Verdict Plan) {p : Plan} {n s : ℕ} → v ≡ given p → v ≡ refused n s → P
given_refused v d e = let z : ◌≡◌ {A = ℕ} 0 1 = cc in absurd (omega arith)

-- A refusal asks nothing of the disks and the tables.
pub judged_refused :
    (v : Verdict Plan) (disks : List Disk) (entry exit : Tables) (r : Refusal) → v ≡ refusal_of r → Judged v disks entry exit (Err r)
judged_refused v disks entry exit r e = record {
  numbers = sym (ap answer_to e);
  rack = λ p f. given_refused v f e;
  tables = λ p f. given_refused v f e;
}

-- A text that is refused after m lines is refused at line m + 1.
pub refused_at_lem :
    (text : List ℕ) (disks : List Disk) (entry exit : Tables) (m n : ℕ) → plan_read text ≡ refused_after m → n ≡ suc m
    → Judged (lines_judged (plan_read text)) disks entry exit (Err (Line n))
refused_at_lem text disks entry exit m n e same =
    judged_refused (lines_judged (plan_read text)) disks entry exit (Line n) (ap lines_judged e ∙ ap (λ (k : ℕ). refused 9 k) (sym same))

-- Numbers that stop at 2³² − 1 say the same.
pub capped : (text : List ℕ) → plan_read_with saturated text ≡ plan_read text
unfolding plan_read_capped
capped text = capped_read text

-- The refusals of a text are numbered.
pub text_numbered : (text : List ℕ) → Numbered (text_verdict text)
text_numbered text = unless_numbered (leb (length text) most_bytes) 8 0 (lines_judged (plan_read text)) (omega arith) (go (plan_read text))
  where
    go : (x : Reading Plan) → Numbered (lines_judged x)
    go (whole p) = tt
    go (refused_after n) = omega arith

-- Where the numbers show no refusal, there is a plan.
pub found_plan : (v : Verdict Plan) → Numbered v → (answer_to v).refusal ≡ 0 → (p : Plan) × (v ≡ given p)
found_plan (given p) some e = (p, refl)
found_plan (refused n s) some e = absurd (omega arith)
