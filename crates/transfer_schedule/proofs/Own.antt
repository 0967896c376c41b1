-- Functions that bring their own list and table: 256 places and nine rows are always enough.
use mathlib.Core.Path.{◌≡◌, refl, sym, ap, ◌∙◌}
use mathlib.Core.List.{List, [], ◌++◌, append-nil}
use Prim.Native.Nat.{ℕ, ◌≤◌}
use native.Mathlib.Omega.{arith}
use lib.ListN.{length, drop, drop_of_length-le}
use Rattle.refusal.specs.Verdict.{Verdict, given, refused}
use Rattle.transfer_schedule.specs.Counts.{ends, count_table}
use Rattle.transfer_schedule.specs.Transfers.{Plans, texts_verdict, transfers_of, table_after, counts_of}
use Rattle.transfer_schedule.proofs.BothTexts.{texts_given}
use Rattle.transfer_schedule.proofs.ReadPlans.{read_few}
use Rattle.transfer_schedule.proofs.Judged.{judged_refused, judged_given, table_by, counts_by}

-- A table of zeros, lent with a list of 256 places, has the counts afterwards: 7 is never given, and where the texts are refused it stays zero.
pub own_list :
    (old new list : List ℕ) (table : List (List ℕ)) → length list ≡ 256 → length table ≡ 9 → table ≡ count_table []
    → {table_exit : List (List ℕ)} → table_exit ≡ table_after old new (length list) table → table_exit ≡ counts_of old new
own_list old new list table places rows zeros same = same ∙ go (texts_verdict old new) refl
  where
    nothing : drop ends table ≡ []
    nothing = drop_of_length-le table {i = ends} (omega (arith, rows))

    go : (v : Verdict Plans) → texts_verdict old new ≡ v → table_after old new (length list) table ≡ counts_of old new
    go (refused n s) e =
        sym (table_by old new (length list) table (refused n s) (judged_refused old new (length list) (length table) n s e))
        ∙ zeros ∙ counts_by old new (refused n s) e
    go (given both) e =
        let few : length (transfers_of both) ≤ length list = omega (arith, places, read_few old new both (texts_given old new both e)) in
        let all : ends ≤ length table = omega (arith, rows) in
        sym (table_by old new (length list) table (given (transfers_of both)) (judged_given old new (length list) (length table) both e few all))
        ∙ ap (λ (rest : List (List ℕ)). count_table (transfers_of both) ++ rest) nothing
        ∙ append-nil (count_table (transfers_of both))
        ∙ counts_by old new (given both) e
