-- The verdict on a call of transfers, and the answer, the list, the table and the counts by it.
use mathlib.Core.Path.{◌≡◌, refl, sym, ap, ◌∙◌}
use mathlib.Core.Bool.{false, ◌&&◌}
use mathlib.Core.List.{List}
use mathlib.Core.Logic.{◌⊎◌, inl, inr}
use Prim.Native.Nat.{ℕ, ◌≤◌, ◌<◌}
use borrow.Author.Tests.{le-leb, lt-leb}
use lib.Dec.{leb}
use lib.ListN.{length}
use Rattle.refusal.specs.Verdict.{Verdict, given, refused}
use Rattle.refusal.proofs.Verdicts.{unless_passes, unless_refuses}
use Rattle.placement.proofs.Conjunctions.{and_holds, first_fails, second_decides}
use Rattle.placement.proofs.Tests.{by_order}
use Rattle.transfer_schedule.specs.Schedule.{Transfer}
use Rattle.transfer_schedule.specs.Counts.{ends}
use Rattle.transfer_schedule.specs.Transfers.{followed_with, Plans, texts_verdict, transfers_of, space_judged, transfers_verdict, transfers_answer, list_given, table_given, counts_given, transferring, entries_after, table_after, counts_of}

-- Places or rows that are too few fail the test of space.
too_few : (places rows n : ℕ) → (places < n) ⊎ (rows < ends) → (leb n places && leb ends rows) ≡ false
too_few places rows n (inl less) = sym (first_fails (leb n places) (leb ends rows) (lt-leb n places less))
too_few places rows n (inr less) =
    by_order places n (λ fewer. sym (first_fails (leb n places) (leb ends rows) (lt-leb n places fewer)))
    (λ enough. sym (second_decides (leb n places) (leb ends rows) (le-leb n places enough)) ∙ lt-leb ends rows less)

module _ (old new : List ℕ) where
  module _ (places rows : ℕ) where
    -- The verdict by that on the texts.
    by_texts :
        (v : Verdict Plans) → texts_verdict old new ≡ v
        → transfers_verdict old new places rows ≡ followed_with v (λ both. space_judged places rows (transfers_of both))
    by_texts v e = ap (λ (x : Verdict Plans). followed_with x (λ both. space_judged places rows (transfers_of both))) e

    -- A refusal of the texts comes first,
    pub judged_refused : (n s : ℕ) → texts_verdict old new ≡ refused n s → transfers_verdict old new places rows ≡ refused n s
    judged_refused n s e = by_texts (refused n s) e

    -- then 7, where places or rows are too few,
    pub judged_short :
        (both : Plans) → texts_verdict old new ≡ given both → (places < length (transfers_of both)) ⊎ (rows < ends)
        → transfers_verdict old new places rows ≡ refused 7 0
    judged_short both e short =
        by_texts (given both) e
        ∙ unless_refuses (leb (length (transfers_of both)) places && leb ends rows) 7 0 (given (transfers_of both))
        (too_few places rows (length (transfers_of both)) short)

    -- and else the transfers are given.
    pub judged_given :
        (both : Plans) → texts_verdict old new ≡ given both → length (transfers_of both) ≤ places → ends ≤ rows
        → transfers_verdict old new places rows ≡ given (transfers_of both)
    judged_given both e few all =
        by_texts (given both) e
        ∙ unless_passes (leb (length (transfers_of both)) places && leb ends rows) 7 0 (given (transfers_of both))
        (and_holds (leb (length (transfers_of both)) places) (leb ends rows) (le-leb (length (transfers_of both)) places few) (le-leb ends rows all))

    -- One of the three is so.
    pub by_call :
        {P : Type 0} → ((n s : ℕ) → texts_verdict old new ≡ refused n s → transfers_verdict old new places rows ≡ refused n s → P)
        → ((both : Plans) → texts_verdict old new ≡ given both → transfers_verdict old new places rows ≡ refused 7 0 → P)
        → ((both : Plans) → texts_verdict old new ≡ given both → transfers_verdict old new places rows ≡ given (transfers_of both) → P) → P
    by_call {P} turned short enough = go (texts_verdict old new) refl
      where
        go : (v : Verdict Plans) → texts_verdict old new ≡ v → P
        go (refused n s) e = turned n s e (judged_refused n s e)
        go (given both) e =
            by_order places (length (transfers_of both)) (λ less. short both e (judged_short both e (inl less)))
            (λ few. by_order rows ends (λ less. short both e (judged_short both e (inr less)))
            (λ all. enough both e (judged_given both e few all)))

    -- The answer by the verdict.
    pub answer_by : (v : Verdict (List Transfer)) → transfers_verdict old new places rows ≡ v → transfers_answer v ≡ transferring old new places rows
    unfolding transferring
    answer_by v e = ap transfers_answer (sym e)

  -- The list and the table by it,
  pub list_by :
      (list : List ℕ) (rows : ℕ) (v : Verdict (List Transfer)) → transfers_verdict old new (length list) rows ≡ v
      → list_given list v ≡ entries_after old new list rows
  unfolding entries_after
  list_by list rows v e = ap (list_given list) (sym e)

  pub table_by :
      (places : ℕ) (table : List (List ℕ)) (v : Verdict (List Transfer)) → transfers_verdict old new places (length table) ≡ v
      → table_given table v ≡ table_after old new places table
  unfolding table_after
  table_by places table v e = ap (table_given table) (sym e)

  -- and the counts by the verdict on the texts.
  pub counts_by : (v : Verdict Plans) → texts_verdict old new ≡ v → counts_given v ≡ counts_of old new
  unfolding counts_of
  counts_by v e = ap counts_given (sym e)
