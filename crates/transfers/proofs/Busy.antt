-- The table of busy rounds, with one transfer more in it.
use mathlib.Core.Path.{◌≡◌, refl, sym, ap, ap₂, ◌∙◌}
use mathlib.Core.Bool.{Bool, true, false, ◌&&◌, ◌||◌}
use mathlib.Core.List.{List, [], ◌∷◌, ◌++◌}
use Prim.Native.Nat.{ℕ, suc, ◌+◌, ◌-◌, ◌*◌, ◌≤◌, ◌<◌}
use native.Mathlib.Omega.{arith}
use borrow.Author.Tests.{eqb-true, eqb-false, eq-eqb, ne_eqb}
use lib.Dec.{eqb}
use lib.ListN.{length, get_or, set, length-set}
use lib.Seq.{get_or-set_same, get_or-set_other}
use Rattle.placement.proofs.Tests.{by_test}
use Rattle.placement.proofs.Conjunctions.{and_holds}
use Rattle.transfer_schedule.specs.Schedule.{Transfer, takes_part, busy_in}
use Rattle.transfer_schedule.specs.Counts.{ends}
use Rattle.transfers.specs.Keys.{row_length, busy_places, flag, BusyTable}

-- Disjunctions.
or_false : (b : Bool) → (b || false) ≡ b
or_false true = refl
or_false false = refl

or_true : (b : Bool) → (b || true) ≡ true
or_true true = refl
or_true false = refl

or_assoc : (a b c : Bool) → ((a || b) || c) ≡ (a || (b || c))
or_assoc true b c = refl
or_assoc false b c = refl

-- One transfer more.
busy_last : (ts : List Transfer) (t : Transfer) (end round : ℕ) → busy_in (ts ++ (t ∷ [])) end round ≡ (busy_in ts end round || (eqb round t.round && takes_part end t))
busy_last [] t end round = or_false (eqb round t.round && takes_part end t)
busy_last (u ∷ ts) t end round =
    ap (λ (b : Bool). (eqb round u.round && takes_part end u) || b) (busy_last ts t end round)
    ∙ sym (or_assoc (eqb round u.round && takes_part end u) (busy_in ts end round) (eqb round t.round && takes_part end t))

module _ (busy : List ℕ) (placed : List Transfer) (table : BusyTable busy placed) (t : Transfer) (source : t.source < ends) (destination : t.destination < ends)
    (from : 1 ≤ t.round) (to : t.round ≤ row_length) where
  -- The places of its two ends in its round.
  abbrev first : ℕ
  first = t.source * row_length + (t.round - 1)

  abbrev second : ℕ
  second = t.destination * row_length + (t.round - 1)

  abbrev busier : List ℕ
  busier = set (set busy first 1) second 1

  -- What is busy afterwards at a place.
  abbrev Says : ℕ → ℕ → ℕ → Type 0
  Says end r n = n ≡ flag (busy_in placed end (suc r) || (eqb (suc r) t.round && takes_part end t))

  -- In another round or at another end nothing changes,
  says_other : (end r : ℕ) → end < ends → r < row_length → (eqb (suc r) t.round && takes_part end t) ≡ false → Says end r (get_or busy (end * row_length + r) 0)
  says_other end r few within other =
      table.rows end r few within ∙ sym (ap flag (ap (λ (b : Bool). busy_in placed end (suc r) || b) other ∙ or_false (busy_in placed end (suc r))))

  -- and at both ends in the round it is busy.
  says_part : (end r : ℕ) → suc r ≡ t.round → takes_part end t ≡ true → Says end r 1
  says_part end r same part =
      sym (ap flag (ap (λ (b : Bool). busy_in placed end (suc r) || b) (and_holds (eqb (suc r) t.round) (takes_part end t) (eq-eqb (suc r) t.round same) part)
      ∙ or_true (busy_in placed end (suc r))))

  -- An end that is not the one or the other takes no part.
  no_part : (end : ℕ) → (end ≡ t.source → ⊥) → (end ≡ t.destination → ⊥) → takes_part end t ≡ false
  no_part end one other = ap₂ ◌||◌ (ne_eqb end t.source one) (ne_eqb end t.destination other)

  not_both : (end r : ℕ) → (suc r ≡ t.round → takes_part end t ≡ false) → (eqb (suc r) t.round && takes_part end t) ≡ false
  not_both end r follows =
      by_test (eqb (suc r) t.round) (λ e. ap₂ ◌&&◌ e (follows (eqb-true (suc r) t.round e))) (λ e. ap (λ (b : Bool). b && takes_part end t) e)

  row_more : (end r : ℕ) → end < ends → r < row_length → Says end r (get_or busier (end * row_length + r) 0)
  row_more end r few within =
      by_test (eqb place second) (λ e. at_second (eqb-true place second e)) (λ e. by_test (eqb place first) (λ f. at_first (eqb-true place first f) (eqb-false place second e))
      (λ f. elsewhere (eqb-false place first f) (eqb-false place second e)))
    where
      place : ℕ
      place = end * row_length + r

      wide : length (set busy first 1) ≡ busy_places
      wide = length-set busy first 1 ∙ table.wide

      at_second : place ≡ second → Says end r (get_or busier place 0)
      at_second e =
          ap (λ (k : ℕ). get_or busier k 0) e
          ∙ get_or-set_same (set busy first 1) second 1 0 (omega (arith, wide, destination, to, from))
          ∙ says_part end r (omega (arith, e, within, to, from))
          (ap (λ (b : Bool). eqb end t.source || b) (eq-eqb end t.destination (omega (arith, e, within, to, from))) ∙ or_true (eqb end t.source))

      at_first : place ≡ first → (place ≡ second → ⊥) → Says end r (get_or busier place 0)
      at_first e other =
          get_or-set_other (set busy first 1) second place 1 0 other
          ∙ ap (λ (k : ℕ). get_or (set busy first 1) k 0) e
          ∙ get_or-set_same busy first 1 0 (omega (arith, table.wide, source, to, from))
          ∙ says_part end r (omega (arith, e, within, to, from))
          (ap (λ (b : Bool). b || eqb end t.destination) (eq-eqb end t.source (omega (arith, e, within, to, from))))

      elsewhere : (place ≡ first → ⊥) → (place ≡ second → ⊥) → Says end r (get_or busier place 0)
      elsewhere one other =
          get_or-set_other (set busy first 1) second place 1 0 other
          ∙ get_or-set_other busy first place 1 0 one
          ∙ says_other end r few within
          (not_both end r (λ same. no_part end
          (λ e. one (ap₂ (λ (a b : ℕ). a * row_length + b) e (omega (arith, same))))
          (λ e. other (ap₂ (λ (a b : ℕ). a * row_length + b) e (omega (arith, same))))))

  -- The table with both ends busy in its round is that of the transfers with it.
  pub busy_more : BusyTable busier (placed ++ (t ∷ []))
  busy_more = record {
    wide = length-set (set busy first 1) second 1 ∙ length-set busy first 1 ∙ table.wide;
    rows = λ end r few within. row_more end r few within ∙ ap flag (sym (busy_last placed t end (suc r)));
  }
