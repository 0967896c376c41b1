-- Rounds that are known to be busy from the first on: which are not free at two ends, and one end busy in one round more.
use mathlib.Core.Path.{◌≡◌, refl, sym, ap, subst, ◌∙◌}
use mathlib.Core.Bool.{Bool, true, false, cond}
use mathlib.Core.List.{List}
use mathlib.Core.Logic.{inl, inr}
use Prim.Native.Nat.{ℕ, ◌+◌, ◌-◌, ◌*◌, ◌≤◌, ◌<◌, max}
use native.Mathlib.Omega.{arith}
use borrow.Author.Tests.{eqb-true, eqb-false}
use lib.Dec.{eqb}
use lib.ListN.{length, get_or, set, length-set}
use lib.Seq.{get_or-set_same, get_or-set_other}
use Rattle.placement.proofs.Tests.{by_test, by_order}
use Rattle.transfer_schedule.specs.Counts.{ends}
use Rattle.transfers.specs.Keys.{row_length, busy_places, BusyTo, FullTable, next_full, NoneFree}

-- Up to the larger of two ends' numbers no round is free at both.
pub none_free :
    (busy full : List ℕ) (n : ℕ) → FullTable busy full n → (source destination : ℕ) → source < ends → destination < ends
    → NoneFree busy source destination (max (get_or full source 0) (get_or full destination 0))
none_free busy full n table source destination s d r less =
    by_order r (get_or full source 0) (λ lower. inl (table.ones source s r lower)) (λ upper. inr (table.ones destination d r (omega arith)))

-- A place that is 1 stays so.
one_kept : (busy : List ℕ) (i k : ℕ) → k < length busy → get_or busy k 0 ≡ 1 → get_or (set busy i 1) k 0 ≡ 1
one_kept busy i k inside one =
    by_test (eqb k i)
    (λ e. ap (λ (m : ℕ). get_or (set busy m 1) k 0) (sym (eqb-true k i e)) ∙ get_or-set_same busy k 1 0 inside)
    (λ e. get_or-set_other busy i k 1 0 (eqb-false k i e) ∙ one)

module _ (busy full : List ℕ) (n m : ℕ) (table : FullTable busy full n) (wide : length busy ≡ busy_places) (end round : ℕ) (own : end < ends)
    (from : 1 ≤ round) (to : round ≤ row_length) (next : round ≤ m) (short : n ≤ row_length) (more : n ≤ m) where
  abbrev place : ℕ
  place = end * row_length + (round - 1)

  abbrev mine : ℕ
  mine = get_or full end 0

  -- What is known of an end stays so,
  kept : (other : ℕ) → other < ends → BusyTo (set busy place 1) other (get_or full other 0)
  kept other few r less =
      one_kept busy place (other * row_length + r) (omega (arith, wide, few, less, table.few other few)) (table.ones other few r less)

  -- and of the end made busy one round more is known, where it is the next one.
  known : (b : Bool) → eqb (mine + 1) round ≡ b → BusyTo (set busy place 1) end (cond b round mine)
  known false e = kept end own
  known true e = λ r less.
      by_order r mine (λ lower. kept end own r lower)
      (λ upper.
      let last : r ≡ round - 1 = omega (arith, upper, less, eqb-true (mine + 1) round e) in
      ap (λ (k : ℕ). get_or (set busy place 1) (end * row_length + k) 0) last ∙ get_or-set_same busy place 1 0 (omega (arith, wide, own, from, to)))

  most : (b : Bool) → cond b round mine ≤ m
  most true = next
  most false = omega (arith, table.few end own)

  at_own : (other : ℕ) → other ≡ end → get_or (set full end (next_full mine round)) other 0 ≡ next_full mine round
  at_own other e =
      ap (λ (k : ℕ). get_or (set full end (next_full mine round)) k 0) e ∙ get_or-set_same full end (next_full mine round) 0 (omega (arith, own, table.wide))

  at_other : (other : ℕ) → (other ≡ end → ⊥) → get_or (set full end (next_full mine round)) other 0 ≡ get_or full other 0
  at_other other apart = get_or-set_other full end other (next_full mine round) 0 apart

  full_more : FullTable (set busy place 1) (set full end (next_full mine round)) m
  full_more = record {
    wide = length-set full end (next_full mine round) ∙ table.wide;
    few = λ other few. by_test (eqb other end)
        (λ e. subst (λ (k : ℕ). k ≤ m) (sym (at_own other (eqb-true other end e))) (most (eqb (mine + 1) round)))
        (λ e. subst (λ (k : ℕ). k ≤ m) (sym (at_other other (eqb-false other end e))) (omega (arith, table.few other few)));
    ones = λ other few. by_test (eqb other end)
        (λ e. subst (BusyTo (set busy place 1) other) (sym (at_own other (eqb-true other end e)))
        (subst (λ (k : ℕ). BusyTo (set busy place 1) k (next_full mine round)) (sym (eqb-true other end e)) (known (eqb (mine + 1) round) refl)))
        (λ e. subst (BusyTo (set busy place 1) other) (sym (at_other other (eqb-false other end e))) (kept other few));
  }

  -- So it is for the tables after both places are stored.
  pub full_after :
      {busy' full' : List ℕ} → busy' ≡ set busy place 1 → full' ≡ set full end (next_full mine round) → FullTable busy' full' m
  full_after {busy'} same known =
      subst (λ (f : List ℕ). FullTable busy' f m) (sym known) (subst (λ (b : List ℕ). FullTable b (set full end (next_full mine round)) m) (sym same) full_more)
