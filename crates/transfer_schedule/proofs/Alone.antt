-- "In one round every disk and the loader take part in at most one transfer": each is placed where both ends are free.
use mathlib.Core.Path.{◌≡◌, refl, sym, ap, ◌∙◌}
use mathlib.Core.Bool.{Bool, true, false, cond, not, ◌&&◌, ◌||◌}
use mathlib.Core.List.{List, [], ◌∷◌}
use Prim.Native.Nat.{ℕ, ◌+◌, ◌≤◌}
use native.Mathlib.Omega.{arith}
use borrow.Author.Tests.{eqb-true, not-true}
use lib.Dec.{eqb}
use Rattle.placement.proofs.Conjunctions.{both_true, false_true}
use Rattle.transfer_schedule.specs.Stored.{StoredCopy}
use Rattle.transfer_schedule.specs.Schedule.{Transfer, takes_part, busy_in, both_free, transfer_for, placed_with, lacking, schedule}
use Rattle.transfer_schedule.specs.Words.{parts_in}
use Rattle.transfer_schedule.proofs.TableSum.{count_last}
use Rattle.transfer_schedule.proofs.Placing.{place_always}
use Rattle.transfer_schedule.proofs.Either.{by_either}
use Rattle.transfer_schedule.proofs.Earliest.{earliest_free}

-- An end that is not busy in a round takes part in none of its transfers.
idle : (ts : List Transfer) (end round : ℕ) → busy_in ts end round ≡ false → parts_in end round ts ≡ 0
idle [] end round e = refl
idle (t ∷ ts) end round e = go (eqb round t.round && takes_part end t) e (idle ts end round)
  where
    go : (b : Bool) → (b || busy_in ts end round) ≡ false → (busy_in ts end round ≡ false → parts_in end round ts ≡ 0)
        → cond b 1 0 + parts_in end round ts ≡ 0
    go true busy later = false_true (sym busy)
    go false free later = omega (arith, later free)

-- Neither end of a transfer is busy in a round where both are free.
free_end :
    (ts : List Transfer) (t : Transfer) (end : ℕ) → both_free ts t.source t.destination t.round ≡ true → takes_part end t ≡ true
    → busy_in ts end t.round ≡ false
free_end ts t end free part =
    by_either (eqb end t.source) (eqb end t.destination) part
    (λ e. ap (λ (x : ℕ). busy_in ts x t.round) (eqb-true end t.source e) ∙ not-true _ both.0)
    (λ e. ap (λ (x : ℕ). busy_in ts x t.round) (eqb-true end t.destination e) ∙ not-true _ both.1)
  where
    both : (not (busy_in ts t.source t.round) ≡ true) × (not (busy_in ts t.destination t.round) ≡ true)
    both = both_true (not (busy_in ts t.source t.round)) (not (busy_in ts t.destination t.round)) free

-- One transfer more.
alone_more :
    (old : List StoredCopy) (placed : List Transfer) (c : StoredCopy) → ((end round : ℕ) → parts_in end round placed ≤ 1)
    → (end round : ℕ) → parts_in end round (placed_with old c placed) ≤ 1
alone_more old placed c alone end round =
    omega (arith, count_last (λ (t : Transfer). eqb round t.round && takes_part end t) placed t, go (eqb round t.round && takes_part end t) refl)
  where
    t : Transfer
    t = transfer_for old placed c

    go : (b : Bool) → (eqb round t.round && takes_part end t) ≡ b → parts_in end round placed + cond b 1 0 ≤ 1
    go true e =
        let both = both_true (eqb round t.round) (takes_part end t) e in
        let free = free_end placed t end (earliest_free placed t.source t.destination) both.1 in
        let same = ap (busy_in placed end) (eqb-true round t.round both.0) in
        omega (arith, idle placed end round (same ∙ free))
    go false e = omega (arith, alone end round)

-- So it is for all.
pub alone : (old new : List StoredCopy) (end round : ℕ) → parts_in end round (schedule old new) ≤ 1
alone old new =
    place_always old (λ ts. (end round : ℕ) → parts_in end round ts ≤ 1) (alone_more old) [] (lacking old new) (λ end round. omega arith)
