-- `transfers::place_all` meets its contract. The invariant: the transfers of the copies before `i` are placed.
use mathlib.Core.Path.{◌≡◌, sym, ap, ap₂, subst, ◌∙◌}
use mathlib.Core.List.{List, [], ◌∷◌, ◌++◌, map}
use Prim.Native.Nat.{ℕ, ◌+◌, ◌<◌, max}
use native.Mathlib.Omega.{arith}
use lib.ListN.{length, take, drop, get_or, set, length-map}
use lib.Seq.{length-take-le}
use Rattle.placement.specs.WellFormed.{Each}
use Rattle.transfer_schedule.specs.Schedule.{Transfer, transfer_for, placed_with, place_all, rounds_of}
use Rattle.transfer_schedule.specs.Fits.{CopyFits}
use Rattle.transfer_schedule.specs.Transfers.{transfer_entry, transfer_in}
use Rattle.transfer_schedule.proofs.Mapped.{each_mapped, mapped_more, map_last}
use Rattle.transfer_schedule.proofs.Placing.{place_append, place_length}
use Rattle.transfer_schedule.proofs.FewRounds.{rounds_last}
use Rattle.transfer_schedule.proofs.Entries.{transfer_entry_lem}
use Rattle.transfer_schedule.proofs.Scheduled.{transfer_fits}
use Rattle.transfers.specs.Keys.{stored_in, BusyTable}
use Rattle.transfers.proofs.Overwriting.{front_next, front_more}
use Rattle.transfers.proofs.schedule.place_all.Invariants.{placed_to}
use Rattle.transfers.proofs.schedule.place_all.Goals as goal

-- What is known of a turn: how many transfers are placed, and the key that is next.
record Turn (old keys keys' : List ℕ) (i : ℕ) : Type 0 where
  pub number : length (placed_to old keys i) ≡ i
  pub long : length (map transfer_entry (placed_to old keys i)) ≡ i
  pub less : i < length keys
  pub fits : CopyFits (stored_in (get_or keys' i 0))
  pub more : placed_with (map stored_in old) (stored_in (get_or keys' i 0)) (placed_to old keys i) ≡ placed_to old keys (i + 1)

turn :
    (old keys keys' : List ℕ) (i : ℕ) → Each CopyFits (map stored_in keys) → i < length keys
    → keys' ≡ map transfer_entry (placed_to old keys i) ++ drop i keys → Turn old keys keys' i
turn old keys keys' i fit less is =
    let number : length (placed_to old keys i) ≡ i =
    omega (arith, place_length (map stored_in old) [] (map stored_in (take i keys)), length-map (take i keys) stored_in, length-take-le i keys (omega (arith, less))) in
    let long : length (map transfer_entry (placed_to old keys i)) ≡ i = length-map (placed_to old keys i) transfer_entry ∙ number in
    let next : get_or keys' i 0 ≡ get_or keys i 0 =
    ap (λ (l : List ℕ). get_or l i 0) is ∙ front_next (map transfer_entry (placed_to old keys i)) keys i long less in
    record {
      number = number;
      long = long;
      less = less;
      fits = subst (λ (k : ℕ). CopyFits (stored_in k)) (sym next) (each_mapped stored_in 0 CopyFits keys i fit less);
      more = ap (λ (k : ℕ). placed_with (map stored_in old) (stored_in k) (placed_to old keys i)) next
          ∙ sym (ap (place_all (map stored_in old) []) (mapped_more stored_in 0 keys i less)
          ∙ place_append (map stored_in old) [] (map stored_in (take i keys)) (stored_in (get_or keys i 0) ∷ []));
    }

pub place-entry-requires : goal.place-entry-requires
place-entry-requires c =
    let t = turn c.args.sources.now.old.now c.args.keys.now c.loop-key.keys c.loop-key.key-index c.requires.1 c.loop-key-test.true c.loop-key.invariant.keys in
    record {
      copy_fits = (t.fits, c.requires.0);
      placed = omega (arith, t.less, c.requires.2, c.loop-key.invariant.placed);
    }

pub loop-key-preserved : goal.loop-key-preserved
loop-key-preserved c =
    let old = c.args.sources.now.old.now in
    let keys = c.args.keys.now in
    let i = c.loop-key.key-index in
    let t = turn old keys c.loop-key.keys i c.requires.1 c.loop-key-test.true c.loop-key.invariant.keys in
    let copies = map stored_in old in
    let copy = stored_in (get_or c.loop-key.keys i 0) in
    let placed = placed_to old keys i in
    let next = c.place-entry.ensures.placed_next placed (t.number ∙ sym c.loop-key.invariant.placed) c.loop-key.invariant.busy in
    let fits = transfer_fits copies c.requires.0 placed copy t.fits (omega (arith, t.number, t.less, c.requires.2)) in
    record {
      keys = ap (λ (l : List ℕ). set l i c.place-entry.result) c.loop-key.invariant.keys
          ∙ front_more (map transfer_entry placed) keys i t.long t.less c.place-entry.result
          ∙ ap (λ (front : List ℕ). front ++ drop (i + 1) keys)
          (ap (λ (e : ℕ). map transfer_entry placed ++ (e ∷ [])) next.0 ∙ sym (map_last transfer_entry placed (transfer_for copies placed copy))
          ∙ ap (map transfer_entry) t.more);
      busy = subst (BusyTable c.place-entry.new.rounds.busy) t.more next.1;
      placed = omega (arith, c.place-entry.ensures.placed, c.loop-key.invariant.placed);
      last = c.max-last.ensures
          ∙ ap₂ max c.loop-key.invariant.last (ap (λ (e : ℕ). (transfer_in e).round) next.0 ∙ ap (λ (t : Transfer). t.round) (transfer_entry_lem (transfer_for copies placed copy) fits))
          ∙ sym (rounds_last placed (transfer_for copies placed copy))
          ∙ ap rounds_of t.more;
    }
