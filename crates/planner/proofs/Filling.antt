-- One disk filled: its window is a run of keys, its copies are the run with less for the last film, and what is over returns to the list.
use mathlib.Core.Path.{◌≡◌, sym, ap, ap₂, ◌∙◌, subst}
use mathlib.Core.List.{List, map}
use Prim.Native.Nat.{ℕ, ◌+◌, ◌-◌, ◌≤◌, ◌<◌}
use native.Mathlib.Omega.{arith}
use lib.ListN.{length, take, drop}
use lib.Seq.{take-take}
use Rattle.placement.specs.Items.{Item, item, total, enter}
use Rattle.placement.specs.Rack.{Disk}
use Rattle.placement.specs.Window.{Window, window, within, outside, window_of}
use Rattle.placement.specs.Disk.{all_but_last, last_film, stored, copies_of, list_after}
use Rattle.placement.specs.Tables.{entry_of, padded, written}
use Rattle.placement.proofs.Windows.{Windowed, window_cases, window_inside, window_size, window_last_needed}
use Rattle.placement.proofs.Disks.{copies_total}
use Rattle.placement.proofs.ReadBack.{front_length}
use Rattle.planner.specs.Keys.{items_of, item_of}
use Rattle.planner.specs.Copies.{run_of, less_last}
use Rattle.planner.proofs.Cuts.{take_map, drop_map, take_drop}
use Rattle.planner.proofs.Copies.{run_length, less_last_length}
use Rattle.planner.proofs.Stored.{stored_less, over_last}

-- The films of a window are those of its run of keys.
within_run :
    (keys : List ℕ) (n start size : ℕ) → start + size ≤ n → within (window start size) (items_of n keys) ≡ run_of keys start size
within_run keys n start size h =
    ap (take size) (drop_map item_of start (take n keys))
    ∙ take_map item_of size (drop start (take n keys))
    ∙ ap (map item_of)
    (take_drop start size (take n keys)
    ∙ ap (drop start) (take-take (start + size) n keys h)
    ∙ sym (take_drop start size keys))

-- What is known of a disk whose window is `size` keys from `start` on, sums to `sum` and has `over` above the load.
pub record Filling (d : Disk) (keys : List ℕ) (n start size sum over : ℕ) : Type 0 where
  pub inside : start + size ≤ n
  pub small : size ≤ d.slots
  pub rest : over ≤ (last_film (run_of keys start size)).amount
  pub copies : less_last over (run_of keys start size) ≡ copies_of d (items_of n keys)
  pub count : size ≡ length (copies_of d (items_of n keys))
  pub serves : sum - over ≡ total (copies_of d (items_of n keys))
  pub after :
      enter (item (last_film (run_of keys start size)).film over) (outside (window start size) (items_of n keys))
      ≡ list_after d (items_of n keys)

module _
    (d : Disk) (keys : List ℕ) (n start size sum over : ℕ) (room : n ≤ length keys) (some_slots : 1 ≤ d.slots) (some_load : 1 ≤ d.load)
    (is : window start size ≡ window_of d (items_of n keys)) (sums : sum ≡ total (within (window start size) (items_of n keys)))
    (overs : over ≡ sum - d.load)
  where
    abbrev list : List Item
    list = items_of n keys

    abbrev run : List Item
    run = run_of keys start size

    windowed : Windowed d list (window start size)
    windowed = subst (λ (w : Window). Windowed d list w) (sym is) (window_cases d list some_load)

    within_list : start + size ≤ n
    within_list = omega (arith, window_inside windowed, front_length n keys room)

    -- The window's films are the run.
    films_run : within (window_of d list) list ≡ run
    films_run = ap (λ (w : Window). within w list) (sym is) ∙ within_run keys n start size within_list

    sum_run : sum ≡ total run
    sum_run = sums ∙ ap total (within_run keys n start size within_list)

    over_run : over ≡ total run - d.load
    over_run = overs ∙ ap (λ (t : ℕ). t - d.load) sum_run

    needed : d.load ≤ total run → total (all_but_last run) < d.load
    needed h =
        subst (λ (r : List Item). total (all_but_last r) < d.load) (within_run keys n start size within_list)
        (window_last_needed some_slots windowed (subst (λ (t : ℕ). d.load ≤ t) (sym sum_run ∙ sums) h))

    copies_run : copies_of d list ≡ less_last over run
    copies_run =
        ap (stored d.load) films_run ∙ stored_less d.load run some_load needed ∙ ap (λ (o : ℕ). less_last o run) (sym over_run)

    pub filling : Filling d keys n start size sum over
    filling = record {
      inside = within_list;
      small = window_size windowed;
      rest = omega (arith, over_last d.load run some_load needed, over_run);
      copies = sym copies_run;
      count = sym (ap length copies_run ∙ less_last_length over run ∙ run_length keys start size (omega (arith, within_list)));
      serves = omega (arith, copies_total d list some_slots some_load, ap total films_run, sum_run, over_run);
      after =
          sym
          (ap₂ (λ (x : Item) (others : List Item). enter x others)
          (ap (λ (r : List Item). item (last_film r).film (total r - d.load)) films_run
          ∙ ap (λ (o : ℕ). item (last_film run).film o) (sym over_run))
          (ap (λ (w : Window). outside w list) (sym is)));
    }

module _ {d : Disk} {keys : List ℕ} {n start size sum over : ℕ} (f : Filling d keys n start size sum over) where
  -- The run stored is the disk's copies stored.
  pub copies_stored :
      (old : List ℕ) {exit : List ℕ} → exit ≡ written (padded d.slots (map entry_of (less_last over (run_of keys start size)))) old
      → exit ≡ written (padded d.slots (map entry_of (copies_of d (items_of n keys)))) old
  copies_stored old e = e ∙ ap (λ (xs : List Item). written (padded d.slots (map entry_of xs)) old) f.copies

  -- The window taken out leaves the next list.
  pub window_taken :
      {exit : List Item}
      → exit ≡ enter (item (last_film (run_of keys start size)).film over) (outside (window start size) (items_of n keys))
      → exit ≡ list_after d (items_of n keys)
  window_taken e = e ∙ f.after
