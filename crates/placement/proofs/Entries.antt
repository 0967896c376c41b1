-- One disk's step on a list of entries: its copies are accepted, and the next list holds entries again.
use mathlib.Core.Path.{◌≡◌, sym, ap, ◌∙◌, subst}
use mathlib.Core.Bool.{true, cond}
use mathlib.Core.List.{List}
use Prim.Native.Nat.{ℕ, ◌-◌, ◌≤◌, ◌<◌}
use native.Mathlib.Omega.{arith}
use lib.Dec.{leb}
use lib.ListN.{length, length-map}
use Rattle.placement.specs.Items.{Item, item, total, amount_of, film_of, one_if}
use Rattle.placement.specs.Rack.{Disk}
use Rattle.placement.specs.Window.{within, outside, window_of}
use Rattle.placement.specs.Disk.{all_but_last, last_film, stored, remainder, copies_of, list_after}
use Rattle.placement.specs.Promise.{Distinct}
use Rattle.placement.specs.Plan.{disk_accepted}
use Rattle.placement.specs.WellFormed.{Each, Entry}
use Rattle.placement.proofs.Tests.{by_order, chosen, passed}
use Rattle.placement.proofs.Sums.{length_sum, one}
use Rattle.placement.proofs.Windows.{window_cases, window_size, window_last_needed}
use Rattle.placement.proofs.Disks.{sum_by_last, some_film, stored_below, stored_reaching, stored_films, copies_load, after_sum, before_sum}
use Rattle.placement.proofs.Steps.{films_length}
use Rattle.placement.proofs.Films.{occurrences_same}
use Rattle.placement.proofs.Formed.{disk_accepted_lem}
use Rattle.placement.proofs.Each.{each_append, each_within, each_outside, each_all_but_last, each_last, each_enter}

-- The last film of a window with another number.
entry_changed : (most : ℕ) (x : Item) (a : ℕ) → Entry most x → a ≤ x.amount → Entry most (item x.film a)
entry_changed most x a entry few = record {
  film_least = entry.film_least;
  film_most = entry.film_most;
  amount_most = omega (arith, entry.amount_most);
}

module _ (d : Disk) (list : List Item) (some_slots : 1 ≤ d.slots) (some_load : 1 ≤ d.load) where
  -- The films of the disk's window, and what remains of its last one.
  abbrev films : List Item
  films = within (window_of d list) list

  abbrev rest : Item
  rest = remainder d.load films

  -- The viewers that the last film of a window gets where the window reaches the load.
  abbrev last_viewers : ℕ
  last_viewers = d.load - total (all_but_last films)

  -- All films of such a window but the last stay below the load, so the last film's viewers are at least 1.
  last_needed : d.load ≤ total films → total (all_but_last films) < d.load
  last_needed h = window_last_needed some_slots (window_cases d list some_load) h

  -- Those viewers are at most the amount of the last film, and so is the remainder.
  viewers_most : d.load ≤ total films → last_viewers ≤ (last_film films).amount
  viewers_most h = omega (arith, sum_by_last amount_of films (some_film films (omega arith)))

  rest_most : rest.amount ≤ (last_film films).amount
  rest_most =
      by_order (total films) d.load (λ h. omega arith)
      (λ h. omega (arith, last_needed h, sum_by_last amount_of films (some_film films (omega arith))))

  -- A disk has at most as many copies as slots.
  pub copies_slots : length (copies_of d list) ≤ d.slots
  copies_slots =
      omega (
        arith,
        sym (length-map (copies_of d list) film_of) ∙ ap length (stored_films d.load films some_load) ∙ length-map films film_of,
        films_length d list some_slots some_load,
        window_size (window_cases d list some_load),
      )

  -- Its films are distinct where those of the list are.
  copies_distinct : Distinct list → Distinct (copies_of d list)
  copies_distinct distinct f =
      omega (
        arith,
        distinct f,
        occurrences_same f (copies_of d list) films (stored_films d.load films some_load),
        before_sum d list some_slots some_load (one_if f),
      )

  -- The next list has no more films than the list before.
  pub after_count : length (list_after d list) ≤ length list
  after_count =
      omega (
        arith,
        length_sum (list_after d list),
        length_sum films,
        length_sum list,
        after_sum d list some_slots some_load one,
        before_sum d list some_slots some_load one,
        by_order 0 rest.amount returns leaves,
      )
    where
      returns : 1 ≤ rest.amount → cond (leb 1 rest.amount) 1 0 ≤ length films
      returns h = omega (arith, chosen {A = ℕ} rest.amount 1 0 h, some_film films (omega arith))

      leaves : rest.amount ≤ 0 → cond (leb 1 rest.amount) 1 0 ≤ length films
      leaves h = omega (arith, passed {A = ℕ} rest.amount 1 0 (omega arith))

  module _ (most : ℕ) (entries : Each (Entry most) list) where
    -- The films of the window are entries, and so is its last one.
    films_entries : Each (Entry most) films
    films_entries = each_within (Entry most) (window_of d list) list entries

    last_entry : 1 ≤ total films → Entry most (last_film films)
    last_entry h = each_last (Entry most) films (some_film films h) films_entries

    -- The copies are entries.
    copies_entries : Each (Entry most) (copies_of d list)
    copies_entries = by_order (total films) d.load below reaching
      where
        below : total films < d.load → Each (Entry most) (stored d.load films)
        below h = subst (λ (r : List Item). Each (Entry most) r) (sym (stored_below d.load films h)) films_entries

        reaching : d.load ≤ total films → Each (Entry most) (stored d.load films)
        reaching h =
            subst (λ (r : List Item). Each (Entry most) r) (sym (stored_reaching d.load films h))
            (each_append (Entry most) (all_but_last films) _ (each_all_but_last (Entry most) films films_entries)
            (entry_changed most (last_film films) last_viewers (last_entry (omega arith)) (viewers_most h), tt))

    -- The next list holds entries with numbers in the same range.
    pub after_entries : Each (Entry most) (list_after d list)
    after_entries =
        each_enter (Entry most) rest (outside (window_of d list) list)
        (λ h. entry_changed most (last_film films) rest.amount (last_entry (omega arith)) rest_most)
        (each_outside (Entry most) (window_of d list) list entries)

    -- A disk's copies are accepted.
    pub copies_accepted_lem : Distinct list → disk_accepted d (copies_of d list) ≡ true
    copies_accepted_lem distinct =
        disk_accepted_lem d (copies_of d list) most copies_slots (copies_distinct distinct) copies_entries
        (copies_load d list some_slots some_load)
