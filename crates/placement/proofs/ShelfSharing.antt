-- Demand 3 with shelf copies: a sharing gives them nobody, so that it serves no more than one without them.
use mathlib.Core.Path.{◌≡◌, refl, sym, ◌∙◌}
use mathlib.Core.Bool.{Bool, true, false, cond}
use mathlib.Core.List.{List, [], ◌∷◌, ◌++◌}
use Prim.Native.Nat.{ℕ, ◌≤◌}
use native.Mathlib.Omega.{arith}
use Rattle.placement.specs.Items.{Item, amount_of, amount_if, amount_for}
use Rattle.placement.specs.Rack.{Disk}
use Rattle.placement.specs.Method.{served}
use Rattle.placement.specs.Sharing.{Sharing, WithinLoads, viewers_of}
use Rattle.placement.specs.Promise.{Demand3}
use Rattle.placement.specs.Shelf.{has_free_slot, shelved_one, shelved}
use Rattle.placement.specs.WellFormed.{Each}
use Rattle.placement.proofs.Sums.{sum_by_append}
use Rattle.placement.proofs.Layouts.{together_served, together_viewers}
use Rattle.placement.proofs.Shelving.{Unwanted, shelved_kept}
use Rattle.placement.proofs.ShelfFilms.{unwanted_total, unwanted_amount}
use Rattle.placement.proofs.LessShares.{Less, less}

-- A disk serves no more with a shelf copy.
shelved_one_loads :
    (rack : List Disk) (x : Item) (layout : List (List Item)) → Unwanted x → WithinLoads rack layout → WithinLoads rack (shelved_one rack x layout)
shelved_one_loads [] x layout none loads = loads
shelved_one_loads (d ∷ ds) x [] none loads = loads
shelved_one_loads (d ∷ ds) x (copies ∷ rest) none loads = go (has_free_slot d copies) (shelved_one_loads ds x rest none loads.1)
  where
    go : (b : Bool) → WithinLoads ds (shelved_one ds x rest)
        → WithinLoads (d ∷ ds) (cond b ((copies ++ (x ∷ [])) ∷ rest) (copies ∷ shelved_one ds x rest))
    go true later = (omega (arith, sum_by_append amount_of copies (x ∷ []), none, loads.0), loads.1)
    go false later = (loads.0, later)

-- All disks serve as many viewers with shelf copies as without,
pub shelved_served :
    (rack : List Disk) (films : List Item) (layout : List (List Item)) → Each Unwanted films → served (shelved rack films layout) ≡ served layout
shelved_served rack films layout none =
    sym (together_served (shelved rack films layout))
    ∙ shelved_kept amount_of rack films layout (unwanted_total films none)
    ∙ together_served layout

-- and each film has as many.
shelved_viewers :
    (f : ℕ) (rack : List Disk) (films : List Item) (layout : List (List Item)) → Each Unwanted films
    → viewers_of f (shelved rack films layout) ≡ viewers_of f layout
shelved_viewers f rack films layout none =
    sym (together_viewers f (shelved rack films layout))
    ∙ shelved_kept (amount_if f) rack films layout (unwanted_amount f films none)
    ∙ together_viewers f layout

-- A film of a list without demand: nobody wants it.
abbrev pub Idle : List Item → Item → Type 0
Idle demands x = Unwanted x × (amount_for x.film demands ≡ 0)

module _ {k : ℕ} {disks : List Disk} {demands : List Item} {s u : ℕ} where
  -- Demand 3 holds with one shelf copy more,
  demand3_shelved_one :
      (x : Item) (layout : List (List Item)) → Idle demands x → Demand3 k disks demands layout s u
      → Demand3 k disks demands (shelved_one disks x layout) s u
  demand3_shelved_one x layout idle promised = record {
    own = record {
      same_copies = refl;
      within_loads = shelved_one_loads disks x layout idle.0 promised.own.within_loads;
      within_demands = λ f. omega (arith, shelved_viewers f disks (x ∷ []) layout (idle.0, tt), promised.own.within_demands f);
    };
    own_serves = shelved_served disks (x ∷ []) layout (idle.0, tt) ∙ promised.own_serves;
    best = best;
    whole = promised.whole;
    share = promised.share;
    square = promised.square;
    all_served = promised.all_served;
  }
    where
      best : (shares : List (List Item)) → Sharing disks demands (shelved_one disks x layout) shares → served shares ≤ s
      best shares sharing =
          omega (
            arith,
            p.serves,
            promised.best p.others
                (record {
                  same_copies = p.same_copies;
                  within_loads = p.within_loads sharing.within_loads;
                  within_demands = λ f. omega (arith, p.fewer f, sharing.within_demands f);
                }),
            sharing.within_demands x.film,
            idle.1,
          )
        where
          p : Less disks x layout shares
          p = less disks x layout shares sharing.same_copies

  -- and with all of them.
  pub demand3_shelved :
      (films : List Item) (layout : List (List Item)) → Each (Idle demands) films → Demand3 k disks demands layout s u
      → Demand3 k disks demands (shelved disks films layout) s u
  demand3_shelved [] layout idle promised = promised
  demand3_shelved (x ∷ xs) layout idle promised =
      demand3_shelved xs (shelved_one disks x layout) idle.1 (demand3_shelved_one x layout idle.0 promised)
