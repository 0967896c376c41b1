-- The first places of tables that hold a plan, stored in others, hold it there.
use mathlib.Core.Path.{◌≡◌, sym, ap, ap₂, ◌∙◌}
use mathlib.Core.Bool.{true}
use mathlib.Core.List.{List, ◌++◌, map}
use Prim.Native.Nat.{ℕ}
use lib.ListN.{length, drop, length-map}
use Rattle.placement.specs.Items.{Item}
use Rattle.placement.specs.Copies.{halves_of}
use Rattle.placement.specs.Tables.{Tables, tables, entry_of, places, written}
use Rattle.placement.specs.Plan.{Plan, well_formed}
use Rattle.placement.proofs.Formed.{plan_lists}
use Rattle.placement.proofs.Written.{written_front}
use Rattle.placement.proofs.ReadBack.{plan_fits, fits_length}
use Rattle.plan_text.specs.ReadCall.{holding_plan}
use Rattle.reader.specs.Stored.{front_copied, fronts_copied}

-- The first places of a table that was overwritten are what overwrote it.
copied_written : (new work to : List ℕ) (n : ℕ) → length new ≡ n → front_copied n (written new work) to ≡ written new to
copied_written new work to n e =
    ap (λ (l : List ℕ). l ++ drop n to) (written_front new work n e) ∙ ap (λ (i : ℕ). new ++ drop i to) (sym e)

-- The first places of tables that hold a plan, stored in others, hold it there.
pub copied :
    (p : Plan) (work to : Tables) → well_formed p ≡ true
    → fronts_copied p.rack (length p.left) (holding_plan p work) to ≡ holding_plan p to
copied p work to formed =
    ap₂ (λ (a b : List ℕ). tables a b (front_copied (length p.left) (written (map entry_of p.left) work.left) to.left))
    (copied_written (places p.rack halves) work.copies to.copies _ (fits_length p.rack halves (plan_fits p formed)))
    (copied_written (map length halves) work.counts to.counts _
    (length-map halves length ∙ length-map p.copies (map halves_of) ∙ plan_lists p formed))
    ∙ ap (tables _ _) (copied_written (map entry_of p.left) work.left to.left _ (length-map p.left entry_of))
  where
    halves : List (List Item)
    halves = map (map halves_of) p.copies
