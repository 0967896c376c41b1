-- The search through the openings, film by film: what is known when the first ones are passed.
use mathlib.Core.Path.{◌≡◌, refl, sym, ap, ◌∙◌, subst}
use mathlib.Core.Bool.{Bool, cond}
use mathlib.Core.List.{List}
use Prim.Native.Nat.{ℕ, suc, ◌+◌, ◌-◌, ◌≤◌, ◌<◌, min}
use native.Mathlib.Nat.{sub-zero}
use native.Mathlib.Numerals.{add-one}
use native.Mathlib.Omega.{arith}
use borrow.Author.Tests.{le-leb, lt-leb}
use lib.ListN.{length, take, get_or}
use Rattle.placement.specs.Items.{total}
use Rattle.placement.specs.Rack.{most_demand}
use Rattle.placement.specs.Window.{Window, window, series, openings, first_reaching}
use Rattle.placement.specs.WellFormed.{Each, Entry}
use Rattle.planner.specs.Search.{Opened}
use Rattle.placement.proofs.ReadBack.{front_length}
use Rattle.placement.proofs.WindowSums.{opening_bounded}
use Rattle.planner.specs.Keys.{items_of, item_of}
use Rattle.planner.proofs.Runs.{prefix_more}
use Rattle.planner.proofs.Search.{search_passes, search_finds}

-- The opening of so many films.
abbrev pub prefix : ℕ → Window
prefix m = window 0 m

-- `count` films are passed and none of these openings reaches the load.
pub record OpeningsPassed (keys : List ℕ) (n slots load most count sum : ℕ) : Type 0 where
  pub most_is : most ≡ min slots n
  pub few : count ≤ most
  pub sums : sum ≡ total (take count (items_of n keys))
  pub low : sum < load
  pub search :
      (other : Window)
      → first_reaching load (items_of n keys) (series prefix 1 most) other
      ≡ first_reaching load (items_of n keys) (series prefix (suc count) (most - count)) other

-- At first no film is passed.
pub openings_begin : (keys : List ℕ) (n slots load most : ℕ) → most ≡ min slots n → 1 ≤ load → OpeningsPassed keys n slots load most 0 0
openings_begin keys n slots load most e some = record {
  most_is = e;
  few = omega arith;
  sums = refl;
  low = some;
  search = λ other. ap (λ (m : ℕ). first_reaching load (items_of n keys) (series prefix 1 m) other) (sym (sub-zero most));
}

module _ {keys : List ℕ} {n slots load most count sum : ℕ} (room : n ≤ length keys) (p : OpeningsPassed keys n slots load most count sum) where
  -- The search through the openings goes on behind the films passed.
  goes_on :
      (other : Window)
      → first_reaching load (items_of n keys) (openings slots (length (items_of n keys))) other
      ≡ first_reaching load (items_of n keys) (series prefix (suc count) (most - count)) other
  goes_on other =
      ap (λ (m : ℕ). first_reaching load (items_of n keys) (series prefix 1 m) other)
      (ap (λ (m : ℕ). min slots m) (front_length n keys room) ∙ sym p.most_is)
      ∙ p.search other

  -- No film is left.
  pub openings_end : most ≤ count → Opened slots load (items_of n keys) count sum
  openings_end h = record {
    search = λ other.
        goes_on other
        ∙ ap (λ (m : ℕ). first_reaching load (items_of n keys) (series prefix (suc count) m) other) none_left
        ∙ sym (ap (λ (b : Bool). cond b (window 0 count) other) (lt-leb load sum p.low));
    sums = p.sums;
    longest = λ _. omega (arith, p.most_is, p.few, ap (λ (m : ℕ). min slots m) (front_length n keys room));
  }
    where
      none_left : most - count ≡ 0
      none_left = omega arith

  module _ {a : ℕ} (a_is : a ≡ (item_of (get_or keys count 0)).amount) (h : count < most) where
    sums_more : sum + a ≡ total (take (suc count) (items_of n keys))
    sums_more = omega (arith, prefix_more keys n room count (omega (arith, p.most_is)), p.sums, a_is)

    one_left : most - count ≡ suc (most - suc count)
    one_left = omega arith

    -- One film more keeps to the bound.
    pub openings_bounded : Each (Entry most_demand) (items_of n keys) → sum + a + 1 ≤ load + most_demand
    openings_bounded entries =
        omega (arith, sums_more, opening_bounded load (items_of n keys) entries count (omega (arith, p.sums, p.low)))

    -- One film more, still below the load.
    pub openings_pass : sum + a < load → OpeningsPassed keys n slots load most (count + 1) (sum + a)
    openings_pass low =
        rw add-one
        (record {
          most_is = p.most_is;
          few = omega arith;
          sums = sums_more;
          low = low;
          search = λ other.
              p.search other
              ∙ search_passes load (items_of n keys) prefix other (suc count) (most - count) (most - suc count) one_left
              (subst (λ (t : ℕ). t < load) sums_more low);
        })

    -- One film more reaches the load.
    pub openings_find : load ≤ sum + a → Opened slots load (items_of n keys) (count + 1) (sum + a)
    openings_find high =
        rw add-one
        (record {
          search = λ other.
              goes_on other
              ∙ search_finds load (items_of n keys) prefix other (suc count) (most - count) (most - suc count) one_left
              (subst (λ (t : ℕ). load ≤ t) sums_more high)
              ∙ sym (ap (λ (b : Bool). cond b (window 0 (suc count)) other) (le-leb load (sum + a) high));
          sums = sums_more;
          longest = λ low. absurd (omega arith);
        })
