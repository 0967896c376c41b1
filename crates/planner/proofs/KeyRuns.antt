-- Runs of the keys: the films in front, the list behind them, which is lent and comes back, and what is left as one run of both.
use mathlib.Core.Path.{◌≡◌, sym, ap, ◌∙◌}
use mathlib.Core.List.{List, [], ◌++◌, map, map-append, append-nil}
use Prim.Native.Nat.{ℕ, ◌+◌, ◌-◌, ◌≤◌}
use native.Mathlib.Omega.{arith}
use lib.ListN.{length, take, drop, length-append, length-drop, drop_of_length-le}
use lib.Seq.{length-take-le, take-take, take_at, drop_at, take-append-add, drop-append-le}
use borrow.Rule.Slice.PartMut.{put_mid, take_put}
use Rattle.placement.specs.Items.{Item}
use Rattle.placement.proofs.ReadBack.{front_length}
use Rattle.planner.specs.Keys.{item_of, items_of}
use Rattle.planner.proofs.Cuts.{take_map, drop_map, take_drop}

-- The first n keys stand for two lists, one behind the other.
module _
    (keys : List ℕ) (n m : ℕ) (room : n ≤ length keys) (front behind : List Item) (items : items_of n keys ≡ front ++ behind)
    (is : m ≡ length front)
  where
    within : m ≤ n
    within = omega (arith, front_length n keys room, ap length items, length-append front behind)

    -- The first m are the one,
    pub items_front : items_of m keys ≡ front
    items_front =
        ap (map item_of) (sym (take-take m n keys within))
        ∙ sym (take_map item_of m (take n keys))
        ∙ ap (take m) items
        ∙ take_at front behind m (sym is)

    -- and the part from m on begins with the other.
    pub items_behind : items_of (n - m) (take (length keys - m) (drop m keys)) ≡ behind
    items_behind =
        ap (map item_of)
        (take-take (n - m) (length keys - m) (drop m keys) (omega (arith, within))
        ∙ take_drop m (n - m) keys
        ∙ ap (λ (k : ℕ). drop m (take k keys)) all)
        ∙ sym (drop_map item_of m (take n keys))
        ∙ ap (drop m) items
        ∙ drop_at front behind m (sym is)
      where
        all : m + (n - m) ≡ n
        all = omega (arith, within)

-- Of the keys, those from `films` on were lent as `part`, which came back.
module _ (keys part : List ℕ) (films : ℕ) (room : films ≤ length keys) where
  abbrev after : List ℕ
  after = put_mid films (length keys - films) keys part

  -- The films in front are as they were.
  pub films_kept : items_of films after ≡ items_of films keys
  films_kept = ap (map item_of) (take_put films (length keys - films) keys part room)

  -- The keys are the films and the part.
  parts : after ≡ take films keys ++ part
  parts = ap (λ (r : List ℕ). take films keys ++ (part ++ r)) none ∙ ap (λ (r : List ℕ). take films keys ++ r) (append-nil part)
    where
      none : drop (length keys - films) (drop films keys) ≡ []
      none = drop_of_length-le (drop films keys) {i = length keys - films} (omega (arith, length-drop films keys))

  front : length (take films keys) ≡ films
  front = length-take-le films keys room

  pub parts_length : length after ≡ films + length part
  parts_length = ap length parts ∙ length-append (take films keys) part ∙ ap (λ (n : ℕ). n + length part) front

  -- From a film on, the run is the films behind it and what the part begins with.
  pub run_left :
      (placed left : ℕ) → placed ≤ films → left ≤ length part
      → items_of (films - placed + left) (take (length after - placed) (drop placed after)) ≡ drop placed (items_of films after) ++ items_of left part
  run_left placed left some fits =
      ap (map item_of)
      (take-take (films - placed + left) (length after - placed) (drop placed after) (omega (arith, parts_length))
      ∙ ap (take (films - placed + left)) (ap (drop placed) parts ∙ drop-append-le placed (take films keys) part (omega (arith, front)))
      ∙ ap (λ (n : ℕ). take (n + left) (drop placed (take films keys) ++ part)) (sym behind)
      ∙ take-append-add (drop placed (take films keys)) part left)
      ∙ map-append item_of (drop placed (take films keys)) (take left part)
      ∙ ap (λ (xs : List Item). xs ++ items_of left part) (sym (drop_map item_of placed (take films keys)) ∙ ap (drop placed) (sym films_kept))
    where
      behind : length (drop placed (take films keys)) ≡ films - placed
      behind = length-drop placed (take films keys) ∙ ap (λ (n : ℕ). n - placed) front
