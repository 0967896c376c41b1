-- Tests that go over a table entry by entry: what one entry says of those from its place on, and the whole over the entries themselves.
use mathlib.Core.Path.{◌≡◌, refl, sym, ap, ◌∙◌}
use mathlib.Core.Bool.{Bool, true, false, not, cond, ◌&&◌}
use mathlib.Core.List.{List, [], ◌∷◌, map}
use Prim.Native.Nat.{ℕ, ◌+◌, ◌<◌}
use native.Mathlib.Numerals.{add-one}
use native.Mathlib.Omega.{arith}
use borrow.Author.Tests.{ne_eqb}
use lib.Dec.{leb, ltb, eqb}
use lib.ListN.{length, get_or, drop}
use lib.Seq.{drop-cons}
use Rattle.std.specs.List.{list_all}
use Rattle.placement.specs.Items.{Item, occurrences}
use Rattle.placement.specs.Copies.{unmarked}
use Rattle.placement.specs.Rack.{all_like}
use Rattle.placement.specs.Packed.{disk_in, disks_in}
use Rattle.placement.specs.Tables.{item_in, copy_in, copies_in}
use Rattle.placement.specs.Plan.{every, distinct_films, marks_accepted, ascending_above}
use Rattle.placement.proofs.Conjunctions.{first_fails, second_decides}
use Rattle.plan_text.specs.Held.{all_zero}

-- A test of a table: that of its first entry, then that of the entries behind it.
pub record Walk : Type 0 where
  pub whole : List ℕ → Bool
  pub first : ℕ → List ℕ → Bool
  pub rest : ℕ → List ℕ → Bool
  pub step : (e : ℕ) (es : List ℕ) → whole (e ∷ es) ≡ (first e es && rest e es)

module _ (w : Walk) (s : List ℕ) (i : ℕ) (h : i < length s) where
  -- The entry at the place, and those behind it.
  next : w.whole (drop i s) ≡ (w.first (get_or s i 0) (drop (i + 1) s) && w.rest (get_or s i 0) (drop (i + 1) s))
  next = rw add-one (ap w.whole (drop-cons s i 0 h) ∙ w.step _ _)

  -- Behind an entry that passes, the rest gives the answer.
  pub passes : w.first (get_or s i 0) (drop (i + 1) s) ≡ true → w.whole (drop i s) ≡ w.rest (get_or s i 0) (drop (i + 1) s)
  passes p = next ∙ sym (second_decides _ _ p)

  -- An entry that fails settles it.
  pub fails : w.first (get_or s i 0) (drop (i + 1) s) ≡ false → false ≡ w.whole (drop i s)
  fails p = first_fails _ _ p ∙ sym next

-- Every entry passes a test.
abbrev pub every_walk : (Item → Bool) → Walk
every_walk test = record {
  whole = λ es. every test (map item_in es);
  first = λ e es. test (item_in e);
  rest = λ e es. every test (map item_in es);
  step = λ e es. refl;
}

-- Every copy, without its mark, passes a test.
abbrev pub every_copy_walk : (Item → Bool) → Walk
every_copy_walk test = record {
  whole = λ es. every test (map unmarked (copies_in es));
  first = λ e es. test (unmarked (copy_in e));
  rest = λ e es. every test (map unmarked (copies_in es));
  step = λ e es. refl;
}

-- Every mark is 0 or 1.
abbrev pub marks_walk : Walk
marks_walk = record {
  whole = λ es. marks_accepted (copies_in es);
  first = λ e es. leb (copy_in e).mark 1;
  rest = λ e es. marks_accepted (copies_in es);
  step = λ e es. refl;
}

-- Every place is zero.
abbrev pub zero_walk : Walk
zero_walk = record { whole = all_zero; first = λ e es. eqb e 0; rest = λ e es. all_zero es; step = λ e es. refl }

-- Every disk has these slots and this load.
abbrev pub like_walk : ℕ → ℕ → Walk
like_walk slots load = record {
  whole = λ es. all_like slots load (disks_in es);
  first = λ e es. eqb slots (disk_in e).slots && eqb load (disk_in e).load;
  rest = λ e es. all_like slots load (disks_in es);
  step = λ e es. refl;
}

-- No copies have one film.
abbrev pub distinct_walk : Walk
distinct_walk = record {
  whole = λ es. distinct_films (map unmarked (copies_in es));
  first = λ e es. eqb (occurrences (copy_in e).film (map unmarked (copies_in es))) 0;
  rest = λ e es. distinct_films (map unmarked (copies_in es));
  step = λ e es. refl;
}

-- The films ascend from above one.
abbrev pub ascending_walk : ℕ → Walk
ascending_walk last = record {
  whole = λ es. ascending_above last (map item_in es);
  first = λ e es. ltb last (item_in e).film;
  rest = λ e es. ascending_above (item_in e).film (map item_in es);
  step = λ e es. refl;
}

-- One film and others are none of a film where neither it nor they are.
pub none_of : (same : Bool) (n : ℕ) → eqb (cond same 1 0 + n) 0 ≡ (not same && eqb n 0)
none_of true n = ne_eqb (1 + n) 0 (λ e. omega arith)
none_of false n =
    let zero_first : 0 + n ≡ n = omega arith in
    ap (λ (m : ℕ). eqb m 0) zero_first

-- No copy has a film.
abbrev pub absent_walk : ℕ → Walk
absent_walk film = record {
  whole = λ es. eqb (occurrences film (map unmarked (copies_in es))) 0;
  first = λ e es. not (eqb film (copy_in e).film);
  rest = λ e es. eqb (occurrences film (map unmarked (copies_in es))) 0;
  step = λ e es. none_of (eqb film (copy_in e).film) (occurrences film (map unmarked (copies_in es)));
}

-- Over the entries themselves: every entry passes a test.
pub every_all : (test : Item → Bool) (s : List ℕ) → list_all (λ n. test (item_in n)) s ≡ every test (map item_in s)
every_all test [] = refl
every_all test (n ∷ ns) = ap (λ (b : Bool). test (item_in n) && b) (every_all test ns)

-- Every copy, without its mark, passes a test.
pub every_copy_all : (test : Item → Bool) (s : List ℕ) → list_all (λ n. test (unmarked (copy_in n))) s ≡ every test (map unmarked (copies_in s))
every_copy_all test [] = refl
every_copy_all test (n ∷ ns) = ap (λ (b : Bool). test (unmarked (copy_in n)) && b) (every_copy_all test ns)

-- Every mark is 0 or 1.
pub marks_all : (s : List ℕ) → list_all (λ n. leb (copy_in n).mark 1) s ≡ marks_accepted (copies_in s)
marks_all [] = refl
marks_all (n ∷ ns) = ap (λ (b : Bool). leb (copy_in n).mark 1 && b) (marks_all ns)

-- Every place is zero.
pub zero_all : (s : List ℕ) → list_all (λ n. eqb n 0) s ≡ all_zero s
zero_all [] = refl
zero_all (n ∷ ns) = ap (λ (b : Bool). eqb n 0 && b) (zero_all ns)

-- No copy has a film.
pub absent_all : (film : ℕ) (s : List ℕ) → list_all (λ n. not (eqb film (copy_in n).film)) s ≡ eqb (occurrences film (map unmarked (copies_in s))) 0
absent_all film [] = refl
absent_all film (n ∷ ns) =
    ap (λ (b : Bool). not (eqb film (copy_in n).film) && b) (absent_all film ns)
    ∙ sym (none_of (eqb film (copy_in n).film) (occurrences film (map unmarked (copies_in ns))))
