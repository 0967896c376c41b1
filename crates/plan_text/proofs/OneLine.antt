-- The lines of a text have no line feed inside.
use mathlib.Core.Path.{◌≡◌, refl, ap, ◌∙◌}
use mathlib.Core.Bool.{Bool, true, not, ◌&&◌}
use mathlib.Core.List.{List, [], ◌∷◌, ◌++◌}
use Prim.Native.Nat.{ℕ, zero, suc, ◌/◌, ◌%◌, ◌≤◌}
use native.Mathlib.Omega.{arith}
use borrow.Author.Tests.{ne_eqb}
use Rattle.placement.specs.Items.{Item}
use Rattle.placement.specs.Copies.{Copy}
use Rattle.placement.proofs.Tests.{by_order}
use Rattle.plan_text.specs.Decimal.{digit, decimal}
use Rattle.plan_text.specs.Text.{space, closed, line_feed, pair_text, spaced_text, pairs_text, mark_end, copy_text, copies_text, rack_line, mixed_head, disk_head, left_head, served_line}
use Rattle.plan_text.proofs.Decimals.{decimal_small, decimal_large}
use Rattle.plan_text.proofs.Upto.{one_line, one_line_append}

-- A digit is no line feed.
one_line_digit : (d : ℕ) → one_line (digit d ∷ []) ≡ true
one_line_digit d = ap (λ (b : Bool). not b && true) (ne_eqb (digit d) line_feed (λ e. absurd (omega arith)))

-- By the number of divisions by 10.
decimal_within : (steps n : ℕ) → n ≤ steps → one_line (decimal n) ≡ true
decimal_within zero n h = ap one_line (decimal_small n (omega arith)) ∙ one_line_digit n
decimal_within (suc steps) n h =
    by_order n 10
    (λ less. ap one_line (decimal_small n less) ∙ one_line_digit n)
    (λ more.
    ap one_line (decimal_large n more)
    ∙ one_line_append (decimal (n / 10)) (digit (n % 10) ∷ []) (decimal_within steps (n / 10) (omega arith)) (one_line_digit (n % 10)))

-- A decimal number has no line feed.
decimal_one_line : (n : ℕ) → one_line (decimal n) ≡ true
decimal_one_line n = decimal_within n n (omega arith)

-- A pair has no line feed.
pair_one_line : (x : Item) → one_line (pair_text x) ≡ true
pair_one_line x =
    one_line_append (decimal x.film) (space ∷ (decimal x.amount ++ (closed ∷ []))) (decimal_one_line x.film)
    (one_line_append (decimal x.amount) (closed ∷ []) (decimal_one_line x.amount) refl)

-- A copy has no line feed.
mark_one_line : (m : ℕ) → one_line (mark_end m) ≡ true
mark_one_line zero = refl
mark_one_line (suc m) = refl

copy_one_line : (c : Copy) → one_line (copy_text c) ≡ true
copy_one_line c =
    one_line_append (decimal c.film) (space ∷ (decimal c.viewers ++ mark_end c.mark)) (decimal_one_line c.film)
    (one_line_append (decimal c.viewers) (mark_end c.mark) (decimal_one_line c.viewers) (mark_one_line c.mark))

-- Values without a line feed have none one behind the other.
spaced_one_line : {A : Type 0} (text : A → List ℕ) → ((x : A) → one_line (text x) ≡ true) → (xs : List A) → one_line (spaced_text text xs) ≡ true
spaced_one_line text each [] = refl
spaced_one_line text each (x ∷ xs) = one_line_append (text x) (spaced_text text xs) (each x) (spaced_one_line text each xs)

pairs_one_line : (xs : List Item) → one_line (pairs_text xs) ≡ true
pairs_one_line = spaced_one_line pair_text pair_one_line

copies_one_line : (cs : List Copy) → one_line (copies_text cs) ≡ true
copies_one_line = spaced_one_line copy_text copy_one_line

-- None of the five kinds of lines has a line feed inside.
pub rack_one_line : (n k l : ℕ) → one_line (rack_line n k l) ≡ true
rack_one_line n k l =
    one_line_append (decimal n) (space ∷ (decimal k ++ (space ∷ (decimal l ++ (closed ∷ []))))) (decimal_one_line n)
    (one_line_append (decimal k) (space ∷ (decimal l ++ (closed ∷ []))) (decimal_one_line k)
    (one_line_append (decimal l) (closed ∷ []) (decimal_one_line l) refl))

pub mixed_one_line : (xs : List Item) → one_line (mixed_head ++ pairs_text xs) ≡ true
mixed_one_line xs = pairs_one_line xs

pub disk_one_line : (number : ℕ) (cs : List Copy) → one_line (disk_head number ++ copies_text cs) ≡ true
disk_one_line number cs = one_line_append (disk_head number) (copies_text cs) (decimal_one_line number) (copies_one_line cs)

pub left_one_line : (xs : List Item) → one_line (left_head ++ pairs_text xs) ≡ true
left_one_line xs = pairs_one_line xs

pub served_one_line : (s u : ℕ) → one_line (served_line s u) ≡ true
served_one_line s u =
    one_line_append (decimal s) (space ∷ (decimal u ++ (closed ∷ []))) (decimal_one_line s)
    (one_line_append (decimal u) (closed ∷ []) (decimal_one_line u) refl)
