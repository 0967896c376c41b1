-- Laws of the number of a table's entries and of the sum of their amounts.
use mathlib.Core.Path.{◌≡◌, sym, ap, ◌∙◌}
use mathlib.Core.Bool.{true, false}
use mathlib.Core.List.{List, [], ◌∷◌, ◌++◌, map}
use Prim.Native.Nat.{ℕ, suc, ◌+◌, ◌*◌, ◌≤◌, ◌<◌, min}
use native.Mathlib.Numerals.{add-one}
use native.Mathlib.Omega.{arith}
use borrow.Author.Tests.{lt-leb, le-leb}
use lib.Dec.{leb}
use lib.ListN.{length, get_or, take, length-map}
use lib.Seq.{take-suc}
use Rattle.std.specs.List.{fold}
use Rattle.placement.specs.Items.{total}
use Rattle.placement.specs.Rack.{Disk}
use Rattle.placement.specs.Copies.{unmarked, copy_of}
use Rattle.placement.specs.Tables.{item_in, copies_in}
use Rattle.placement.specs.Plan.{every, distinct_films, copy_accepted, disk_accepted}
use Rattle.placement.proofs.Conjunctions.{second_decides, third_decides}
use Rattle.placement.proofs.MarkedCopies.{copied_total}
use Rattle.placement.proofs.Tests.{by_order}
use Rattle.well_formed.specs.Sum.{Summed, capped}

-- There are as many items as entries.
pub few_enough : (s : List ℕ) (most : ℕ) → length s ≤ most → leb (length (map item_in s)) most ≡ true
few_enough s most h = le-leb (length (map item_in s)) most (omega (arith, length-map s item_in))

pub too_many : (s : List ℕ) (most : ℕ) → most < length s → leb (length (map item_in s)) most ≡ false
too_many s most h = lt-leb (length (map item_in s)) most (omega (arith, length-map s item_in))

-- There are as many copies.
copies_count : (s : List ℕ) → length (map unmarked (copies_in s)) ≡ length s
copies_count s = length-map (copies_in s) unmarked ∙ length-map (map item_in s) copy_of ∙ length-map s item_in

pub few_copies : (s : List ℕ) (most : ℕ) → length s ≤ most → leb (length (map unmarked (copies_in s))) most ≡ true
few_copies s most h = le-leb (length (map unmarked (copies_in s))) most (omega (arith, copies_count s))

pub many_copies : (s : List ℕ) (most : ℕ) → most < length s → leb (length (map unmarked (copies_in s))) most ≡ false
many_copies s most h = lt-leb (length (map unmarked (copies_in s))) most (omega (arith, copies_count s))

-- One entry behind others adds its amount.
total_last : (es : List ℕ) (e : ℕ) → total (map item_in (es ++ (e ∷ []))) ≡ total (map item_in es) + (item_in e).amount
total_last [] e = omega arith
total_last (x ∷ es) e = omega (arith, total_last es e)

-- One entry more.
pub total_more :
    (s : List ℕ) (i : ℕ) → i < length s
    → total (map item_in (take (i + 1) s)) ≡ total (map item_in (take i s)) + (item_in (get_or s i 0)).amount
total_more s i h =
    rw add-one (ap (λ (es : List ℕ). total (map item_in es)) (take-suc s i 0 h) ∙ total_last (take i s) (get_or s i 0))

-- The sum of all amounts, cut off at the largest number of 64 bits at each step.
total_folded :
    (s : List ℕ) (sum : ℕ) → sum ≤ 18446744073709551615
    → fold (λ sum amount. min (sum + amount) 18446744073709551615) sum (map (λ n. (item_in n).amount) s) ≡ capped (sum + total (map item_in s))
total_folded [] sum small = omega arith
total_folded (n ∷ ns) sum small = total_folded ns (capped (sum + (item_in n).amount)) (omega arith) ∙ omega arith

-- Amounts of 32 bits.
total_bound : (s : List ℕ) → ((i : ℕ) → get_or s i 0 < 18446744073709551616) → total (map item_in s) ≤ 4294967295 * length s
total_bound [] small = omega arith
total_bound (n ∷ ns) small = omega (arith, total_bound ns (λ i. small (suc i)), small 0)

pub summed :
    (s : List ℕ) (sum : ℕ) → ((i : ℕ) → get_or s i 0 < 18446744073709551616)
    → sum ≡ fold (λ sum amount. min (sum + amount) 18446744073709551615) 0 (map (λ n. (item_in n).amount) s) → Summed (map item_in s) sum
summed s sum small e =
    let folded = total_folded s 0 (omega arith) in record {
      always = omega (arith, e, folded);
      plain = λ few. omega (arith, e, folded, total_bound s small, length-map s item_in, few);
    }

-- A limit below the cap tests the same with it.
pub leb_capped : (n limit : ℕ) → limit < 18446744073709551615 → leb (capped n) limit ≡ leb n limit
leb_capped n limit h =
    by_order limit n
    (λ more. lt-leb (capped n) limit (omega arith) ∙ sym (lt-leb n limit more))
    (λ few. le-leb (capped n) limit (omega arith) ∙ sym (le-leb n limit few))

-- Distinct and accepted copies, few enough for a disk, are accepted by it where their sum is.
pub copies_fit_lem :
    (d : Disk) (s : List ℕ) {sum : ℕ} → length s ≤ d.slots → distinct_films (map unmarked (copies_in s)) ≡ true
    → every copy_accepted (map unmarked (copies_in s)) ≡ true → d.load < 18446744073709551615 → sum ≡ capped (total (map item_in s))
    → leb sum d.load ≡ disk_accepted d (map unmarked (copies_in s))
copies_fit_lem d s few distinct accepted small is =
    ap (λ (n : ℕ). leb n d.load) is
    ∙ leb_capped (total (map item_in s)) d.load small
    ∙ ap (λ (n : ℕ). leb n d.load) (sym (copied_total (map item_in s)))
    ∙ second_decides _ _ accepted
    ∙ third_decides _ _ _ (le-leb (length (map unmarked (copies_in s))) d.slots (omega (arith, copies_count s))) distinct
