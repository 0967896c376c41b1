-- Shares of a layout: all of them as one list, and which films they may hold.
use mathlib.Core.Path.{◌≡◌, refl}
use mathlib.Core.List.{List, [], ◌∷◌, ◌++◌, map}
use Prim.Native.Nat.{ℕ, ◌≤◌}
use native.Mathlib.Omega.{arith}
use Rattle.placement.specs.Items.{Item, total, film_of, amount_if, amount_for, one_if, occurrences}
use Rattle.placement.specs.Rack.{Disk}
use Rattle.placement.specs.Window.{within, window_of}
use Rattle.placement.specs.Disk.{list_after}
use Rattle.placement.specs.Method.{placement, served}
use Rattle.placement.specs.Sharing.{films_on, viewers_of}
use Rattle.placement.proofs.Tests.{by_order}
use Rattle.placement.proofs.Sums.{sum_by_append}
use Rattle.placement.proofs.Disks.{stored_films, before_sum}
use Rattle.placement.proofs.Films.{Usable, occurrences_same, after_occurrences}

-- The copies of all disks in one list.
abbrev pub together : List (List Item) → List Item
together [] = []
together (copies ∷ rest) = copies ++ together rest

pub together_served : (shares : List (List Item)) → total (together shares) ≡ served shares
together_served [] = refl
together_served (copies ∷ rest) = omega (arith, sum_by_append (λ x. x.amount) copies (together rest), together_served rest)

pub together_viewers : (f : ℕ) (shares : List (List Item)) → amount_for f (together shares) ≡ viewers_of f shares
together_viewers f [] = refl
together_viewers f (copies ∷ rest) =
    omega (arith, sum_by_append (amount_if f) copies (together rest), together_viewers f rest)

-- The shares are of the films that the method stores: on each disk those of its window.
abbrev pub OnWindows : List Disk → List Item → List (List Item) → Type 0
OnWindows [] list [] = Unit {0}
OnWindows [] list (copies ∷ rest) = ⊥
OnWindows (d ∷ ds) list [] = ⊥
OnWindows (d ∷ ds) list (copies ∷ rest) =
    ((f : ℕ) → occurrences f copies ≡ occurrences f (within (window_of d list) list))
    × OnWindows ds (list_after d list) rest

-- Shares over the method's copies are such.
pub same_copies_on_windows :
    (disks : List Disk) (list : List Item) (shares : List (List Item)) → Usable disks
    → films_on shares ≡ films_on (placement disks list) → OnWindows disks list shares
same_copies_on_windows [] list [] usable e = tt
same_copies_on_windows [] list (copies ∷ rest) usable e = let z : ◌≡◌ {A = ℕ} 0 1 = cc in absurd (omega arith)
same_copies_on_windows (d ∷ ds) list [] usable e = let z : ◌≡◌ {A = ℕ} 0 1 = cc in absurd (omega arith)
same_copies_on_windows (d ∷ ds) list (copies ∷ rest) usable e =
    let here : map film_of copies ≡ map film_of (within (window_of d list) list) = cc (stored_films d.load (within (window_of d list) list) usable.1) in
    let later : films_on rest ≡ films_on (placement ds (list_after d list)) = cc in (
      λ f. occurrences_same f copies (within (window_of d list) list) here,
      same_copies_on_windows ds (list_after d list) rest usable.2 later,
    )

-- A film that is not in the list is on no disk.
pub on_windows_absent :
    (disks : List Disk) (list : List Item) (shares : List (List Item)) → Usable disks → OnWindows disks list shares
    → (f : ℕ) → occurrences f list ≡ 0 → occurrences f (together shares) ≡ 0
on_windows_absent [] list [] usable on f h = refl
on_windows_absent [] list (copies ∷ rest) usable on f h = absurd on
on_windows_absent (d ∷ ds) list [] usable on f h = absurd on
on_windows_absent (d ∷ ds) list (copies ∷ rest) usable on f h =
    omega (
      arith,
      sum_by_append (one_if f) copies (together rest),
      on.0 f,
      before_sum d list usable.0 usable.1 (one_if f),
      on_windows_absent ds (list_after d list) rest usable.2 on.1 f
          (omega (arith, after_occurrences d list usable.0 usable.1 f)),
    )

-- A film on a disk is in the list.
pub on_windows_present :
    (disks : List Disk) (list : List Item) (shares : List (List Item)) → Usable disks → OnWindows disks list shares
    → (f : ℕ) → 1 ≤ occurrences f (together shares) → 1 ≤ occurrences f list
on_windows_present disks list shares usable on f h =
    by_order 0 (occurrences f list) (λ some. some)
    (λ none. absurd (omega (arith, on_windows_absent disks list shares usable on f (omega arith))))
