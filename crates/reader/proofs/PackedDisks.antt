-- Packed disks: the first ones, those behind them, one of them, and pairs as disks.
use mathlib.Core.Path.{◌≡◌, refl, sym, ap, ◌∙◌}
use mathlib.Core.List.{List, [], ◌∷◌, ◌++◌, map, map-append}
use Prim.Native.Nat.{ℕ, zero, suc, ◌+◌}
use native.Mathlib.Numerals.{add-one}
use lib.ListN.{take, drop, get_or, replicate, get_or-map}
use Rattle.placement.specs.Rack.{Disk}
use Rattle.placement.specs.Tables.{item_in}
use Rattle.placement.specs.Packed.{disk_in, disks_in}
use Rattle.placement.proofs.Offsets.{disk_at}
use Rattle.plan_text.specs.Reading.{item_disk}

pub take_disks : (n : ℕ) (s : List ℕ) → disks_in (take n s) ≡ take n (disks_in s)
take_disks zero s = refl
take_disks (suc n) [] = refl
take_disks (suc n) (x ∷ xs) = ap (λ (r : List Disk). disk_in x ∷ r) (take_disks n xs)

drop_disks : (n : ℕ) (s : List ℕ) → disks_in (drop n s) ≡ drop n (disks_in s)
drop_disks zero s = refl
drop_disks (suc n) [] = refl
drop_disks (suc n) (x ∷ xs) = drop_disks n xs

-- Disks in front, and the others of a list behind them.
pub over_disks : (front rest : List ℕ) (n : ℕ) → disks_in (front ++ drop n rest) ≡ disks_in front ++ drop n (disks_in rest)
over_disks front rest n = map-append disk_in front (drop n rest) ∙ ap (λ (r : List Disk). disks_in front ++ r) (drop_disks n rest)

-- Equal disks.
pub same_disks : (n number : ℕ) → disks_in (replicate n number) ≡ replicate n (disk_in number)
same_disks zero number = refl
same_disks (suc n) number = ap (λ (r : List Disk). disk_in number ∷ r) (same_disks n number)

-- One more of them.
pub replicate_more : (n number : ℕ) → replicate n number ++ (number ∷ []) ≡ replicate (n + 1) number
replicate_more n number = go n ∙ ap (λ (m : ℕ). replicate m number) (sym (add-one n))
  where
    go : (n : ℕ) → replicate n number ++ (number ∷ []) ≡ replicate (suc n) number
    go zero = refl
    go (suc n) = ap (λ (r : List ℕ). number ∷ r) (go n)

-- One disk.
pub disk_at_lem : (s : List ℕ) (i : ℕ) → disk_at (disks_in s) i ≡ disk_in (get_or s i 0)
disk_at_lem s i = get_or-map disk_in s i 0

-- Pairs as disks.
pub items_disks : (s : List ℕ) → map item_disk (map item_in s) ≡ disks_in s
items_disks [] = refl
items_disks (x ∷ xs) = ap (λ (r : List Disk). disk_in x ∷ r) (items_disks xs)
