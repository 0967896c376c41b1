-- Entries as numbers: an item is read back from its entry, and an entry is that of its item.
use mathlib.Core.Path.{◌≡◌, refl, ap₂}
use mathlib.Core.List.{List, [], ◌∷◌, map}
use Prim.Native.Nat.{ℕ, ◌+◌, ◌*◌, ◌/◌, ◌%◌, ◌<◌}
use native.Mathlib.Omega.{arith}
use Rattle.placement.specs.Items.{Item, item}
use Rattle.placement.specs.Tables.{entry_of, item_in}
use Rattle.placement.specs.WellFormed.{Each}

-- A film of 32 bits is read back with its number.
pub item_entry : (x : Item) → x.film < 4294967296 → item_in (entry_of x) ≡ x
item_entry x small = ap₂ item film amount
  where
    film : (x.amount * 4294967296 + x.film) % 4294967296 ≡ x.film
    film = omega (arith, small)

    amount : (x.amount * 4294967296 + x.film) / 4294967296 ≡ x.amount
    amount = omega (arith, small)

-- Every entry is that of its item.
pub entry_item : (entry : ℕ) → entry_of (item_in entry) ≡ entry
entry_item entry = omega arith

-- So for a list of them.
pub items_entries : (xs : List Item) → Each (λ x. x.film < 4294967296) xs → map item_in (map entry_of xs) ≡ xs
items_entries [] small = refl
items_entries (x ∷ xs) small = ap₂ (λ (y : Item) (ys : List Item). y ∷ ys) (item_entry x small.0) (items_entries xs small.1)

pub entries_items : (entries : List ℕ) → map entry_of (map item_in entries) ≡ entries
entries_items [] = refl
entries_items (e ∷ es) = ap₂ (λ (y : ℕ) (ys : List ℕ). y ∷ ys) (entry_item e) (entries_items es)
