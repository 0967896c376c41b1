-- Laws of pairs that stand at the front of a slice of entries.
use mathlib.Core.Path.{◌≡◌, refl, sym, ap, ◌∙◌}
use mathlib.Core.List.{List, [], ◌∷◌, ◌++◌, map}
use Prim.Native.Nat.{ℕ, ◌+◌, ◌<◌}
use native.Mathlib.Omega.{arith}
use native.Mathlib.Numerals.{add-one}
use lib.ListN.{length, take, drop, set}
use lib.Seq.{take-suc-set, drop-set-lt, drop-drop}
use Rattle.placement.specs.Items.{Item}
use Rattle.placement.specs.Tables.{entry_of, item_in}
use Rattle.placement.specs.Held.{front}
use Rattle.placement.proofs.EntryNumbers.{item_entry}

items_end : (entries : List ℕ) (e : ℕ) → map item_in (entries ++ (e ∷ [])) ≡ map item_in entries ++ (item_in e ∷ [])
items_end [] e = refl
items_end (x ∷ entries) e = ap (λ (l : List Item). item_in x ∷ l) (items_end entries e)

-- One entry more at the front of a slice.
pub front_more :
    (entries : List ℕ) (n : ℕ) (x : Item) → n < length entries → x.film < 4294967296
    → front (n + 1) (set entries n (entry_of x)) ≡ front n entries ++ (x ∷ [])
front_more entries n x h small =
    ap (λ (m : ℕ). front m (set entries n (entry_of x))) (add-one n)
    ∙ ap (map item_in) (take-suc-set entries n (entry_of x) h)
    ∙ items_end (take n entries) (entry_of x)
    ∙ ap (λ (y : Item). front n entries ++ (y ∷ [])) (item_entry x small)

-- The places behind the next one are as before.
pub kept_more :
    (now before : List ℕ) (n x : ℕ) → drop n now ≡ drop n before → drop (n + 1) (set now n x) ≡ drop (n + 1) before
kept_more now before n x e =
    drop-set-lt (n + 1) now n x (omega arith)
    ∙ sym (drop-drop 1 n now)
    ∙ ap (λ (l : List ℕ). drop 1 l) e
    ∙ drop-drop 1 n before
