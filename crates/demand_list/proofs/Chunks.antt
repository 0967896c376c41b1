-- Record i as eight bytes: its numbers are those that the list has at place 8 i.
use mathlib.Core.Path.{◌≡◌, sym, ap, ◌∙◌, subst}
use mathlib.Core.Bool.{Bool}
use mathlib.Core.List.{List, ◌++◌}
use Prim.Native.Nat.{ℕ, ◌+◌, ◌*◌, ◌/◌, ◌-◌, ◌≤◌, ◌<◌}
use native.Mathlib.Omega.{arith}
use lib.ListN.{length, get_or, drop}
use Rattle.std.proofs.lemmas.List.{get_or-drop, get_or_append_left, length-append, length-drop, drop-drop, drop_at}
use Rattle.placement.specs.Records.{number32}
use Rattle.demand_list.proofs.Checking.{Checked}

-- The next record stands behind the records before i, and the bytes behind it are left.
pub record Next (list : List ℕ) (seen : List Bool) (i : ℕ) (part after : List ℕ) : Type 0 where
  pub checked : Checked list seen i
  pub here : i < length list / 8
  pub film : number32 part 0 ≡ number32 list (8 * i)
  pub demand : number32 part 4 ≡ number32 list (8 * i + 4)
  pub left : after ≡ drop (8 * (i + 1)) list

module _ (list rest part after : List ℕ) (i size : ℕ) (left : rest ≡ drop (8 * i) list) (eight : size ≡ 8)
    (cut : rest ≡ part ++ after) (long : length part ≡ size) where
  byte_at : (k at : ℕ) → k < 8 → 8 * i + k ≡ at → get_or part k 0 ≡ get_or list at 0
  byte_at k at h e =
      sym (get_or_append_left part after 0 k (omega (arith, h, long, eight)))
      ∙ ap (λ (l : List ℕ). get_or l k 0) (sym cut ∙ left)
      ∙ get_or-drop (8 * i) list k 0
      ∙ ap (λ (n : ℕ). get_or list n 0) e

  left_after : after ≡ drop (8 * (i + 1)) list
  left_after =
      sym (drop_at part after 8 (long ∙ eight))
      ∙ ap (λ (l : List ℕ). drop 8 l) (sym cut ∙ left)
      ∙ drop-drop 8 (8 * i) list
      ∙ ap (λ (n : ℕ). drop n list) more
    where
      more : 8 * i + 8 ≡ 8 * (i + 1)
      more = omega arith

  inside : i < length list / 8
  inside = omega (arith, room)
    where
      room : 8 ≤ length list - 8 * i
      room = subst (λ (n : ℕ). 8 ≤ n) (ap (λ (l : List ℕ). length l) (sym cut ∙ left) ∙ length-drop (8 * i) list) (subst (λ (n : ℕ). 8 ≤ n) (sym (length-append part after)) (omega (arith, long, eight)))

  pub next_record : (seen : List Bool) (at : ℕ) → at ≡ i → Checked list seen i → Next list seen at part after
  next_record seen at e checked =
      subst (λ (n : ℕ). Next list seen n part after) (sym e) (record {
        checked = checked;
        here = inside;
        film = omega (
          arith,
          byte_at 0 (8 * i) (omega arith) (omega arith),
          byte_at 1 (8 * i + 1) (omega arith) (omega arith),
          byte_at 2 (8 * i + 2) (omega arith) (omega arith),
          byte_at 3 (8 * i + 3) (omega arith) (omega arith),
        );
        demand = omega (
          arith,
          byte_at 4 (8 * i + 4) (omega arith) (omega arith),
          byte_at 5 (8 * i + 4 + 1) (omega arith) (omega arith),
          byte_at 6 (8 * i + 4 + 2) (omega arith) (omega arith),
          byte_at 7 (8 * i + 4 + 3) (omega arith) (omega arith),
        );
        left = left_after;
      })

-- With fewer bytes left than a record has, there is no record more.
pub none_left : (list rest : List ℕ) (i size : ℕ) → rest ≡ drop (8 * i) list → size ≡ 8 → length rest < size → length list / 8 ≤ i
none_left list rest i size left eight few = omega (arith, few, eight, ap (λ (l : List ℕ). length l) left ∙ length-drop (8 * i) list)

-- What holds at a place holds at a number that is equal to it.
pub checked_at : (list : List ℕ) (seen : List Bool) (i j : ℕ) → i ≡ j → Checked list seen j → Checked list seen i
checked_at list seen i j e checked = subst (λ (n : ℕ). Checked list seen n) (sym e) checked

pub left_at : (list rest : List ℕ) (i j : ℕ) → i ≡ j → rest ≡ drop (8 * j) list → rest ≡ drop (8 * i) list
left_at list rest i j e left = left ∙ ap (λ (n : ℕ). drop (8 * n) list) (sym e)
