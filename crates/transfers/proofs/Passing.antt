-- Two lists of keys that ascend, passed together: a key is stored where it stands at the place that was passed to.
use Rattle.std.specs.Prelude.{Some, None, not, nat_le, nat_lt, position}
use Rattle.std.specs.List.{position_or_len}
use mathlib.Core.Path.{◌≡◌, refl, sym, ap, subst, ◌∙◌}
use mathlib.Core.Bool.{Bool, true, false, cond, ◌||◌}
use mathlib.Core.List.{List, [], ◌∷◌, ◌++◌, map, append-nil}
use mathlib.Core.Logic.{inl, inr}
use Prim.Native.Nat.{ℕ, zero, suc, ◌+◌, ◌-◌, ◌/◌, ◌≤◌, ◌<◌}
use native.Mathlib.Numerals.{add-one}
use native.Mathlib.Omega.{arith}
use borrow.Author.Tests.{le-leb, lt-leb, ltb-false, eqb-true, eqb-false}
use lib.Dec.{eqb}
use lib.ListN.{length, take, drop, get_or, set, length-map, length-drop, drop_of_length-le}
use Rattle.std.proofs.lemmas.List.{take_all}
use lib.Seq.{get_or-drop, take-set-le, take-suc-set}
use Rattle.placement.specs.WellFormed.{Each}
use Rattle.placement.proofs.Tests.{by_order, by_test}
use Rattle.placement.proofs.Conjunctions.{cond_true, cond_false}
use Rattle.transfer_schedule.specs.Stored.{StoredCopy, is_stored}
use Rattle.transfer_schedule.specs.Schedule.{lacking}
use Rattle.transfer_schedule.specs.Words.{StandsBefore, InOrderBehind, InOrder}
use Rattle.transfer_schedule.proofs.Mapped.{mapped_more, map_last}
use Rattle.transfer_schedule.proofs.Lacking.{lacking_append}
use Rattle.transfer_schedule.proofs.Ordered.{before_other, behind_absent}
use Rattle.transfers.specs.Keys.{stored_in, stored_at, PassedTo}
use Rattle.transfers.proofs.Looks.{copy_here, stored_found}

-- Keys of copies in order ascend,
key_before : (a b : ℕ) → StandsBefore (stored_in a) (stored_in b) → a < b
key_before a b (inl less) = omega (arith, less)
key_before a b (inr both) = omega (arith, both.0, both.1)

-- and copies of keys that ascend are in order.
copy_before : (a b : ℕ) → a < b → StandsBefore (stored_in a) (stored_in b)
copy_before a b less =
    by_order (a / 16777216) (b / 16777216) (λ lower. inl lower)
    (λ upper.
    let same : a / 16777216 ≡ b / 16777216 = omega arith in
    inr (same, omega arith))

-- At a place of a list in order: the key there is below the next one,
pub next_key : (keys : List ℕ) (i : ℕ) → InOrder (map stored_in keys) → i + 1 < length keys → get_or keys i 0 < get_or keys (i + 1) 0
next_key keys i ordered more = rw add-one (go keys i ordered (omega arith))
  where
    behind : (k : ℕ) (keys : List ℕ) (i : ℕ) → InOrderBehind (stored_in k) (map stored_in keys) → i < length keys → get_or (k ∷ keys) i 0 < get_or keys i 0
    behind k [] i ordered less = absurd (omega arith)
    behind k (x ∷ keys) zero ordered less = key_before k x ordered.0
    behind k (x ∷ keys) (suc i) ordered less = behind x keys i ordered.1 (omega arith)

    go : (keys : List ℕ) (i : ℕ) → InOrder (map stored_in keys) → suc i < length keys → get_or keys i 0 < get_or keys (suc i) 0
    go [] i ordered less = absurd (omega arith)
    go (k ∷ keys) i ordered less = behind k keys i ordered (omega arith)

-- and the copies behind it are in order behind it.
ordered_at : (keys : List ℕ) (i : ℕ) → InOrder (map stored_in keys) → i < length keys → InOrderBehind (stored_in (get_or keys i 0)) (drop (i + 1) (map stored_in keys))
ordered_at keys i ordered less = rw add-one (at keys i ordered less)
  where
    go : (k : ℕ) (keys : List ℕ) (i : ℕ) → InOrderBehind (stored_in k) (map stored_in keys) → i < suc (length keys)
        → InOrderBehind (stored_in (get_or (k ∷ keys) i 0)) (drop i (map stored_in keys))
    go k keys zero ordered less = ordered
    go k [] (suc i) ordered less = absurd (omega arith)
    go k (x ∷ keys) (suc i) ordered less = go x keys i ordered.1 (omega arith)

    at : (keys : List ℕ) (i : ℕ) → InOrder (map stored_in keys) → i < length keys → InOrderBehind (stored_in (get_or keys i 0)) (drop (suc i) (map stored_in keys))
    at [] i ordered less = absurd (omega arith)
    at (k ∷ keys) i ordered less = go k keys i ordered (omega arith)

-- Keys below one are passed.
pass_below :
    (key at : ℕ) (old : List ℕ) → Each (λ k. k < key) (take at old)
    → is_stored (stored_in key) (map stored_in old) ≡ is_stored (stored_in key) (drop at (map stored_in old))
pass_below key zero old below = refl
pass_below key (suc at) [] below = refl
pass_below key (suc at) (k ∷ old) below =
    ap (λ (b : Bool). b || is_stored (stored_in key) (map stored_in old)) (before_other (stored_in k) (stored_in key) (copy_before k key below.0)).1
    ∙ pass_below key at old below.1

module _ (old : List ℕ) (key at : ℕ) (passed : PassedTo old key at) where
  from_place : is_stored (stored_in key) (map stored_in old) ≡ is_stored (stored_in key) (drop at (map stored_in old))
  from_place = pass_below key at old passed.below

  -- The key stands at the place,
  pub passed_found : at < length old → get_or old at 0 ≡ key → is_stored (stored_in key) (map stored_in old) ≡ true
  passed_found less found = from_place ∙ stored_found old at less key found

  -- a higher one does,
  pub passed_other : InOrder (map stored_in old) → at < length old → (get_or old at 0 ≡ key → ⊥) → is_stored (stored_in key) (map stored_in old) ≡ false
  passed_other ordered less other =
      from_place ∙ ap (is_stored (stored_in key)) (copy_here old at less)
      ∙ behind_absent (stored_in key) (stored_in (get_or old at 0) ∷ drop (at + 1) (map stored_in old))
      (copy_before key (get_or old at 0) (higher key (get_or old at 0) (passed.next less) other), ordered_at old at ordered less)
    where
      higher : (a b : ℕ) → a ≤ b → (b ≡ a → ⊥) → a < b
      higher a b low other = omega arith

  -- or it is the end.
  pub passed_end : length old ≤ at → is_stored (stored_in key) (map stored_in old) ≡ false
  passed_end end = from_place ∙ ap (is_stored (stored_in key)) (drop_of_length-le (map stored_in old) {i = at} (omega (arith, length-map old stored_in)))

-- Whether the key stands there says whether its copy is stored.
pub passed_stands :
    (old : List ℕ) (key at : ℕ) → PassedTo old key at → InOrder (map stored_in old) → at < length old
    → eqb (get_or old at 0) key ≡ is_stored (stored_in key) (map stored_in old)
passed_stands old key at passed ordered less =
    by_test (eqb (get_or old at 0) key)
    (λ e. e ∙ sym (passed_found old key at passed less (eqb-true _ _ e)))
    (λ e. e ∙ sym (passed_other old key at passed ordered less (eqb-false _ _ e)))

-- Keys are below where those in front and those behind them are.
each_take : (P : ℕ → Type 0) (a n j : ℕ) (xs : List ℕ) → j ≡ a + n → Each P (take a xs) → Each P (take n (drop a xs)) → Each P (take j xs)
each_take P zero n j xs e front behind =
    let same : n ≡ j = omega (arith, e) in
    subst (λ (k : ℕ). Each P (take k xs)) same behind
each_take P (suc a) n zero xs e front behind = tt
each_take P (suc a) n (suc j) [] e front behind = tt
each_take P (suc a) n (suc j) (x ∷ xs) e front behind = (front.0, each_take P a n j xs (omega (arith, e)) front.1 behind)

-- How many keys in front are below a key.
abbrev below_front : ℕ → List ℕ → ℕ
below_front key keys = position_or_len (λ k. nat_le key k) keys

-- They are, and the next one is not.
front_passed : (key : ℕ) (keys : List ℕ) → PassedTo keys key (below_front key keys)
front_passed key [] = record { within = omega arith; below = tt; next = λ less. absurd (omega (arith, less)) }
front_passed key (k ∷ keys) =
    let later = front_passed key keys in
    let more : suc (below_front key keys) ≡ 1 + below_front key keys = omega arith in
    by_order k key
    (λ low. subst (PassedTo (k ∷ keys) key) (more ∙ sym (ap (λ (b : Bool). cond (not b) (1 + below_front key keys) 0) (lt-leb key k low))) (record {
      within = omega (arith, later.within);
      below = (low, later.below);
      next = λ less. later.next (omega (arith, less));
    }))
    (λ high. subst (PassedTo (k ∷ keys) key) (sym (ap (λ (b : Bool). cond (not b) (1 + below_front key keys) 0) (le-leb key k high))) (record {
      within = omega arith;
      below = tt;
      next = λ less. high;
    }))

-- The place that is passed to, from a place on that is not behind it.
passed_from : (old : List ℕ) (at key : ℕ) → at ≤ length old → Each (λ k. k < key) (take at old) → PassedTo old key (at + below_front key (drop at old))
passed_from old at key within below =
    let later = front_passed key (drop at old) in
    let n = below_front key (drop at old) in
    record {
      within = omega (arith, later.within, length-drop at old);
      below = each_take (λ k. k < key) at n (at + n) old refl below later.below;
      next = λ less. subst (λ (k : ℕ). key ≤ k) (get_or-drop at old n 0) (later.next (omega (arith, less, length-drop at old)));
    }

-- All keys behind a place.
all_behind : (old : List ℕ) (at : ℕ) → take (length old - at) (drop at old) ≡ drop at old
all_behind old at = take_all (length old - at) (drop at old) (omega (arith, length-drop at old))

-- It is the first place where a key is not below,
pub passed_some :
    (old : List ℕ) (at key n : ℕ) → at ≤ length old → Each (λ k. k < key) (take at old) → Some n ≡ position (λ k. nat_le key k) (take (length old - at) (drop at old))
    → PassedTo old key (at + n)
passed_some old at key n within below found =
    by_test (nat_lt (below_front key (drop at old)) (length (drop at old)))
    (λ e.
    let same : Some n ≡ Some (below_front key (drop at old)) = found ∙ ap (position (λ k. nat_le key k)) (all_behind old at) ∙ cond_true _ _ _ e in
    let is : n ≡ below_front key (drop at old) = cc in
    subst (λ (k : ℕ). PassedTo old key (at + k)) (sym is) (passed_from old at key within below))
    (λ e.
    let same : Some n ≡ None = found ∙ ap (position (λ k. nat_le key k)) (all_behind old at) ∙ cond_false _ _ _ e in
    absurd cc)

-- or the end where all of them are.
pub passed_none :
    (old : List ℕ) (at key : ℕ) → at ≤ length old → Each (λ k. k < key) (take at old) → None ≡ position (λ k. nat_le key k) (take (length old - at) (drop at old))
    → PassedTo old key (length old)
passed_none old at key within below found =
    let later = passed_from old at key within below in
    by_test (nat_lt (below_front key (drop at old)) (length (drop at old)))
    (λ e.
    let same : None ≡ Some (below_front key (drop at old)) = found ∙ ap (position (λ k. nat_le key k)) (all_behind old at) ∙ cond_true _ _ _ e in
    absurd cc)
    (λ e.
    let end : at + below_front key (drop at old) ≡ length old = omega (arith, later.within, length-drop at old, ltb-false _ _ e) in
    subst (PassedTo old key) end later)

-- Keys that are below one are below a higher one.
pub below_higher : (low high : ℕ) (keys : List ℕ) → low < high → Each (λ k. k < low) keys → Each (λ k. k < high) keys
below_higher low high [] less below = tt
below_higher low high (k ∷ keys) less below = (omega (arith, below.0), below_higher low high keys less below.1)

-- A key is put behind the first n, and is one of them where it is not stored in the old plan.
put_more :
    (n key : ℕ) (keys : List ℕ) (b : Bool) → n < length keys
    → stored_at (n + cond b 0 1) (set keys n key) ≡ stored_at n keys ++ cond b [] (stored_in key ∷ [])
put_more n key keys true less =
    let same : n + 0 ≡ n = omega arith in
    ap (λ (m : ℕ). stored_at m (set keys n key)) same
    ∙ ap (map stored_in) (take-set-le n keys n key (omega arith))
    ∙ sym (append-nil (stored_at n keys))
put_more n key keys false less =
    ap (λ (m : ℕ). stored_at m (set keys n key)) (add-one n)
    ∙ ap (map stored_in) (take-suc-set keys n key less)
    ∙ map_last stored_in (take n keys) key

-- So the keys of the copies that the old plan lacks stand in front, with one copy more.
pub lacking_more :
    (old : List StoredCopy) (new keys : List ℕ) (i n : ℕ) → i < length new → n < length keys → stored_at n keys ≡ lacking old (map stored_in (take i new))
    → stored_at (n + cond (is_stored (stored_in (get_or new i 0)) old) 0 1) (set keys n (get_or new i 0)) ≡ lacking old (map stored_in (take (i + 1) new))
lacking_more old new keys i n less room e =
    put_more n (get_or new i 0) keys (is_stored c old) room
    ∙ ap (λ (front : List StoredCopy). front ++ cond (is_stored c old) [] (c ∷ [])) e
    ∙ sym (ap (lacking old) (mapped_more stored_in 0 new i less) ∙ lacking_append old (map stored_in (take i new)) (c ∷ []))
  where
    c : StoredCopy
    c = stored_in (get_or new i 0)

-- A key that is stored in the old plan is passed,
pub lacking_stored :
    (old : List StoredCopy) (new keys : List ℕ) (i n : ℕ) → i < length new → is_stored (stored_in (get_or new i 0)) old ≡ true
    → stored_at n keys ≡ lacking old (map stored_in (take i new)) → stored_at n keys ≡ lacking old (map stored_in (take (i + 1) new))
lacking_stored old new keys i n less stored e =
    let c = stored_in (get_or new i 0) in
    e
    ∙ sym (append-nil (lacking old (map stored_in (take i new))))
    ∙ ap (λ (b : Bool). lacking old (map stored_in (take i new)) ++ cond b [] (c ∷ [])) (sym stored)
    ∙ sym (ap (lacking old) (mapped_more stored_in 0 new i less) ∙ lacking_append old (map stored_in (take i new)) (c ∷ []))

-- and another one is put behind those in front.
pub lacking_put :
    (old : List StoredCopy) (new keys : List ℕ) (i n : ℕ) → i < length new → n < length keys → is_stored (stored_in (get_or new i 0)) old ≡ false
    → stored_at n keys ≡ lacking old (map stored_in (take i new))
    → stored_at (n + 1) (set keys n (get_or new i 0)) ≡ lacking old (map stored_in (take (i + 1) new))
lacking_put old new keys i n less room other e =
    ap (λ (b : Bool). stored_at (n + cond b 0 1) (set keys n (get_or new i 0))) (sym other) ∙ lacking_more old new keys i n less room e
