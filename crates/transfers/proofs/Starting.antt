-- Where the search for a film starts: copies are noted from the last to the first, and none before the start has the film.
use mathlib.Core.Path.{◌≡◌, refl, sym, ap, subst, ◌∙◌}
use mathlib.Core.List.{List, [], ◌∷◌, map}
use Prim.Native.Nat.{ℕ, zero, suc, ◌+◌, ◌-◌, ◌%◌, ◌≤◌, min}
use native.Mathlib.Omega.{arith}
use borrow.Author.Tests.{eqb-true, eqb-false, ne_eqb}
use lib.Dec.{eqb}
use lib.ListN.{length, get_or, take, drop, set, length-drop, drop_of_length-le}
use Rattle.std.proofs.lemmas.List.{take_all, drop-map}
use lib.Seq.{take-nil, get_or-set_same, get_or-set_other}
use Rattle.placement.proofs.Tests.{by_test, by_order}
use Rattle.placement.proofs.Conjunctions.{cond_false}
use Rattle.transfer_schedule.specs.Stored.{StoredCopy, source_of}
use Rattle.transfers.specs.Keys.{stored_in, NoneOf, start_places}

-- A film that the first n copies have not is looked up among those behind them.
pub source_behind : (film n : ℕ) (cs : List StoredCopy) → NoneOf film (take n cs) → source_of cs film ≡ source_of (drop n cs) film
source_behind film zero cs none = refl
source_behind film (suc n) [] none = refl
source_behind film (suc n) (c ∷ cs) none =
    cond_false (eqb film c.film) c.disk (source_of cs film) (ne_eqb film c.film (λ e. none.0 (sym e))) ∙ source_behind film n cs none.1

-- The start is cut off at the end, behind which there is nothing.
pub source_left :
    (old : List ℕ) (film start m : ℕ) → m ≡ min start (length old) → NoneOf film (take start (map stored_in old))
    → source_of (map stored_in old) film ≡ source_of (map stored_in (take (length old - m) (drop m old))) film
source_left old film start m cut none =
    source_behind film start (map stored_in old) none
    ∙ ap (λ (cs : List StoredCopy). source_of cs film) (drop-map stored_in start old ∙ ap (map stored_in) left)
  where
    left : drop start old ≡ take (length old - m) (drop m old)
    left =
        by_order start (length old)
        (λ less.
        let same : start ≡ m = omega (arith, cut) in
        ap (λ (k : ℕ). drop k old) same ∙ sym (take_all (length old - m) (drop m old) (omega (arith, length-drop m old))))
        (λ all.
        drop_of_length-le old {i = start} all
        ∙ sym (take_all (length old - m) (drop m old) (omega (arith, length-drop m old)) ∙ drop_of_length-le old {i = m} (omega (arith, cut))))

-- For the copies from place i on: none of them before the start has the film.
abbrev pub StartsFrom : (starts : List ℕ) → (cs : List StoredCopy) → (i : ℕ) → Type 0
StartsFrom starts cs i = (film : ℕ) → NoneOf film (take (get_or starts (film % start_places) 0 - i) (drop i cs))

-- Behind all of them there is none.
pub starts_none : (starts : List ℕ) (cs : List StoredCopy) (i : ℕ) → length cs ≤ i → StartsFrom starts cs i
starts_none starts cs i all film =
    subst (λ (rest : List StoredCopy). NoneOf film (take (get_or starts (film % start_places) 0 - i) rest)) (sym (drop_of_length-le cs all))
    (subst (NoneOf film) (sym (take-nil (get_or starts (film % start_places) 0 - i))) tt)

-- From the first on these are all.
pub starts_all : (starts : List ℕ) (cs : List StoredCopy) → StartsFrom starts cs 0 → (film : ℕ) → NoneOf film (take (get_or starts (film % start_places) 0) cs)
starts_all starts cs from film =
    let same : get_or starts (film % start_places) 0 - 0 ≡ get_or starts (film % start_places) 0 = omega arith in
    subst (λ (n : ℕ). NoneOf film (take n cs)) same (from film)

-- One copy more in front, whose place is noted.
module _ (starts : List ℕ) (cs : List StoredCopy) (i key : ℕ) (here : drop i cs ≡ stored_in key ∷ drop (i + 1) cs) (wide : length starts ≡ start_places) where
  abbrev noted : List ℕ
  noted = set starts (key % start_places) i

  -- Films with its remainder start there,
  own_start : (film : ℕ) → film % start_places ≡ key % start_places → get_or noted (film % start_places) 0 - i ≡ 0
  own_start film same =
      let at : get_or noted (film % start_places) 0 ≡ i =
      ap (λ (k : ℕ). get_or noted k 0) same ∙ get_or-set_same starts (key % start_places) i 0 (omega (arith, wide)) in
      omega arith

  -- and for the others it is one more that has not the film.
  other_film : (film : ℕ) → (film % start_places ≡ key % start_places → ⊥) → (stored_in key).film ≡ film → ⊥
  other_film film apart same = apart (omega (arith, same))

  passed_more :
      (film start : ℕ) → ((stored_in key).film ≡ film → ⊥) → NoneOf film (take (start - (i + 1)) (drop (i + 1) cs)) → NoneOf film (take (start - i) (drop i cs))
  passed_more film start other none =
      subst (λ (rest : List StoredCopy). NoneOf film (take (start - i) rest)) (sym here)
      (by_order i start
      (λ less.
      let longer : suc (start - (i + 1)) ≡ start - i = omega arith in
      subst (λ (n : ℕ). NoneOf film (take n (stored_in key ∷ drop (i + 1) cs))) longer (other, none))
      (λ short.
      let nothing : 0 ≡ start - i = omega arith in
      subst (λ (n : ℕ). NoneOf film (take n (stored_in key ∷ drop (i + 1) cs))) nothing tt))

  pub starts_more : StartsFrom starts cs (i + 1) → StartsFrom noted cs i
  starts_more before film =
      by_test (eqb (film % start_places) (key % start_places))
      (λ e. subst (λ (n : ℕ). NoneOf film (take n (drop i cs))) (sym (own_start film (eqb-true (film % start_places) (key % start_places) e))) tt)
      (λ e.
      let apart : (film % start_places ≡ key % start_places) → ⊥ = eqb-false (film % start_places) (key % start_places) e in
      subst (λ (start : ℕ). NoneOf film (take (start - i) (drop i cs))) (sym (get_or-set_other starts (key % start_places) (film % start_places) i 0 apart))
      (passed_more film (get_or starts (film % start_places) 0) (other_film film apart) (before film)))
