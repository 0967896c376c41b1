-- Laws of pairs or copies read one after the other into a slice.
use mathlib.Core.Path.{◌≡◌, refl, sym, ap, ◌∙◌}
use mathlib.Core.Bool.{Bool, true, false, cond}
use mathlib.Core.List.{List, [], ◌∷◌, ◌++◌, append_assoc, append-nil}
use Prim.Native.Nat.{ℕ, zero, suc, ◌+◌, ◌-◌, ◌<◌}
use native.Mathlib.Omega.{arith}
use lib.Dec.{eqb}
use lib.ListN.{length}
use Rattle.std.specs.Prelude.{Option, Some, None}
use Rattle.placement.specs.Items.{Item}
use Rattle.placement.specs.Held.{front}
use Rattle.plan_text.specs.Text.{space, closed}
use Rattle.plan_text.specs.Parse.{Parse, parsed, unparsed, next, byte, end_or, spaced_read}
use Rattle.plan_text.proofs.Pieces.{unparsed_parsed, byte_sound}
use Rattle.reader.specs.Pairs.{Stored, PairsRead}

-- The closing bracket, where no pair follows.
abbrev pub ending : List ℕ → Parse (List Item)
ending t = next (byte closed t) (λ u s. parsed [] s)

-- One byte by its test.
abbrev tested : Bool → List ℕ → Parse (Unit {0})
tested b bs = cond b (parsed tt bs) unparsed

abbrev closing : Parse (Unit {0}) → Parse (List Item)
closing p = next p (λ u s. parsed [] s)

abbrev stuck : Parse (List Item)
stuck = unparsed

end_only : (more : List ℕ → Parse (List Item)) (t : List ℕ) → byte space t ≡ unparsed → end_or more t ≡ ending t
end_only more [] e = refl
end_only more (b ∷ bs) e = go (eqb b closed) (eqb b space) e
  where
    go :
        (x y : Bool) → tested y bs ≡ unparsed → cond x (parsed [] bs) (cond y (more bs) unparsed) ≡ closing (tested x bs)
    go true y e = refl
    go false true e = unparsed_parsed (sym e)
    go false false e = refl

-- Pairs or copies, each read by `one`.
module _ (one : List ℕ → Parse Item) where
  -- With no place left, only the end follows.
  pub spaced_none : (t : List ℕ) → spaced_read one 0 t ≡ ending t
  spaced_none [] = refl
  spaced_none (b ∷ bs) = go (eqb b closed) (eqb b space)
    where
      go : (x y : Bool) → cond x (parsed [] bs) (cond y stuck stuck) ≡ closing (tested x bs)
      go true y = refl
      go false true = refl
      go false false = refl

  -- Where no space follows, only the end does.
  pub spaced_last :
      (m : ℕ) (p : Parse (Unit {0})) → next p (λ u t. byte space t) ≡ unparsed
      → next p (λ u t. spaced_read one m t) ≡ next p (λ u t. ending t)
  spaced_last zero (parsed tt t) e = end_only (λ s. unparsed) t e
  spaced_last (suc m) (parsed tt t) e =
      end_only (λ s. next (one s) (λ x after. next (spaced_read one m after) (λ xs end. parsed (x ∷ xs) end))) t e
  spaced_last m unparsed e = refl

  -- The pairs so far, before what the rest reads.
  abbrev pub reads_on : List Item → ℕ → List ℕ → Parse (List Item)
  reads_on before m t = next (spaced_read one m t) (λ xs end. parsed (before ++ xs) end)

  pub reads_on_start : (m : ℕ) (t : List ℕ) → reads_on [] m t ≡ spaced_read one m t
  reads_on_start m t = same (spaced_read one m t)
    where
      same : (q : Parse (List Item)) → next q (λ xs end. parsed xs end) ≡ q
      same (parsed xs end) = refl
      same unparsed = refl

  -- A space leads to one pair more.
  pub reads_on_more :
      (before : List Item) (m : ℕ) (t s : List ℕ) → byte space t ≡ parsed tt s
      → reads_on before (suc m) t ≡ next (one s) (λ x r. reads_on (before ++ (x ∷ [])) m r)
  reads_on_more before m t s e = rw (byte_sound space t s e) (more (one s))
    where
      further : (x : Item) (z : Parse (List Item)) → next (next z (λ xs end. parsed (x ∷ xs) end)) (λ xs end. parsed (before ++ xs) end)
          ≡ next z (λ xs end. parsed ((before ++ (x ∷ [])) ++ xs) end)
      further x (parsed xs end) = rw append_assoc
      further x unparsed = refl

      more : (p : Parse Item)
          → next (next p (λ y t. next (spaced_read one m t) (λ xs end. parsed (y ∷ xs) end))) (λ xs end. parsed (before ++ xs) end)
          ≡ next p (λ x r. reads_on (before ++ (x ∷ [])) m r)
      more (parsed x r) = further x (spaced_read one m r)
      more unparsed = refl

  ended : (before : List Item) (z : Parse (Unit {0})) → next (closing z) (λ xs end. parsed (before ++ xs) end) ≡ next z (λ u s. parsed before s)
  ended before (parsed tt s) = rw append-nil
  ended before unparsed = refl

  -- The closing bracket ends the pairs, where only the end follows,
  pub reads_on_end :
      (before : List Item) (m : ℕ) (t : List ℕ) → spaced_read one m t ≡ ending t
      → reads_on before m t ≡ next (byte closed t) (λ u s. parsed before s)
  reads_on_end before m t last =
      ap (λ (p : Parse (List Item)). next p (λ xs end. parsed (before ++ xs) end)) last ∙ ended before (byte closed t)

  -- as where no place is left or no space follows.
  pub reads_on_none : (before : List Item) (t : List ℕ) → reads_on before 0 t ≡ next (byte closed t) (λ u s. parsed before s)
  reads_on_none before t = reads_on_end before 0 t (spaced_none t)

  pub reads_on_last :
      (before : List Item) (m : ℕ) (t : List ℕ) → byte space t ≡ unparsed → reads_on before m t ≡ next (byte closed t) (λ u s. parsed before s)
  reads_on_last before m t e = reads_on_end before m t (spaced_last m (parsed tt t) e)

-- In the middle of a line of pairs or copies: n of them stand at the front of the entries, before what the bytes `here` say.
module _ (one : List ℕ → Parse Item) (text here entries now : List ℕ) (n : ℕ)
    (so_far : reads_on one (front n now) (length entries - n) here ≡ spaced_read one (length entries) text) where
  -- Neither a pair nor the end follows.
  pub pairs_no_end :
      (rest : List ℕ) (r : Option ℕ) → r ≡ None → byte space here ≡ unparsed → byte closed here ≡ unparsed → PairsRead one text rest entries now r
  pairs_no_end rest r is no_pair no_end = rw is (record {
    reads = sym (sym so_far ∙ reads_on_last one (front n now) (length entries - n) here no_pair ∙ ap (λ (p : Parse (Unit {0})). next p (λ u s. parsed (front n now) s)) no_end);
    stored = tt;
  })

  -- The end follows.
  pub pairs_end :
      (rest : List ℕ) → byte space here ≡ unparsed → byte closed here ≡ parsed tt rest → Stored n entries now
      → PairsRead one text rest entries now (Some n)
  pairs_end rest no_pair end stored = record {
    reads = sym (sym so_far ∙ reads_on_last one (front n now) (length entries - n) here no_pair ∙ ap (λ (p : Parse (Unit {0})). next p (λ u s. parsed (front n now) s)) end);
    stored = stored;
  }

  -- A space follows.
  module _ (s : List ℕ) (spaced : byte space here ≡ parsed tt s) (room : n < length entries) where
    on : next (one s) (λ x r. reads_on one (front n now ++ (x ∷ [])) (length entries - (n + 1)) r)
        ≡ spaced_read one (length entries) text
    on =
        let m : length entries - n ≡ suc (length entries - (n + 1)) = omega arith in
        sym (reads_on_more one (front n now) (length entries - (n + 1)) here s spaced)
        ∙ ap (λ (k : ℕ). reads_on one (front n now) k here) (sym m)
        ∙ so_far

    -- It leads to no pair.
    pub pairs_no_pair : (rest : List ℕ) (r : Option ℕ) → r ≡ None → one s ≡ unparsed → PairsRead one text rest entries now r
    pairs_no_pair rest r is no_pair = rw is (record {
      reads = sym (sym on ∙ ap (λ (p : Parse Item). next p (λ x r. reads_on one (front n now ++ (x ∷ [])) (length entries - (n + 1)) r)) no_pair);
      stored = tt;
    })

    -- It leads to one more.
    pub pairs_more :
        (x : Item) (rest : List ℕ) → one s ≡ parsed x rest
        → reads_on one (front n now ++ (x ∷ [])) (length entries - (n + 1)) rest ≡ spaced_read one (length entries) text
    pairs_more x rest pair =
        sym (ap (λ (p : Parse Item). next p (λ x r. reads_on one (front n now ++ (x ∷ [])) (length entries - (n + 1)) r)) pair) ∙ on
