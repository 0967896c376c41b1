-- A line, then the rest of the text: where both have the laws of reading, so has the whole.
use mathlib.Core.Path.{◌≡◌, refl, sym, ap, ◌∙◌, subst}
use mathlib.Core.Bool.{Bool, true}
use mathlib.Core.List.{List, [], ◌∷◌, ◌++◌, append_assoc}
use Prim.Native.Nat.{ℕ, suc}
use Rattle.plan_text.specs.Text.{line_feed}
use Rattle.plan_text.specs.Accepted.{upto}
use Rattle.plan_text.specs.Parse.{Parse, parsed, unparsed}
use Rattle.plan_text.specs.Reading.{Reading, whole, refused_after, joined, line_then}
use Rattle.plan_text.proofs.Pieces.{parsed_value, parsed_rest, unparsed_parsed}
use Rattle.plan_text.proofs.Upto.{upto_zero, upto_line, upto_rest}
use Rattle.plan_text.proofs.Grammar.{Line, Grammar, Joins, whole_refused, refused_count, joined_whole, joined_refused}

module _ {A B C : Type 0} {test : A → Bool} {text_a : A → List ℕ} {ok_b : A → B → Bool} {text_b : A → B → List ℕ} {ok_c : C → Bool}
    {text_c : C → List ℕ} {join : A → B → C} {read_a : List ℕ → Parse A} {read_b : A → List ℕ → Reading B}
    (first : Line read_a text_a test) (rest : (a : A) → test a ≡ true → Grammar (ok_b a) (text_b a) (read_b a))
    (joins : Joins test text_a ok_b text_b ok_c text_c join) where
  abbrev read_c : List ℕ → Reading C
  read_c t = line_then join (read_a t) read_b

  -- Each law of the whole, from those of the line and the rest.
  then_complete : (c : C) → ok_c c ≡ true → read_c (text_c c) ≡ whole c
  then_complete c ok = go (joins.split c ok)
    where
      go : (a : A) × (b : B) × (test a ≡ true) × (ok_b a b ≡ true) × (join a b ≡ c) → read_c (text_c c) ≡ whole c
      go s =
          ap (λ (d : C). read_c (text_c d)) (sym s.4)
          ∙ ap read_c (joins.text s.0 s.1 s.2)
          ∙ ap (λ (p : Parse A). line_then join p read_b) (first.complete s.0 (text_b s.0 s.1) s.2)
          ∙ ap (joined (join s.0)) ((rest s.0 s.2).complete s.1 s.3)
          ∙ ap (λ (d : C). whole d) s.4

  then_passes : (t : List ℕ) (c : C) → read_c t ≡ whole c → ok_c c ≡ true
  then_passes t c e = go (read_a t) refl e
    where
      go : (p : Parse A) → read_a t ≡ p → line_then join p read_b ≡ whole c → ok_c c ≡ true
      go unparsed d e = whole_refused (sym e)
      go (parsed a r) d e =
          joined_whole (join a) (read_b a r) e (λ b read same.
          let holds = first.passes t a r d in
          ap ok_c (sym same) ∙ joins.both a b holds ((rest a holds).passes r b read))

  then_sound : (t : List ℕ) (c : C) → read_c t ≡ whole c → text_c c ≡ t
  then_sound t c e = go (read_a t) refl e
    where
      go : (p : Parse A) → read_a t ≡ p → line_then join p read_b ≡ whole c → text_c c ≡ t
      go unparsed d e = whole_refused (sym e)
      go (parsed a r) d e =
          joined_whole (join a) (read_b a r) e (λ b read same.
          let holds = first.passes t a r d in
          ap text_c (sym same)
          ∙ joins.text a b holds
          ∙ ap (λ (s : List ℕ). text_a a ++ (line_feed ∷ s)) ((rest a holds).sound r b read)
          ∙ sym (first.sound t a r d))

  then_some : (c : C) × (ok_c c ≡ true)
  then_some =
      let a = joins.first in
      let b = (rest a.0 a.1).some in
      (join a.0 b.0, joins.both a.0 b.0 a.1 b.1)

  -- The first n + 1 lines of a whole.
  then_upto : (n : ℕ) (a : A) (b : B) → test a ≡ true → upto (suc n) (text_c (join a b)) ≡ text_a a ++ (line_feed ∷ upto n (text_b a b))
  then_upto n a b holds = ap (upto (suc n)) (joins.text a b holds) ∙ upto_line n (text_a a) (text_b a b) (first.one_line a)

  then_begun : (t : List ℕ) (n : ℕ) → read_c t ≡ refused_after n → (c : C) × (ok_c c ≡ true) × (upto n (text_c c) ≡ upto n t)
  then_begun t n e = go (read_a t) refl e
    where
      go : (p : Parse A) → read_a t ≡ p → line_then join p read_b ≡ refused_after n → (c : C) × (ok_c c ≡ true) × (upto n (text_c c) ≡ upto n t)
      go unparsed d e =
          subst (λ (k : ℕ). (c : C) × (ok_c c ≡ true) × (upto k (text_c c) ≡ upto k t)) (refused_count e)
          (then_some.0, then_some.1, upto_zero (text_c then_some.0) ∙ sym (upto_zero t))
      go (parsed a r) d e =
          joined_refused (join a) (read_b a r) e (λ m read count.
          let holds = first.passes t a r d in
          let b = (rest a holds).begun r m read in
          subst (λ (k : ℕ). (c : C) × (ok_c c ≡ true) × (upto k (text_c c) ≡ upto k t)) count (
            join a b.0,
            joins.both a b.0 holds b.1,
            then_upto m a b.0 holds
                ∙ ap (λ (s : List ℕ). text_a a ++ (line_feed ∷ s)) b.2
                ∙ sym (upto_line m (text_a a) r (first.one_line a))
                ∙ ap (upto (suc m)) (sym (first.sound t a r d)),
          ))

  -- Where no line was read, no whole has the text's first line.
  ended_here : (t : List ℕ) → read_a t ≡ unparsed → (a : A) (b : B) → test a ≡ true → upto 1 (text_c (join a b)) ≡ upto 1 t → ⊥
  ended_here t d a b holds same = go (upto_rest 1 t)
    where
      start : text_a a ++ (line_feed ∷ []) ≡ upto 1 t
      start =
          ap (λ (s : List ℕ). text_a a ++ (line_feed ∷ s)) (sym (upto_zero (text_b a b))) ∙ sym (then_upto 0 a b holds) ∙ same

      go : (r : List ℕ) × (t ≡ upto 1 t ++ r) → ⊥
      go x =
          unparsed_parsed
          (sym d
          ∙ ap read_a (x.1 ∙ ap (λ (s : List ℕ). s ++ x.0) (sym start) ∙ append_assoc (text_a a) (line_feed ∷ []) x.0)
          ∙ first.complete a x.0 holds)

  -- Where a line was read and the rest is refused, no whole has the text's lines up to the refused one.
  ended_later : (t : List ℕ) (a : A) (r : List ℕ) (m : ℕ) → read_a t ≡ parsed a r → read_b a r ≡ refused_after m
      → (a₁ : A) (b : B) → test a₁ ≡ true → ok_b a₁ b ≡ true → upto (suc (suc m)) (text_c (join a₁ b)) ≡ upto (suc (suc m)) t → ⊥
  ended_later t a r m d read a₁ b holds ok same =
      (rest a (first.passes t a r d)).ended r m read b (ap (λ (x : A). ok_b x b) (sym line) ∙ ok)
      (ap (λ (x : A). upto (suc m) (text_b x b)) (sym line) ∙ parsed_rest reads)
    where
      lines : text_a a₁ ++ (line_feed ∷ upto (suc m) (text_b a₁ b)) ≡ text_a a ++ (line_feed ∷ upto (suc m) r)
      lines =
          sym (then_upto (suc m) a₁ b holds)
          ∙ same
          ∙ ap (upto (suc (suc m))) (first.sound t a r d)
          ∙ upto_line (suc m) (text_a a) r (first.one_line a)

      reads : parsed a₁ (upto (suc m) (text_b a₁ b)) ≡ parsed a (upto (suc m) r)
      reads =
          sym (first.complete a₁ (upto (suc m) (text_b a₁ b)) holds)
          ∙ ap read_a lines
          ∙ first.complete a (upto (suc m) r) (first.passes t a r d)

      line : a₁ ≡ a
      line = parsed_value reads

  then_ended : (t : List ℕ) (n : ℕ) → read_c t ≡ refused_after n → (c : C) → ok_c c ≡ true → upto (suc n) (text_c c) ≡ upto (suc n) t → ⊥
  then_ended t n e c ok same = go (read_a t) refl e (joins.split c ok)
    where
      go : (p : Parse A) → read_a t ≡ p → line_then join p read_b ≡ refused_after n
          → (a : A) × (b : B) × (test a ≡ true) × (ok_b a b ≡ true) × (join a b ≡ c) → ⊥
      go unparsed d e s =
          ended_here t d s.0 s.1 s.2
          (subst (λ (k : ℕ). upto (suc k) (text_c (join s.0 s.1)) ≡ upto (suc k) t) (sym (refused_count e))
          (ap (λ (x : C). upto (suc n) (text_c x)) s.4 ∙ same))
      go (parsed a r) d e s =
          joined_refused (join a) (read_b a r) e (λ m read count.
          ended_later t a r m d read s.0 s.1 s.2 s.3
          (subst (λ (k : ℕ). upto (suc k) (text_c (join s.0 s.1)) ≡ upto (suc k) t) (sym count)
          (ap (λ (x : C). upto (suc n) (text_c x)) s.4 ∙ same)))

  pub grammar_then : Grammar ok_c text_c read_c
  grammar_then = record {
    complete = then_complete;
    passes = then_passes;
    sound = then_sound;
    some = then_some;
    begun = then_begun;
    ended = then_ended;
  }
