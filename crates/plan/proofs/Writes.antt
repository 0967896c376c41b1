-- A writer that took a beginning, and then more.
use Rattle.std.proofs.Common.{ℕ, ◌+◌, ◌-◌, length-drop, ◌≤◌, ◌≡◌, ◌++◌, List, [], length, take, drop, arith, ap, sym, ◌∙◌, refl, append_assoc}
use Rattle.std.proofs.lemmas.List.{append-nil}
use Rattle.std.proofs.Math.Seq.{take-add, take_all}
use Rattle.std.specs.Prelude.{Option, None, Some}
use Rattle.std.specs.Io.KnownBytes.{Appends, Keeps}

pub appends_none : (old : Option (List ℕ)) → Appends old old []
appends_none None = tt
appends_none (Some xs) = sym (append-nil xs)

pub appends_same : (old new : Option (List ℕ)) (xs ys : List ℕ) → xs ≡ ys → Appends old new xs → Appends old new ys
appends_same None new xs ys e grew = tt
appends_same (Some os) (Some ns) xs ys e grew = grind (arith, e, grew)
appends_same (Some os) None xs ys e grew = absurd grew

pub appends_more : (old mid new : Option (List ℕ)) (xs ys : List ℕ) → Appends old mid xs → Appends mid new ys → Appends old new (xs ++ ys)
appends_more None mid new xs ys a b = tt
appends_more (Some os) (Some ms) (Some ns) xs ys a b = b ∙ ap (λ (s : List ℕ). s ++ ys) a ∙ append_assoc os xs ys
appends_more (Some os) (Some ms) None xs ys a b = absurd b
appends_more (Some os) None new xs ys a b = absurd a

pub appends_kept : (old mid new : Option (List ℕ)) (xs : List ℕ) → Appends old mid xs → Keeps mid new → Appends old new xs
appends_kept None mid new xs a b = tt
appends_kept (Some os) (Some ms) (Some ns) xs a b = b ∙ a
appends_kept (Some os) (Some ms) None xs a b = absurd b
appends_kept (Some os) None new xs a b = absurd a

-- Some bytes more behind a beginning.
pub appends_next :
    (old mid new : Option (List ℕ)) (xs : List ℕ) (n m : ℕ) → Appends old mid (take n xs) → Appends mid new (take m (drop n xs))
    → Appends old new (take (n + m) xs)
appends_next old mid new xs n m a b = appends_same old new _ _ (sym (take-add n m xs)) (appends_more old mid new _ _ a b)

pub appends_whole : (old new : Option (List ℕ)) (xs : List ℕ) (n : ℕ) → length xs ≤ n → Appends old new (take n xs) → Appends old new xs
appends_whole old new xs n all a = appends_same old new _ _ (take_all n xs all) a

-- The same, of a rest that is written as a range of its own length.
pub appends_rest :
    (old mid new : Option (List ℕ)) (xs : List ℕ) (n m : ℕ) → Appends old mid (take n xs)
    → Appends mid new (take m (take (length xs - n) (drop n xs))) → Appends old new (take (n + m) xs)
appends_rest old mid new xs n m a b =
    appends_next old mid new xs n m a
    (appends_same mid new _ _ (ap (λ (s : List ℕ). take m s) (take_all (length xs - n) (drop n xs) (omega (arith, length-drop n xs)))) b)

pub keeps_same : (old : Option (List ℕ)) → Keeps old old
keeps_same None = tt
keeps_same (Some xs) = refl
