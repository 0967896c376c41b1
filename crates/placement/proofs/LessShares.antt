-- A sharing of a layout with a shelved film, without that film's share.
use mathlib.Core.Path.{◌≡◌, refl, ap, ◌∙◌}
use mathlib.Core.Bool.{Bool, true, false, cond}
use mathlib.Core.List.{List, [], ◌∷◌, ◌++◌, map}
use Prim.Native.Nat.{ℕ, ◌+◌, ◌≤◌}
use native.Mathlib.Omega.{arith}
use borrow.Author.Tests.{eq-eqb}
use Rattle.placement.specs.Items.{Item, total, amount_of, film_of, amount_if, amount_for}
use Rattle.placement.specs.Rack.{Disk}
use Rattle.placement.specs.Method.{served}
use Rattle.placement.specs.Sharing.{WithinLoads, films_on, viewers_of}
use Rattle.placement.specs.Shelf.{has_free_slot, shelved_one}
use Rattle.placement.proofs.Sums.{sum_by_append}

-- Copies of these films and one more behind them.
pub record Ended (copies : List Item) (x : Item) (shares : List Item) : Type 0 where
  pub front : List Item
  pub last : Item
  pub parts : shares ≡ front ++ (last ∷ [])
  pub front_films : map film_of front ≡ map film_of copies
  pub last_film : x.film ≡ last.film

ended : (copies : List Item) (x : Item) (shares : List Item) → map film_of shares ≡ map film_of (copies ++ (x ∷ [])) → Ended copies x shares
ended [] x [] e = let z : ◌≡◌ {A = ℕ} 0 1 = cc in absurd (omega arith)
ended [] x (y ∷ []) e = record { front = []; last = y; parts = refl; front_films = refl; last_film = cc }
ended [] x (y ∷ z ∷ zs) e = let z : ◌≡◌ {A = ℕ} 0 1 = cc in absurd (omega arith)
ended (c ∷ copies) x [] e = let z : ◌≡◌ {A = ℕ} 0 1 = cc in absurd (omega arith)
ended (c ∷ copies) x (y ∷ ys) e = go (ended copies x ys cc)
  where
    first : y.film ≡ c.film
    first = cc

    go : Ended copies x ys → Ended (c ∷ copies) x (y ∷ ys)
    go p = record {
      front = y ∷ p.front;
      last = p.last;
      parts = ap (λ (r : List Item). y ∷ r) p.parts;
      front_films = cc (first, p.front_films);
      last_film = p.last_film;
    }

-- Shares of a layout with a shelved film, less that film's: shares of the layout, which serve only the film's viewers less.
pub record Less (rack : List Disk) (x : Item) (layout shares : List (List Item)) : Type 0 where
  pub others : List (List Item)
  pub same_copies : films_on others ≡ films_on layout
  pub within_loads : WithinLoads rack shares → WithinLoads rack others
  pub fewer : (f : ℕ) → viewers_of f others ≤ viewers_of f shares
  pub serves : served shares ≤ served others + viewers_of x.film shares

-- All shares, where the film has no slot.
all_less : (rack : List Disk) (x : Item) (layout shares : List (List Item)) → films_on shares ≡ films_on layout → Less rack x layout shares
all_less rack x layout shares e = record {
  others = shares;
  same_copies = e;
  within_loads = λ loads. loads;
  fewer = λ f. omega arith;
  serves = omega arith;
}

-- Without the last share of a disk.
end_less :
    (d : Disk) (ds : List Disk) (x : Item) (copies : List Item) (rest : List (List Item)) (mine : List Item) (shares : List (List Item))
    → Ended copies x mine → films_on shares ≡ films_on rest → Less (d ∷ ds) x (copies ∷ rest) (mine ∷ shares)
end_less d ds x copies rest mine shares p e = record {
  others = p.front ∷ shares;
  same_copies = cc p.front_films;
  within_loads = λ loads. (omega (arith, loads.0, sum), loads.1);
  fewer = λ f. omega (arith, viewers f);
  serves = omega (arith, sum, viewers x.film, own);
}
  where
    sum : total mine ≡ total p.front + p.last.amount
    sum = ap total p.parts ∙ sum_by_append amount_of p.front (p.last ∷ []) ∙ omega arith

    viewers : (f : ℕ) → amount_for f mine ≡ amount_for f p.front + amount_if f p.last
    viewers f = ap (amount_for f) p.parts ∙ sum_by_append (amount_if f) p.front (p.last ∷ []) ∙ omega arith

    own : amount_if x.film p.last ≡ p.last.amount
    own = ap (λ (b : Bool). cond b p.last.amount 0) (eq-eqb x.film p.last.film p.last_film)

-- Without a share of a later disk.
later_less :
    (d : Disk) (ds : List Disk) (x : Item) (copies : List Item) (rest : List (List Item)) (mine : List Item) (shares : List (List Item))
    → map film_of mine ≡ map film_of copies → Less ds x rest shares → Less (d ∷ ds) x (copies ∷ rest) (mine ∷ shares)
later_less d ds x copies rest mine shares e p = record {
  others = mine ∷ p.others;
  same_copies = cc p.same_copies;
  within_loads = λ loads. (loads.0, p.within_loads loads.1);
  fewer = λ f. omega (arith, p.fewer f);
  serves = omega (arith, p.serves);
}

-- Every sharing of a layout with a shelved film has one without it.
pub less :
    (rack : List Disk) (x : Item) (layout shares : List (List Item)) → films_on shares ≡ films_on (shelved_one rack x layout)
    → Less rack x layout shares
less [] x layout shares e = all_less [] x layout shares e
less (d ∷ ds) x [] shares e = all_less (d ∷ ds) x [] shares e
less (d ∷ ds) x (copies ∷ rest) shares e = go (has_free_slot d copies) shares e (less ds x rest)
  where
    go : (b : Bool) (shares : List (List Item))
        → films_on shares ≡ films_on (cond b ((copies ++ (x ∷ [])) ∷ rest) (copies ∷ shelved_one ds x rest))
        → ((shares : List (List Item)) → films_on shares ≡ films_on (shelved_one ds x rest) → Less ds x rest shares)
        → Less (d ∷ ds) x (copies ∷ rest) shares
    go true [] e later = let z : ◌≡◌ {A = ℕ} 0 1 = cc in absurd (omega arith)
    go true (mine ∷ shares) e later = end_less d ds x copies rest mine shares (ended copies x mine (cc)) (cc)
    go false [] e later = let z : ◌≡◌ {A = ℕ} 0 1 = cc in absurd (omega arith)
    go false (mine ∷ shares) e later = later_less d ds x copies rest mine shares (cc) (later shares (cc))
