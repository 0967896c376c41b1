-- What a step of a cursor read, and the bytes that it left; what lines said of which one is refused.
use Rattle.std.specs.Prelude.{◌≡◌, ℕ, ◌+◌, List, Option, Some, None}
use Rattle.refusal.specs.declared.Refusal.{Refusal}
use Rattle.refusal.specs.declared.Refusal.TheVariants.{Line}
use Rattle.plan_text.specs.Parse.{Parse, parsed, unparsed}
use Rattle.plan_text.specs.Reading.{Reading, refused_after}

abbrev pub parse_of : {A : Type 0} → Option A → List ℕ → Parse A
parse_of (Some a) rest = parsed a rest
parse_of None rest = unparsed

-- The same, where what was read stands for a value.
abbrev pub parse_by : {A B : Type 0} → (A → B) → Option A → List ℕ → Parse B
parse_by f (Some a) rest = parsed (f a) rest
parse_by f None rest = unparsed

-- Lines from a first one on say this: so many fit, and the refusal names the one behind them.
pub record RefusedAt {A : Type 0} (first : ℕ) (said : Reading A) (r : Refusal) : Type 0 where
  pub fit : ℕ
  pub named : r ≡ Line (first + fit)
  pub reads : said ≡ refused_after fit
