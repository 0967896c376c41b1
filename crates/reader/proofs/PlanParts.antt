-- What stands in a plan that was read: a line that passed its test, and a table written at its front.
use mathlib.Core.Path.{◌≡◌, sym, ap, ap₂, ◌∙◌}
use mathlib.Core.Bool.{Bool, true, cond}
use mathlib.Core.List.{List, ◌++◌, map}
use Prim.Native.Nat.{ℕ}
use native.Mathlib.Omega.{arith}
use lib.ListN.{length, drop, length-map, take-append-drop}
use Rattle.placement.specs.Tables.{entry_of, written}
use Rattle.placement.specs.Held.{front}
use Rattle.placement.proofs.ReadBack.{front_length, front_entries}
use Rattle.plan_text.specs.Text.{line_feed}
use Rattle.plan_text.specs.Parse.{Parse, parsed, unparsed, next, byte}
use Rattle.plan_text.specs.Reading.{line}
use Rattle.plan_text.proofs.Pieces.{next_parsed, chosen_parsed, parsed_value}
use Rattle.reader.specs.Pairs.{Stored}

-- A line that was read passed its test.
pub line_passed :
    {A : Type 0} (body : List ℕ → Parse A) (test : A → Bool) (t : List ℕ) (a : A) (after : List ℕ)
    → line body test t ≡ parsed a after → test a ≡ true
line_passed body test t a after e =
    next_parsed (body t) (λ x t₁. next (byte line_feed t₁) (λ u t₂. cond (test x) (parsed x t₂) unparsed)) e
    (λ x t₁ read rest.
    next_parsed (byte line_feed t₁) (λ u t₂. cond (test x) (parsed x t₂) unparsed) rest
    (λ u t₂ ended chosen.
    chosen_parsed (test x) (parsed x t₂) chosen
    (λ held same. ap test (sym (parsed_value same)) ∙ held)))

-- A table whose first n places were written.
pub stored_written :
    (n : ℕ) (entries entries' : List ℕ) → Stored n entries entries' → length entries' ≡ length entries
    → entries' ≡ written (map entry_of (front n entries')) entries
stored_written n entries entries' stored wide =
    sym (take-append-drop n entries')
    ∙ ap₂ ◌++◌ (sym (front_entries n entries')) stored.kept
    ∙ ap (λ (i : ℕ). map entry_of (front n entries') ++ drop i entries)
    (sym (length-map (front n entries') entry_of ∙ front_length n entries' (omega (arith, stored.few))))
