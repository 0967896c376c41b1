-- "A byte of the text is a digit, a small letter, a bracket, a space, a line feed or foreign."
use Rattle.std.specs.Prelude.{ℕ, Bool, true, false, cond, not, ◌&&◌, List, [], ◌∷◌, leb, eqb}
use Rattle.reader.specs.declared.class.Class.{Class}
use Rattle.reader.specs.declared.class.Class.TheVariants.{Digit, SmallLetter, Bracket, Space, LineFeed, Foreign}

abbrev pub between : ℕ → ℕ → ℕ → Bool
between low high b = leb low b && leb b high

-- The class of a byte.
abbrev pub class_of : ℕ → Class
class_of b =
    cond (between 48 57 b) Digit
    (cond (between 97 122 b) SmallLetter
    (cond (between 40 41 b) Bracket (cond (eqb b 32) Space (cond (eqb b 10) LineFeed Foreign))))

abbrev pub digital : Class → Bool
digital Digit = true
digital SmallLetter = false
digital Bracket = false
digital Space = false
digital LineFeed = false
digital Foreign = false

abbrev pub foreign : Class → Bool
foreign Digit = false
foreign SmallLetter = false
foreign Bracket = false
foreign Space = false
foreign LineFeed = false
foreign Foreign = true

-- No byte of the list is foreign.
abbrev pub none_foreign : List ℕ → Bool
none_foreign [] = true
none_foreign (b ∷ bs) = not (foreign (class_of b)) && none_foreign bs
