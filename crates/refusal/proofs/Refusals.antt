-- Every refusal has a number.
use Prim.Native.Nat.{◌≤◌}
use native.Mathlib.Omega.{arith}
use Rattle.refusal.specs.Numbers.{number_of}
use Rattle.refusal.specs.declared.Refusal.{Refusal}
use Rattle.refusal.specs.declared.Refusal.TheVariants.{RackOutOfRange, ListLength, TooManyRecords, FilmOutOfRange, DemandOutOfRange, FilmRepeated, TablesTooShort, TextTooLong, Line, NotWellFormed, SpaceTooShort, DisksOutOfRange, RatioDiffers, TooManyDisks, FirstLinesDiffer, ServiceClip, TerminalTooSmall}

-- No refusal has the number 0.
pub number_some : (r : Refusal) → 1 ≤ number_of r
number_some RackOutOfRange = omega arith
number_some ListLength = omega arith
number_some TooManyRecords = omega arith
number_some (FilmOutOfRange position) = omega arith
number_some (DemandOutOfRange position) = omega arith
number_some (FilmRepeated position) = omega arith
number_some TablesTooShort = omega arith
number_some TextTooLong = omega arith
number_some (Line line) = omega arith
number_some NotWellFormed = omega arith
number_some SpaceTooShort = omega arith
number_some DisksOutOfRange = omega arith
number_some (RatioDiffers disk) = omega arith
number_some TooManyDisks = omega arith
number_some FirstLinesDiffer = omega arith
number_some (ServiceClip position) = omega arith
number_some TerminalTooSmall = omega arith
