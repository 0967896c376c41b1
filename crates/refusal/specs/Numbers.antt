-- The number and second number of each refusal, as documents 01 and 02 have them.
use Rattle.std.specs.Prelude.{ℕ, Result, Ok, Err}
use Rattle.refusal.specs.Verdict.{Verdict, given, refused}
use Rattle.refusal.specs.declared.Refusal.{Refusal}
use Rattle.refusal.specs.declared.Refusal.TheVariants.{RackOutOfRange, ListLength, TooManyRecords, FilmOutOfRange, DemandOutOfRange, FilmRepeated, TablesTooShort, TextTooLong, Line, NotWellFormed, SpaceTooShort, DisksOutOfRange, RatioDiffers, TooManyDisks, FirstLinesDiffer, ServiceClip, TerminalTooSmall}

abbrev pub number_of : Refusal → ℕ
number_of RackOutOfRange = 1
number_of ListLength = 2
number_of TooManyRecords = 3
number_of (FilmOutOfRange position) = 4
number_of (DemandOutOfRange position) = 5
number_of (FilmRepeated position) = 6
number_of TablesTooShort = 7
number_of TextTooLong = 8
number_of (Line line) = 9
number_of NotWellFormed = 10
number_of SpaceTooShort = 11
number_of DisksOutOfRange = 12
number_of (RatioDiffers disk) = 13
number_of TooManyDisks = 14
number_of FirstLinesDiffer = 15
number_of (ServiceClip position) = 16
number_of TerminalTooSmall = 17

-- The position of the record, the line, or the disk; 0 where no second number is named.
abbrev pub second_of : Refusal → ℕ
second_of RackOutOfRange = 0
second_of ListLength = 0
second_of TooManyRecords = 0
second_of (FilmOutOfRange position) = position
second_of (DemandOutOfRange position) = position
second_of (FilmRepeated position) = position
second_of TablesTooShort = 0
second_of TextTooLong = 0
second_of (Line line) = line
second_of NotWellFormed = 0
second_of SpaceTooShort = 0
second_of DisksOutOfRange = 0
second_of (RatioDiffers disk) = disk
second_of TooManyDisks = 0
second_of FirstLinesDiffer = 0
second_of (ServiceClip position) = position
second_of TerminalTooSmall = 0

-- A refusal as a verdict on any call.
abbrev pub refusal_of : {A : Type 0} → Refusal → Verdict A
refusal_of r = refused (number_of r) (second_of r)

-- An answer as a verdict.
abbrev pub verdict_of : {A : Type 0} → Result A Refusal → Verdict A
verdict_of (Ok a) = given a
verdict_of (Err r) = refusal_of r
