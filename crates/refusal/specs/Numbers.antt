-- The number of each refusal. Assumes nothing.
use Rattle.std.specs.Prelude.{ℕ, Some, None, Option}
use Rattle.refusal.specs.declared.Refusal.{Refusal}
use Rattle.refusal.specs.declared.Refusal.TheVariants.{BadArgument, UnsupportedPrime, NoLevelWord, ChainLength, LevelCount, LevelShape, MatrixShape, MatrixEntry, SingularMatrix, ForeignCode, WrongLength, BadSymbol, ShortScratch, FullBook, NoCodeword, NoEntry}

abbrev pub refusal_number : Refusal → ℕ
refusal_number BadArgument = 1
refusal_number UnsupportedPrime = 2
refusal_number NoLevelWord = 3
refusal_number ChainLength = 4
refusal_number LevelCount = 5
refusal_number LevelShape = 6
refusal_number MatrixShape = 7
refusal_number MatrixEntry = 8
refusal_number SingularMatrix = 9
refusal_number ForeignCode = 10
refusal_number WrongLength = 11
refusal_number BadSymbol = 12
refusal_number ShortScratch = 13
refusal_number FullBook = 14
refusal_number (NoCodeword tries) = 15
refusal_number NoEntry = 16

abbrev pub number_or_0 : Option Refusal → ℕ
number_or_0 None = 0
number_or_0 (Some r) = refusal_number r
