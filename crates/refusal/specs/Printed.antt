-- The bytes in which a refusal is shown. Assumes nothing.
use Rattle.std.specs.Prelude.{ℕ, List, [], ◌++◌, codes, decimal}
use Rattle.refusal.specs.declared.Refusal.{Refusal}
use Rattle.refusal.specs.declared.Refusal.TheVariants.{BadArgument, UnsupportedPrime, NoLevelWord, ChainLength, LevelCount, LevelShape, MatrixShape, MatrixEntry, SingularMatrix, ForeignCode, WrongLength, BadSymbol, ShortScratch, FullBook, NoCodeword, NoEntry}
use Rattle.refusal.specs.Numbers.{refusal_number}

-- after the number of a refusal, the tries that it carries
abbrev pub tries : Refusal → List ℕ
tries BadArgument = []
tries UnsupportedPrime = []
tries NoLevelWord = []
tries ChainLength = []
tries LevelCount = []
tries LevelShape = []
tries MatrixShape = []
tries MatrixEntry = []
tries SingularMatrix = []
tries ForeignCode = []
tries WrongLength = []
tries BadSymbol = []
tries ShortScratch = []
tries FullBook = []
tries (NoCodeword n) = codes " tries " ++ decimal n
tries NoEntry = []

abbrev pub printed_refusal : Refusal → List ℕ
printed_refusal r = codes "refused " ++ (decimal (refusal_number r) ++ tries r)
