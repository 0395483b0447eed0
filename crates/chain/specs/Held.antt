-- The numbers of a chain's levels, as a list. Assumes nothing.
use Rattle.std.specs.Prelude.{ℕ, List, take}
use Rattle.chain.specs.declared.numbers.LevelNumbers.{LevelNumbers}

abbrev pub held : LevelNumbers → List ℕ
held n = take n.count n.numbers
