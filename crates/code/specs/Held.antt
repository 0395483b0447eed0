-- The matrix that a code holds, as a list of rows. Assumes nothing.
use Rattle.std.specs.Prelude.{ℕ, List, map, take}
use Rattle.chain.specs.Meaning as chains
use Rattle.code.specs.Meaning.{Meaning}
use Rattle.code.specs.declared.Code.{Code}
use Rattle.code.specs.declared.matrix.Matrix.{Matrix}

abbrev pub held : Matrix → List (List ℕ)
held a = map (take a.width) (take a.height a.rows)

-- the meaning of a code by what it holds
abbrev pub holding : chains.Meaning → ℕ → Matrix → Meaning
holding C l a = record { chain = C; l = l; matrix = held a }

-- what a code means, where its chain's type says what a chain means
abbrev pub meant : {C : Type 0} → (C → chains.Meaning) → Code C → Meaning
meant chain_meaning c = holding (chain_meaning c.chain) c.l c.matrix
