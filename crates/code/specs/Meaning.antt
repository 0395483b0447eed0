-- What a code means: its chain, l and the matrix. Everything else about it is a function of these. Assumes nothing.
use Rattle.std.specs.Prelude.{ℕ, zero, suc, ◌-◌, ◌*◌, cond, ◌&&◌, List, [], ◌∷◌, ◌++◌, length, take, drop, ◌==◌, nat_le, slice_index, slice_index_or}
use Rattle.chain.specs.Answers.{told}
use Rattle.chain.specs.Meaning as chains

-- A code joins a chain of s levels with a matrix of s rows and l columns.
pub record Meaning : Type 0 where
  pub chain : chains.Meaning
  pub l : ℕ
  pub matrix : List (List ℕ)

-- the first n of the rows of l entries each that stand one after another
abbrev pub rows_to : ℕ → List ℕ → ℕ → List (List ℕ)
rows_to l xs zero = []
rows_to l xs (suc n) = rows_to l xs n ++ take l (drop (n * l) xs) ∷ []

-- A matrix of s rows and l columns, handed in row by row; it has no rows unless it is small enough and there are s·l entries.
abbrev pub matrix_of : ℕ → ℕ → List ℕ → List (List ℕ)
matrix_of s l xs = cond (nat_le s 4 && nat_le l 8 && length xs == s * l) (rows_to l xs s) []

-- the code of a chain, l and entries; a chain with a flaw tells no levels
abbrev pub joining : chains.Meaning → ℕ → List ℕ → Meaning
joining C l xs = record { chain = C; l = l; matrix = matrix_of (told C.flaw C.s) l xs }

-- the entry in row i and column j, counted from 1
abbrev pub entry_at : List (List ℕ) → ℕ → ℕ → ℕ
entry_at rows i j = slice_index (slice_index_or rows (i - 1) []) (j - 1)
