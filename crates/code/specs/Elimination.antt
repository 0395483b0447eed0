-- One step of elimination on the rows of a matrix, and the columns that are not yet taken. Assumes nothing.
use Rattle.std.specs.Prelude.{◌≡◌, ℕ, suc, Bool, true, false, T, List, [], ◌∷◌, map, length, nat_eq, slice_index}
use Rattle.std.specs.List.{AllByRecursion}
use Rattle.field.specs.Meaning.{opposite_of, inverse_of}
use Rattle.field.specs.Meaning as fields
use Rattle.field.specs.Words.{symbols, plus_scaled}
use Rattle.algebra.specs.Matrices.{tested}
use Rattle.algebra.specs.Symbols.{numbers}
use Rattle.code.specs.Columns.{column}

-- the row plus that multiple of the top row which makes its entry in column p zero
abbrev pub cleared_row : fields.Meaning → ℕ → List ℕ → List ℕ → List ℕ
cleared_row F p top r = plus_scaled F (opposite_of F (F.product (slice_index r p) (inverse_of F (slice_index top p)))) r top

-- the other rows, each cleared by the top row
abbrev pub reduced_rows : fields.Meaning → ℕ → List (List ℕ) → List (List ℕ)
reduced_rows F p [] = []
reduced_rows F p (top ∷ rows) = map (cleared_row F p top) rows

-- the columns from a on that are not taken
abbrev pub free_from : ℕ → List Bool → List ℕ
free_from a [] = []
free_from a (true ∷ ts) = free_from (suc a) ts
free_from a (false ∷ ts) = a ∷ free_from (suc a) ts

-- all rows are words of w symbols
abbrev pub Rows : fields.Meaning → ℕ → List (List ℕ) → Type 0
Rows F w rows = AllByRecursion (λ r. T (symbols F.q r)) rows × AllByRecursion (λ r. length r ≡ w) rows

-- the test by elimination, with every free column as the first pivot
abbrev pub passes : fields.Meaning → List (List ℕ) → List Bool → Bool
passes F rows taken = tested (numbers F) (λ a. nat_eq a 0) nat_eq (length rows) (column rows) (free_from 0 taken)
