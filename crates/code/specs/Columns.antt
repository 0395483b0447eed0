-- Matrices that are non-singular by columns: one sentence, as a test of all cases that is never run. Assumes nothing.
use Rattle.std.specs.Prelude.{ℕ, zero, suc, Bool, true, not, ◌&&◌, ◌||◌, List, [], ◌∷◌, ◌==◌, nat_eq, slice_index}
use Rattle.field.specs.Meaning as fields
use Rattle.algebra.specs.Matrices.{every}
use Rattle.algebra.specs.Symbols.{numbers}
use Rattle.algebra.specs.Vectors.{dot}
use Rattle.chain.specs.Search.{all_words}

-- a column's entries, top row first; columns are counted from 0 here
abbrev pub column : List (List ℕ) → ℕ → List ℕ
column [] j = []
column (r ∷ rs) j = slice_index r j ∷ column rs j

abbrev pub all_different : List ℕ → Bool
all_different [] = true
all_different (j ∷ js) = every (λ i. not (j == i)) js && all_different js

abbrev pub implies : Bool → Bool → Bool
implies a b = not a || b

-- the combination of the first rows with the coefficients cs is 0 in each of the columns js
abbrev pub vanishes : fields.Meaning → List (List ℕ) → List ℕ → List ℕ → Bool
vanishes F rows js cs = every (λ j. nat_eq (dot (numbers F) cs (column rows j)) 0) js

abbrev pub all_zero : List ℕ → Bool
all_zero cs = every (λ c. nat_eq c 0) cs

-- the test passes at 1 to n
abbrev pub up_to : ℕ → (ℕ → Bool) → Bool
up_to zero test = true
up_to (suc n) test = up_to n test && test (suc n)

-- For t from 1 to s and any t different columns, the only combination of the first t rows that is 0 in those columns has all coefficients 0.
unfoldable pub nonsingular : fields.Meaning → ℕ → ℕ → List (List ℕ) → Bool
nonsingular F s l rows =
    up_to s (λ t. every (λ js. implies (all_different js) (every (λ cs. implies (vanishes F rows js cs) (all_zero cs)) (all_words F.q t))) (all_words l t))
