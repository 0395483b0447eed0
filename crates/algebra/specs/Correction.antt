-- The equations by which a word of values is corrected. Assumes nothing.
use Rattle.std.specs.Prelude.{◌≡◌, ℕ, zero, suc, List, [], ◌∷◌, ◌++◌}
use Rattle.std.specs.List.{AllZip}
use Rattle.algebra.specs.FieldOn.{Ops}
use Rattle.algebra.specs.Vectors.{times, opposite}
use Rattle.algebra.specs.Polynomials.{value, monic}

module _ {K : Type 0} (A : Ops K) where
  -- Received ys at the points: E is monic with the lower coefficients l, and y·E(x) = N(x) at every point.
  abbrev pub Located : List K → List K → List K → List K → Type 0
  Located points ys l N = AllZip (λ x y. A.mul y (value A (monic A l) x) ≡ value A N x) points ys

  -- f agrees with the received word wherever E is not 0
  abbrev pub Agrees : List K → List K → List K → List K → Type 0
  Agrees points ys l f = AllZip (λ x y. A.mul (value A (monic A l) x) (value A f x) ≡ A.mul (value A (monic A l) x) y) points ys

  abbrev pub power : K → ℕ → K
  power x zero = A.one
  power x (suc n) = A.mul x (power x n)

  -- p, p·x, p·x², …: n of them
  abbrev pub powers_from : K → K → ℕ → List K
  powers_from p x zero = []
  powers_from p x (suc n) = p ∷ powers_from (A.mul p x) x n

  abbrev pub powers : K → ℕ → List K
  powers x n = powers_from A.one x n

  -- y·E(x) = N(x) as a row, for E of degree t and N of n coefficients: first the unknowns of E, then those of N
  abbrev pub locator_row : ℕ → ℕ → K → K → List K
  locator_row t n x y = (times A y (powers x t) ++ opposite A (powers x n)) ++ (A.neg (A.mul y (power x t)) ∷ [])

  -- e·f(x) = e·y as a row, for f of k coefficients
  abbrev pub message_row : ℕ → K → K → K → List K
  message_row k e x y = times A e (powers x k) ++ (A.mul e y ∷ [])

  -- one row for each point and the symbol received there
  abbrev pub rows_of : (K → K → List K) → List K → List K → List (List K)
  rows_of row [] ys = []
  rows_of row (x ∷ points) [] = []
  rows_of row (x ∷ points) (y ∷ ys) = row x y ∷ rows_of row points ys

  abbrev pub locator_rows : ℕ → ℕ → List K → List K → List (List K)
  locator_rows t n points ys = rows_of (locator_row t n) points ys

  abbrev pub message_rows : ℕ → List K → List K → List K → List (List K)
  message_rows k l points ys = rows_of (λ x y. message_row k (value A (monic A l) x) x y) points ys
