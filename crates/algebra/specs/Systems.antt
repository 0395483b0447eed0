-- Systems of linear equations. A row holds the coefficients, one for each unknown, and then the right-hand side. Assumes nothing.
use Rattle.std.specs.Prelude.{◌≡◌, ℕ, List, [], ◌∷◌, length, slice_index_or}
use Rattle.std.specs.List.{AllByRecursion}
use Rattle.field.specs.Meaning.{Meaning}
use Rattle.algebra.specs.FieldOn.{Ops}
use Rattle.algebra.specs.Symbols.{numbers, Symbols}
use Rattle.algebra.specs.Vectors.{plus, times, dot}

module _ {K : Type 0} (A : Ops K) where
  -- the unknowns meet the row: the coefficients times the unknowns add to the entry after them
  abbrev pub Meets : List K → List K → Type 0
  Meets r xs = dot A r xs ≡ slice_index_or r (length xs) A.zero

  abbrev pub Solves : List (List K) → List K → Type 0
  Solves rows xs = AllByRecursion (λ r. Meets r xs) rows

  -- some n elements solve the system
  abbrev pub Solvable : ℕ → List (List K) → Type 0
  Solvable n rows = (xs : List K) × (length xs ≡ n) × Solves rows xs

  -- a row's first entry and the others; past the end a row has zeros
  abbrev pub lead : List K → K
  lead [] = A.zero
  lead (a ∷ r) = a

  abbrev pub rest : List K → List K
  rest [] = []
  rest (a ∷ r) = r

  -- the row plus that multiple of the pivot row which makes its first entry 0
  abbrev pub cleared : List K → List K → List K
  cleared p r = plus A r (times A (A.neg (A.mul (lead r) (A.inv (lead p)))) p)

  -- the first unknown, from the pivot row and the other unknowns
  abbrev pub head_unknown : List K → List K → K
  head_unknown p xs = A.mul (A.inv (lead p)) (A.add (slice_index_or (rest p) (length xs) A.zero) (A.neg (dot A (rest p) xs)))

  -- s is r with some multiple of p added, and its first entry is 0
  pub record Cleared (p r s : List K) : Type 0 where
    pub factor : K
    pub is : s ≡ plus A r (times A factor p)
    pub zero_lead : lead s ≡ A.zero

-- some n symbols solve the system of numbers
abbrev pub SolvableNumbers : Meaning → ℕ → List (List ℕ) → Type 0
SolvableNumbers F n rows = (xs : List ℕ) × (length xs ≡ n) × Symbols F xs × Solves (numbers F) rows xs
