-- Polynomials as lists of coefficients, lowest first. Assumes nothing.
use Rattle.std.specs.Prelude.{◌≢◌, List, [], ◌∷◌, ◌++◌}
use Rattle.std.specs.List.{AllByRecursion}
use Rattle.algebra.specs.FieldOn.{Ops}
use Rattle.algebra.specs.Vectors.{plus, times}

-- no two elements of the list are equal
abbrev pub Different : {X : Type 0} → List X → Type 0
Different [] = Unit {0}
Different (x ∷ xs) = AllByRecursion (λ y. x ≢ y) xs × Different xs

module _ {K : Type 0} (A : Ops K) where
  -- the value at x, by Horner's rule
  abbrev pub value : List K → K → K
  value [] x = A.zero
  value (c ∷ f) x = A.add c (A.mul x (value f x))

  -- the values at the points, one after another
  abbrev pub values : List K → List K → List K
  values f [] = []
  values f (x ∷ points) = value f x ∷ values f points

  -- the product of two polynomials
  abbrev pub convolve : List K → List K → List K
  convolve [] g = []
  convolve (c ∷ f) g = plus A (times A c g) (A.zero ∷ convolve f g)

  -- A monic polynomial is given by its coefficients below the leading 1.
  abbrev pub monic : List K → List K
  monic lower = lower ++ (A.one ∷ [])

  -- the monic polynomial times x − a
  abbrev pub with_root : K → List K → List K
  with_root a lower = plus A (times A (A.neg a) (monic lower)) (A.zero ∷ lower)

  -- what is left of c + x·f at the division by x − a, if a is a zero of it
  abbrev pub quotient : K → List K → List K
  quotient a [] = []
  quotient a (c ∷ f) = value (c ∷ f) a ∷ quotient a f
