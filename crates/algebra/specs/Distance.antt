-- The distance of two words over a field, and numbers of places that pass a test. Assumes nothing.
use Rattle.std.specs.Prelude.{ℕ, suc, Bool, true, false, List, [], ◌∷◌}
use Rattle.field.specs.Places.{unless, distance_by}
use Rattle.algebra.specs.FieldOn.{FieldOn}

-- one more where the test passes
abbrev pub given : Bool → ℕ → ℕ
given true n = suc n
given false n = n

-- a decision as a test
abbrev pub told : {P : Type 0} → Dec P → Bool
told (yes p) = true
told (no p) = false

module _ {X : Type 0} where
  -- how many elements pass, and how many fail
  abbrev pub passing : (X → Bool) → List X → ℕ
  passing test [] = 0
  passing test (x ∷ xs) = given (test x) (passing test xs)

  abbrev pub failing : (X → Bool) → List X → ℕ
  failing test [] = 0
  failing test (x ∷ xs) = unless (test x) (failing test xs)

module _ {K : Type 0} (F : FieldOn K) where
  -- whether two elements are equal, and whether one is 0
  abbrev pub same_in : K → K → Bool
  same_in a b = told (F.same? a b)

  abbrev pub is_zero : K → Bool
  is_zero a = same_in a F.ops.zero

  abbrev pub distance_in : List K → List K → ℕ
  distance_in xs ys = distance_by same_in xs ys

  -- the number of places that are not 0
  abbrev pub weight : List K → ℕ
  weight xs = failing is_zero xs
