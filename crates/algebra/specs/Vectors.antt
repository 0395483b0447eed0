-- Vectors as lists: a shorter one counts as filled up with zeros. Assumes nothing.
use Rattle.std.specs.Prelude.{◌≡◌, List, [], ◌∷◌}
use Rattle.std.specs.List.{AllByRecursion}
use Rattle.algebra.specs.FieldOn.{Ops}

module _ {K : Type 0} (A : Ops K) where
  -- the sum place by place
  abbrev pub plus : List K → List K → List K
  plus [] ys = ys
  plus (x ∷ xs) [] = x ∷ xs
  plus (x ∷ xs) (y ∷ ys) = A.add x y ∷ plus xs ys

  -- each place times c
  abbrev pub times : K → List K → List K
  times c [] = []
  times c (x ∷ xs) = A.mul c x ∷ times c xs

  abbrev pub opposite : List K → List K
  opposite [] = []
  opposite (x ∷ xs) = A.neg x ∷ opposite xs

  abbrev pub minus : List K → List K → List K
  minus xs ys = plus xs (opposite ys)

  abbrev pub total : List K → K
  total [] = A.zero
  total (x ∷ xs) = A.add x (total xs)

  -- the sum of the products place by place
  abbrev pub dot : List K → List K → K
  dot [] ys = A.zero
  dot (x ∷ xs) [] = A.zero
  dot (x ∷ xs) (y ∷ ys) = A.add (A.mul x y) (dot xs ys)

  -- the sum of the vectors, each times its coefficient
  abbrev pub combination : List K → List (List K) → List K
  combination [] vs = []
  combination (c ∷ cs) [] = []
  combination (c ∷ cs) (v ∷ vs) = plus (times c v) (combination cs vs)

  -- the sums of the vectors one by one
  abbrev pub plus_each : List (List K) → List (List K) → List (List K)
  plus_each [] ws = ws
  plus_each (v ∷ vs) [] = v ∷ vs
  plus_each (v ∷ vs) (w ∷ ws) = plus v w ∷ plus_each vs ws

  -- all places are 0
  abbrev pub Zeros : List K → Type 0
  Zeros xs = AllByRecursion (λ x. x ≡ A.zero) xs
