-- A system of linear equations in one list, row after row. Assumes nothing.
use Rattle.std.specs.Prelude.{◌≡◌, ℕ, zero, suc, Some, None, Option, ◌⊎◌, List, [], ◌∷◌, ◌++◌, take, drop}
use Rattle.field.specs.Meaning.{Meaning}
use Rattle.algebra.specs.Correction.{message_row, rows_of}
use Rattle.algebra.specs.Polynomials.{value}
use Rattle.algebra.specs.Symbols.{numbers, Symbols}
use Rattle.algebra.specs.Systems.{Solves, SolvableNumbers}

-- n rows of w entries, each from column c on
abbrev pub rows_from : ℕ → ℕ → ℕ → List ℕ → List (List ℕ)
rows_from c w zero xs = []
rows_from c w (suc n) xs = drop c (take w xs) ∷ rows_from c w n (drop w xs)

-- the first row is exchanged for one of the others, or nothing is changed
abbrev pub Exchanged : List (List ℕ) → List (List ℕ) → Type 0
Exchanged old new = (old ≡ new) ⊎ ((r p : List ℕ) × (u v : List (List ℕ)) × (old ≡ r ∷ (u ++ (p ∷ v))) × (new ≡ p ∷ (u ++ (r ∷ v))))

-- what the solver answers: a solution, which is in xs, or that there is none
abbrev pub Outcome : Meaning → List (List ℕ) → ℕ → Option (Unit {0}) → List ℕ → Type 0
Outcome F rows n (Some u) xs = Symbols F xs × Solves (numbers F) rows xs
Outcome F rows n None xs = SolvableNumbers F n rows → ⊥

-- E(x)·f(x) = E(x)·y at every point, for f of k coefficients
abbrev pub rows_with : Meaning → ℕ → List ℕ → List ℕ → List ℕ → List (List ℕ)
rows_with F k E points ys = rows_of (numbers F) (λ x y. message_row (numbers F) k (value (numbers F) E x) x y) points ys
