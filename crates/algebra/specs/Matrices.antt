-- Matrices by their columns, and those that are non-singular by columns. Assumes nothing.
use Rattle.std.specs.Prelude.{◌≡◌, ℕ, zero, suc, ◌≤◌, Bool, true, false, not, ◌&&◌, ◌≢◌, ◌⊎◌, List, [], ◌∷◌, length}
use Rattle.std.specs.List.{AllByRecursion}
use Rattle.field.specs.Meaning.{Meaning}
use Rattle.algebra.specs.FieldOn.{Ops}
use Rattle.algebra.specs.Symbols.{numbers, Symbols}
use Rattle.algebra.specs.Vectors.{dot, Zeros}
use Rattle.algebra.specs.Polynomials.{Different}
use Rattle.algebra.specs.Systems.{lead, rest, cleared}

-- A matrix gives for each index of a column its entries, top row first. Only some columns may be in play.
module _ {K : Type 0} (A : Ops K) {I : Type 0} where
  -- For t up to s and any t different columns, the only combination of the first t rows that is 0 in those columns has all coefficients 0.
  abbrev pub Nonsingular : ℕ → (I → List K) → (I → Type 0) → Type 0
  Nonsingular s column In =
      (js : List I) (cs : List K) → length cs ≤ s → length js ≡ length cs → Different js → AllByRecursion In js
      → AllByRecursion (λ j. dot A cs (column j) ≡ A.zero) js → Zeros A cs

  -- the first row cleared from the others by the pivot in column p, and dropped
  abbrev pub reduced : (I → List K) → I → I → List K
  reduced column p j = rest A (cleared A (column p) (column j))

  -- every column in play has a pivot, and without that column and the first row the same holds
  abbrev pub Reducible : ℕ → (I → List K) → (I → Type 0) → Type 0
  Reducible zero column In = Unit {0}
  Reducible (suc s) column In = (p : I) → In p → (lead A (column p) ≢ A.zero) × Reducible s (reduced column p) (λ j. In j × (j ≢ p))

-- the same of a matrix of numbers: the coefficients are symbols
abbrev pub NonsingularNumbers : Meaning → ℕ → (ℕ → List ℕ) → (ℕ → Type 0) → Type 0
NonsingularNumbers F s column In =
    (js : List ℕ) (cs : List ℕ) → length cs ≤ s → length js ≡ length cs → Different js → AllByRecursion In js → Symbols F cs
    → AllByRecursion (λ j. dot (numbers F) cs (column j) ≡ 0) js → Zeros (numbers F) cs

-- all elements pass
abbrev pub every : {X : Type 0} → (X → Bool) → List X → Bool
every test [] = true
every test (x ∷ xs) = test x && every test xs

-- put in front unless the test passes
abbrev pub kept : {X : Type 0} → Bool → X → List X → List X
kept true x xs = xs
kept false x xs = x ∷ xs

-- the list without the elements that are the same as p
abbrev pub without : {X : Type 0} → (X → X → Bool) → X → List X → List X
without same p [] = []
without same p (x ∷ xs) = kept (same x p) x (without same p xs)

-- j stands in the list
abbrev pub Among : {X : Type 0} → List X → X → Type 0
Among [] j = ⊥
Among (x ∷ xs) j = (j ≡ x) ⊎ Among xs j

-- the test by elimination, over a list of the columns in play
abbrev pub tested : {K : Type 0} → Ops K → (K → Bool) → {I : Type 0} → (I → I → Bool) → ℕ → (I → List K) → List I → Bool
tested A zero? same zero column js = true
tested A zero? same (suc s) column js = every (λ p. not (zero? (lead A (column p))) && tested A zero? same s (reduced A column p) (without same p js)) js
