-- The number of places where two words differ. Assumes nothing.
use Rattle.std.specs.Prelude.{◌≡◌, ℕ, suc, Bool, true, false, T, List, [], ◌∷◌, length, nat_eq}

-- one more where the test fails
abbrev pub unless : Bool → ℕ → ℕ
unless true n = n
unless false n = suc n

module _ {X : Type 0} where
  -- the number of places where two words differ; a place that only one of them has counts
  abbrev pub distance_by : (X → X → Bool) → List X → List X → ℕ
  distance_by same [] ys = length ys
  distance_by same (x ∷ xs) [] = suc (length xs)
  distance_by same (x ∷ xs) (y ∷ ys) = unless (same x y) (distance_by same xs ys)

  -- the test tells whether two elements are equal
  pub record Tells (same : X → X → Bool) : Type 0 where
    pub equal : (a b : X) → T (same a b) → a ≡ b
    pub itself : (a : X) → T (same a a)

-- the distance of two words of symbols
abbrev pub distance : List ℕ → List ℕ → ℕ
distance xs ys = distance_by nat_eq xs ys
