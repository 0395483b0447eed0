-- The arithmetic of a field of numbers: as it stands, and on its symbols alone. Assumes nothing.
use Rattle.std.specs.Prelude.{ℕ, ◌<◌, List}
use Rattle.std.specs.List.{AllByRecursion}
use Rattle.field.specs.Meaning.{Meaning, opposite_of, inverse_of}
use Rattle.algebra.specs.FieldOn.{Ops}

-- sum, product, opposite and inverse of numbers, as the meaning has them; only for symbols do they mean anything
abbrev pub numbers : Meaning → Ops ℕ
numbers F = record { zero = 0; one = 1; add = F.sum; mul = F.product; neg = opposite_of F; inv = inverse_of F }

-- all of the numbers are symbols
abbrev pub Symbols : Meaning → List ℕ → Type 0
Symbols F xs = AllByRecursion (λ x. x < F.q) xs

-- a number with the proof that it is below q
abbrev pub Below : ℕ → Type 0
Below q = (n : ℕ) × (n < q)

abbrev pub val : {q : ℕ} → Below q → ℕ
val a = a.0
