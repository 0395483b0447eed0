-- Words of symbols as the field's definitions have them, and as the lemmas over any field do. Assumes nothing.
use Rattle.std.specs.Prelude.{◌≡◌, ℕ, T, List, [], ◌∷◌, map, length, nat_lt, refl}
use Rattle.std.proofs.Common.{ap, ap₂, arith, ltb→lt, lt→ltb}
use Rattle.field.specs.Meaning.{Meaning}
use Rattle.field.specs.Words.{symbols, value_at, added, scaled}
use Rattle.field.proofs.Accepted.{both_hold}
use Rattle.field.proofs.Tests.{both_left, both_right}
use Rattle.algebra.specs.Symbols.{numbers, Symbols}
use Rattle.algebra.specs.Vectors.{plus, times}
use Rattle.algebra.specs.Polynomials.{value, values}

module _ (F : Meaning) where
  pub all_symbols : (xs : List ℕ) → T (symbols F.q xs) → Symbols F xs
  all_symbols [] t = tt
  all_symbols (x ∷ xs) t = (ltb→lt x F.q (both_left _ (symbols F.q xs) t), all_symbols xs (both_right (nat_lt x F.q) _ t))

  pub symbols_all : (xs : List ℕ) → Symbols F xs → T (symbols F.q xs)
  symbols_all [] h = tt
  symbols_all (x ∷ xs) (h, hs) = both_hold _ _ (lt→ltb x F.q h) (symbols_all xs hs)

  pub value_is : (xs : List ℕ) (x : ℕ) → value_at F x xs ≡ value (numbers F) xs x
  value_is [] x = refl
  value_is (c ∷ xs) x = ap (λ v. F.sum c (F.product x v)) (value_is xs x)

  pub values_are : (xs points : List ℕ) → map (λ x. value_at F x xs) points ≡ values (numbers F) xs points
  values_are xs [] = refl
  values_are xs (x ∷ points) = ap₂ (λ (v : ℕ) vs. v ∷ vs) (value_is xs x) (values_are xs points)

  pub added_is : (xs ys : List ℕ) → length xs ≡ length ys → added F xs ys ≡ plus (numbers F) xs ys
  added_is [] [] e = refl
  added_is [] (y ∷ ys) e = absurd (omega arith)
  added_is (x ∷ xs) [] e = refl
  added_is (x ∷ xs) (y ∷ ys) e = ap (λ vs. F.sum x y ∷ vs) (added_is xs ys (omega arith))

  pub scaled_is : (a : ℕ) (xs : List ℕ) → scaled F a xs ≡ times (numbers F) a xs
  scaled_is a [] = refl
  scaled_is a (x ∷ xs) = ap (λ vs. F.product a x ∷ vs) (scaled_is a xs)
