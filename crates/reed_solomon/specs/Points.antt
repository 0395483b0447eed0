-- The points of the words, and the word of a polynomial. Assumes nothing.
use Rattle.std.specs.Prelude.{◌≡◌, ℕ, zero, suc, ◌+◌, ◌<◌, ◌≤◌, ◌≢◌, List, [], ◌∷◌, ◌++◌, map, length, take, slice_set, refl}
use Rattle.std.proofs.Common.{sym, ap, ap₂, ◌∙◌, add-zero, zero-add, add-one, arith}
use Rattle.std.specs.List.{AllByRecursion}
use Rattle.std.proofs.lemmas.List.{length-map, map_push, take_more_set, take_all}
use Rattle.field.specs.Meaning.{Meaning}
use Rattle.field.specs.Words.{value_at}
use Rattle.algebra.specs.Symbols.{numbers}
use Rattle.algebra.specs.Polynomials.{Different, values}
use Rattle.reed_solomon.specs.Code.{points_from, points, rs_word}
use Rattle.reed_solomon.specs.Words.{values_are}

pub length_points : (i n : ℕ) → length (points_from i n) ≡ n
length_points i zero = refl
length_points i (suc n) = ap suc (length_points (suc i) n)

pub points_below : (q i n : ℕ) → i + n ≤ q → AllByRecursion (λ x. x < q) (points_from i n)
points_below q i zero h = tt
points_below q i (suc n) h = (omega arith, points_below q (suc i) n (omega arith))

points_above : (j i n : ℕ) → j < i → AllByRecursion (λ y. j ≢ y) (points_from i n)
points_above j i zero h = tt
points_above j i (suc n) h = ((λ e. omega arith), points_above j (suc i) n (omega arith))

pub points_different : (i n : ℕ) → Different (points_from i n)
points_different i zero = tt
points_different i (suc n) = (points_above i (suc i) n (omega arith), points_different (suc i) n)

pub points_push : (i n : ℕ) → points_from i (suc n) ≡ points_from i n ++ (i + n) ∷ []
points_push i zero = ap (λ (x : ℕ). x ∷ []) (sym (add-zero i))
points_push i (suc n) =
    let next : suc i + n ≡ i + suc n = omega arith in
    ap (λ xs. i ∷ xs) (points_push (suc i) n ∙ ap (λ x. points_from (suc i) n ++ x ∷ []) next)

module _ (F : Meaning) where
  pub word_is : (m : ℕ) (xs : List ℕ) → rs_word F m xs ≡ values (numbers F) xs (points m)
  word_is m xs = values_are F xs (points m)

  pub length_word : (m : ℕ) (xs : List ℕ) → length (rs_word F m xs) ≡ m
  length_word m xs = length-map (points m) (λ x. value_at F x xs) ∙ length_points 0 m

  -- one value more is written
  pub word_more : (out xs : List ℕ) (i v : ℕ) → i < length out → v ≡ value_at F i xs → take i out ≡ rs_word F i xs → take (i + 1) (slice_set out i v) ≡ rs_word F (i + 1) xs
  word_more out xs i v h e inv =
      let f : ℕ → ℕ = λ x. value_at F x xs in
      take_more_set out i v h
      ∙ ap₂ (λ t (x : ℕ). t ++ x ∷ []) inv e
      ∙ sym (map_push f (points i) i)
      ∙ sym (ap (map f) (points_push 0 i ∙ ap (λ x. points i ++ x ∷ []) (zero-add i)))
      ∙ ap (λ n. rs_word F n xs) (sym (add-one i))

  pub word_done : (out xs : List ℕ) (i n : ℕ) → i ≡ n → length out ≡ n → take i out ≡ rs_word F i xs → out ≡ rs_word F n xs
  word_done out xs i n e l inv = sym (take_all i out (omega arith)) ∙ inv ∙ ap (λ k. rs_word F k xs) e
