-- How many elements pass a test, and the distance of words as the weight of their difference. Assumes nothing.
use Rattle.std.proofs.Common.{◌≡◌, ℕ, suc, ◌+◌, ◌≤◌, Bool, true, false, not, T, List, [], ◌∷◌, ◌++◌, length, refl, ap, ◌∙◌, arith}
use Rattle.std.specs.List.{AllByRecursion}
use Rattle.algebra.specs.FieldOn.{FieldOn}
use Rattle.algebra.specs.Vectors.{minus}
use Rattle.field.specs.Places.{unless, Tells}
use Rattle.field.proofs.Metric.{bool_path, unless_add, none_step}
use Rattle.algebra.specs.Distance.{given, told, passing, failing, same_in, is_zero, distance_in, weight}
use Rattle.algebra.proofs.Ring.{equal_from_difference, difference_zero}

pub told_yes : {P : Type 0} (d : Dec P) → T (told d) → P
told_yes (yes p) t = p
told_yes (no n) t = absurd t

pub told_holds : {P : Type 0} (d : Dec P) → P → T (told d)
told_holds (yes p) q = tt
told_holds (no n) q = n q

pub told_no : {P : Type 0} (d : Dec P) → T (not (told d)) → P → ⊥
told_no (yes p) t q = t
told_no (no n) t q = n q

pub told_false : {P : Type 0} (d : Dec P) → P → not (told d) ≡ false
told_false (yes p) h = refl
told_false (no n) h = absurd (n h)

pub same_tells : {K : Type 0} (F : FieldOn K) → Tells (same_in F)
same_tells F = record { equal = λ a b t. told_yes (F.same? a b) t; itself = λ a. told_holds (F.same? a a) refl }

-- one place more, by cases of its test
split_step : (b : Bool) (i j n : ℕ) → i + j ≡ n → given b i + unless b j ≡ suc n
split_step true i j n e = omega arith
split_step false i j n e = omega arith

more_step : (b c : Bool) (i j : ℕ) → (T b → T c) → i ≤ j → given b i ≤ given c j
more_step true true i j f l = omega arith
more_step true false i j f l = absurd (f tt)
more_step false true i j f l = omega arith
more_step false false i j f l = l

given_add : (b : Bool) (i j k : ℕ) → k ≡ i + j → given b k ≡ given b i + j
given_add true i j k e = omega arith
given_add false i j k e = e

module _ {X : Type 0} where
  -- those that pass and those that fail are all
  pub passing_failing : (test : X → Bool) (xs : List X) → passing test xs + failing test xs ≡ length xs
  passing_failing test [] = refl
  passing_failing test (x ∷ xs) = split_step (test x) _ _ _ (passing_failing test xs)

  -- a weaker test is passed at least as often
  pub passing_more : (p q : X → Bool) → ((x : X) → T (p x) → T (q x)) → (xs : List X) → passing p xs ≤ passing q xs
  passing_more p q f [] = omega arith
  passing_more p q f (x ∷ xs) = more_step (p x) (q x) _ _ (f x) (passing_more p q f xs)

  pub passing_append : (test : X → Bool) (xs ys : List X) → passing test (xs ++ ys) ≡ passing test xs + passing test ys
  passing_append test [] ys = omega arith
  passing_append test (x ∷ xs) ys = given_add (test x) _ _ _ (passing_append test xs ys)

  pub failing_append : (test : X → Bool) (xs ys : List X) → failing test (xs ++ ys) ≡ failing test xs + failing test ys
  failing_append test [] ys = omega arith
  failing_append test (x ∷ xs) ys = unless_add (test x) _ _ _ (failing_append test xs ys)

  -- none fails: all pass
  pub failing_none : (test : X → Bool) (xs : List X) → failing test xs ≡ 0 → AllByRecursion (λ x. T (test x)) xs
  failing_none test [] e = tt
  failing_none test (x ∷ xs) e =
      let s = none_step (test x) (failing test xs) e in
      (s.0, failing_none test xs s.1)

given_not : (b : Bool) (n : ℕ) → given (not b) n ≡ unless b n
given_not true n = refl
given_not false n = refl

pub passing_not : {X : Type 0} (test : X → Bool) (xs : List X) → passing (λ x. not (test x)) xs ≡ failing test xs
passing_not test [] = refl
passing_not test (x ∷ xs) = given_not (test x) _ ∙ ap (unless (test x)) (passing_not test xs)

module _ {K : Type 0} (F : FieldOn K) where
  -- the distance of two words of one length is the weight of their difference
  pub distance_weight : (xs ys : List K) → length xs ≡ length ys → distance_in F xs ys ≡ weight F (minus F.ops xs ys)
  distance_weight [] [] e = refl
  distance_weight [] (y ∷ ys) e = absurd (omega arith)
  distance_weight (x ∷ xs) [] e = absurd (omega arith)
  distance_weight (x ∷ xs) (y ∷ ys) e =
      ap (λ b. unless b (distance_in F xs ys))
      (bool_path (same_in F x y) (is_zero F _)
      (λ t. told_holds (F.same? _ _) (difference_zero F (told_yes (F.same? x y) t)))
      (λ t. told_holds (F.same? x y) (equal_from_difference F (told_yes (F.same? _ _) t))))
      ∙ ap (unless (is_zero F _)) (distance_weight xs ys (omega arith))
