-- Words of values of a polynomial: how often they are 0, and how far apart two of them are. Assumes nothing.
use Rattle.std.proofs.Common.{◌≡◌, ℕ, suc, ◌+◌, ◌<◌, ◌≤◌, Bool, true, false, T, ◌≢◌, List, [], ◌∷◌, length, refl, ap, ◌∙◌, arith}
use native.Mathlib.Decide.{dec_le}
use Rattle.std.specs.List.{AllZip, AllByRecursion}
use Rattle.algebra.specs.FieldOn.{Ops, FieldOn}
use Rattle.algebra.specs.Vectors.{Zeros}
use Rattle.algebra.specs.Polynomials.{Different, value, values}
use Rattle.field.specs.Places.{unless}
use Rattle.algebra.specs.Distance.{given, passing, same_in, is_zero, distance_in}
use Rattle.algebra.proofs.Distance.{told_yes}
use Rattle.algebra.proofs.Polynomials.{roots, polynomials_equal}

abbrev pub keep : {X : Type 0} → Bool → X → List X → List X
keep true x xs = x ∷ xs
keep false x xs = xs

-- the elements of the first list that pass a test together with the element beside them
abbrev pub chosen : {X Y : Type 0} → (X → Y → Bool) → List X → List Y → List X
chosen test [] ys = []
chosen test (x ∷ xs) [] = []
chosen test (x ∷ xs) (y ∷ ys) = keep (test x y) x (chosen test xs ys)

all_keep : {X : Type 0} (P : X → Type 0) (b : Bool) (x : X) (xs : List X) → (T b → P x) → AllByRecursion P xs → AllByRecursion P (keep b x xs)
all_keep P true x xs p ps = (p tt, ps)
all_keep P false x xs p ps = ps

different_keep : {X : Type 0} (b : Bool) (x : X) (xs : List X) → AllByRecursion (λ y. x ≢ y) xs → Different xs → Different (keep b x xs)
different_keep true x xs n d = (n, d)
different_keep false x xs n d = d

length_keep : {X : Type 0} (b : Bool) (x : X) (xs : List X) → length (keep b x xs) ≡ given b (length xs)
length_keep true x xs = refl
length_keep false x xs = refl

pub chosen_all : {X Y : Type 0} (P : X → Type 0) (test : X → Y → Bool) (xs : List X) (ys : List Y) → AllByRecursion P xs → AllByRecursion P (chosen test xs ys)
chosen_all P test [] ys p = tt
chosen_all P test (x ∷ xs) [] p = tt
chosen_all P test (x ∷ xs) (y ∷ ys) (p, ps) = all_keep P (test x y) x _ (λ t. p) (chosen_all P test xs ys ps)

pub chosen_different : {X Y : Type 0} (test : X → Y → Bool) (xs : List X) (ys : List Y) → Different xs → Different (chosen test xs ys)
chosen_different test [] ys d = tt
chosen_different test (x ∷ xs) [] d = tt
chosen_different test (x ∷ xs) (y ∷ ys) (n, d) =
    different_keep (test x y) x _ (chosen_all (λ z. x ≢ z) test xs ys n) (chosen_different test xs ys d)

-- what follows from the test holds of the chosen
pub chosen_each : {X : Type 0} (P : X → Type 0) (test : X → X → Bool) (xs ys : List X) → AllZip (λ x y. T (test x y) → P x) xs ys → AllByRecursion P (chosen test xs ys)
chosen_each P test [] [] e = tt
chosen_each P test [] (y ∷ ys) e = tt
chosen_each P test (x ∷ xs) [] e = tt
chosen_each P test (x ∷ xs) (y ∷ ys) (e, es) = all_keep P (test x y) x _ e (chosen_each P test xs ys es)

pub chosen_passing : {X : Type 0} (test : X → Bool) (xs : List X) → length (chosen (λ x y. test x) xs xs) ≡ passing test xs
chosen_passing test [] = refl
chosen_passing test (x ∷ xs) = length_keep (test x) x _ ∙ ap (given (test x)) (chosen_passing test xs)

split_place : (b : Bool) (i j n : ℕ) → i + j ≡ n → unless b i + given b j ≡ suc n
split_place true i j n e = omega arith
split_place false i j n e = omega arith

module _ {K : Type 0} (F : FieldOn K) where
  open F.ops use {zero as 𝟘}

  abbrev A : Ops K
  A = F.ops

  -- places where a word of values differs from another word, and points where it does not
  pub differing_agreeing : (f points ys : List K) → length points ≡ length ys → distance_in F (values A f points) ys + length (chosen (λ x y. same_in F (value A f x) y) points ys) ≡ length points
  differing_agreeing f [] [] e = refl
  differing_agreeing f [] (y ∷ ys) e = absurd (omega arith)
  differing_agreeing f (x ∷ points) [] e = absurd (omega arith)
  differing_agreeing f (x ∷ points) (y ∷ ys) e =
      ap (λ n. distance_in F (values A f (x ∷ points)) (y ∷ ys) + n) (length_keep (same_in F (value A f x) y) x _)
      ∙ split_place (same_in F (value A f x) y) _ _ _ (differing_agreeing f points ys (omega arith))

  -- A polynomial of k coefficients, not all 0, is 0 at fewer than k of different points.
  pub few_zeros : (f points : List K) → Different points → (Zeros A f → ⊥) → passing (λ x. is_zero F (value A f x)) points < length f
  few_zeros f points d n = go (dec_le (length f) (passing (λ x. is_zero F (value A f x)) points))
    where
      zero_there : (ps : List K) → AllZip (λ x y. T (is_zero F (value A f x)) → value A f x ≡ 𝟘) ps ps
      zero_there [] = tt
      zero_there (x ∷ ps) = (told_yes (F.same? (value A f x) 𝟘), zero_there ps)

      go : Dec (length f ≤ passing (λ x. is_zero F (value A f x)) points) → passing (λ x. is_zero F (value A f x)) points < length f
      go (no l) = omega arith
      go (yes l) =
          let e = chosen_passing (λ x. is_zero F (value A f x)) points in
          absurd (n (roots F (chosen (λ x y. is_zero F (value A f x)) points points) f
          (chosen_different (λ x y. is_zero F (value A f x)) points points d)
          (omega arith)
          (chosen_each (λ x. value A f x ≡ 𝟘) (λ x y. is_zero F (value A f x)) points points (zero_there points))))

  agrees_where_same : (f g points : List K) → AllZip (λ x y. T (same_in F (value A f x) y) → value A f x ≡ value A g x) points (values A g points)
  agrees_where_same f g [] = tt
  agrees_where_same f g (x ∷ points) = (told_yes (F.same? (value A f x) (value A g x)), agrees_where_same f g points)

  values_as_long : (f points : List K) → length points ≡ length (values A f points)
  values_as_long f [] = refl
  values_as_long f (x ∷ points) = ap suc (values_as_long f points)

  -- The words of two different polynomials of k coefficients at m different points differ in more than m − k places.
  pub values_apart : (f g points : List K) → Different points → length f ≡ length g → f ≢ g → length points < distance_in F (values A f points) (values A g points) + length f
  values_apart f g points d s n = go (dec_le (distance_in F (values A f points) (values A g points) + length f) (length points))
    where
      go : Dec (distance_in F (values A f points) (values A g points) + length f ≤ length points) → length points < distance_in F (values A f points) (values A g points) + length f
      go (no l) = omega arith
      go (yes l) =
          let e = differing_agreeing f points (values A g points) (values_as_long g points) in
          absurd (n (polynomials_equal F (chosen (λ x y. same_in F (value A f x) y) points (values A g points)) f g
          (chosen_different (λ x y. same_in F (value A f x) y) points (values A g points) d)
          s
          (omega arith)
          (chosen_each (λ x. value A f x ≡ value A g x) (λ x y. same_in F (value A f x) y) points (values A g points) (agrees_where_same f g points))))
