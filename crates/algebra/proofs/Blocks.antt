-- How many places of all blocks are not 0, for words combined by a matrix that is non-singular by columns. Assumes nothing.
use Rattle.std.proofs.Common.{◌≡◌, ℕ, zero, suc, ◌+◌, ◌-◌, ◌*◌, ◌<◌, ◌≤◌, Bool, true, false, not, T, ◌≢◌, List, [], ◌∷◌, ◌++◌, map, length, get_or, sym, refl, ap, ◌∙◌, subst, suc-mul, zero-mul, arith, length-append}
use lib.ListN.{length-map}
use Rattle.std.specs.List.{AllByRecursion}
use Rattle.std.proofs.lemmas.List.{map-append}
use Rattle.algebra.specs.FieldOn.{Ops, FieldOn}
use Rattle.algebra.specs.Vectors.{dot, combination, Zeros}
use Rattle.algebra.specs.Polynomials.{Different}
use Rattle.field.specs.Places.{unless}
use Rattle.algebra.specs.Distance.{given, passing, is_zero, weight}
use Rattle.algebra.specs.Matrices.{Nonsingular}
use Rattle.algebra.proofs.Vectors.{dot_comm, dot_zeros, getD_combination, length_combination}
use Rattle.algebra.proofs.Distance.{told_no, told_false, passing_failing, passing_not}
use Rattle.algebra.proofs.Matrices.{few_zero_columns}

given_step : (b : Bool) (n p s t : ℕ) → t ≡ p + s → given b n + t ≡ given b p + (n + s)
given_step true n p s t e = omega arith
given_step false n p s t e = omega arith

product_step : (b : Bool) (n c f s : ℕ) → (T b → c ≤ f) → n * c ≤ s → given b n * c ≤ f + s
product_step true n c f s h l = let e = suc-mul n c in let k = h tt in omega arith
product_step false n c f s h l = omega arith

unless_given : (b : Bool) (n m : ℕ) → n ≡ m → unless b n ≡ given (not b) m
unless_given true n m e = e
unless_given false n m e = ap suc e

module _ {X : Type 0} where
  abbrev pub sum_of : (X → ℕ) → List X → ℕ
  sum_of f [] = 0
  sum_of f (x ∷ xs) = f x + sum_of f xs

  pub sum_of_same : (f g : X → ℕ) → ((x : X) → f x ≡ g x) → (xs : List X) → sum_of f xs ≡ sum_of g xs
  sum_of_same f g h [] = refl
  sum_of_same f g h (x ∷ xs) = let a = h x in let ih = sum_of_same f g h xs in omega arith

  sum_of_zero : (xs : List X) → sum_of (λ x. 0) xs ≡ 0
  sum_of_zero [] = refl
  sum_of_zero (x ∷ xs) = let ih = sum_of_zero xs in omega arith

  sum_of_given : (q : X → Bool) (f : X → ℕ) (xs : List X) → sum_of (λ x. given (q x) (f x)) xs ≡ passing q xs + sum_of f xs
  sum_of_given q f [] = refl
  sum_of_given q f (x ∷ xs) = given_step (q x) (f x) (passing q xs) (sum_of f xs) _ (sum_of_given q f xs)

  -- where the test passes the number is at least c
  pub passing_product : (q : X → Bool) (f : X → ℕ) (c : ℕ) → ((x : X) → T (q x) → c ≤ f x) → (xs : List X) → passing q xs * c ≤ sum_of f xs
  passing_product q f c h [] = let e = zero-mul c in omega arith
  passing_product q f c h (x ∷ xs) = product_step (q x) (passing q xs) c (f x) (sum_of f xs) (h x) (passing_product q f c h xs)

-- counted by rows or by columns
pub counted_twice : {X Y : Type 0} (p : X → Y → Bool) (xs : List X) (ys : List Y) → sum_of (λ x. passing (p x) ys) xs ≡ sum_of (λ y. passing (λ x. p x y) xs) ys
counted_twice p [] ys = sym (sum_of_zero ys)
counted_twice p (x ∷ xs) ys = ap (λ n. passing (p x) ys + n) (counted_twice p xs ys) ∙ sym (sum_of_given (p x) (λ y. passing (λ z. p z y) xs) ys)

-- the n numbers from a on
abbrev pub range : ℕ → ℕ → List ℕ
range a zero = []
range a (suc n) = a ∷ range (suc a) n

passing_shift : (p : ℕ → Bool) (a n : ℕ) → passing p (range (suc a) n) ≡ passing (λ i. p (suc i)) (range a n)
passing_shift p a zero = refl
passing_shift p a (suc n) = ap (given (p (suc a))) (passing_shift p (suc a) n)

module _ {K : Type 0} (F : FieldOn K) where
  infixl 65 ◌⊕◌
  infixl 70 ◌⊙◌
  open F.ops use {zero as 𝟘, add as ◌⊕◌, mul as ◌⊙◌}

  abbrev A : Ops K
  A = F.ops

  none_there : (n a : ℕ) → passing (λ i. not (is_zero F 𝟘)) (range a n) ≡ 0
  none_there zero a = refl
  none_there (suc n) a = ap (λ b. given b (passing (λ i. not (is_zero F 𝟘)) (range (suc a) n))) (told_false (F.same? 𝟘 𝟘) refl) ∙ none_there n (suc a)

  -- the weight, counted by places
  pub weight_places : (xs : List K) (n : ℕ) → length xs ≤ n → weight F xs ≡ passing (λ i. not (is_zero F (get_or xs i 𝟘))) (range 0 n)
  weight_places [] n l = sym (none_there n 0)
  weight_places (x ∷ xs) zero l = absurd (omega arith)
  weight_places (x ∷ xs) (suc n) l =
      unless_given (is_zero F x) _ _ (weight_places xs n (omega arith) ∙ sym (passing_shift (λ i. not (is_zero F (get_or (x ∷ xs) i 𝟘))) 0 n))

  -- zeros at the end of the coefficients say nothing
  dot_until : (cs : List K) (c : K) (zs q : List K) → Zeros A zs → dot A (cs ++ (c ∷ zs)) q ≡ dot A (cs ++ (c ∷ [])) q
  dot_until [] c zs [] z = refl
  dot_until [] c zs (a ∷ q) z = ap (λ w. c ⊙ a ⊕ w) (dot_zeros F zs q z)
  dot_until (d ∷ cs) c zs [] z = refl
  dot_until (d ∷ cs) c zs (a ∷ q) z = ap (λ w. d ⊙ a ⊕ w) (dot_until cs c zs q z)

  zeros_at : (v : List K) (i : ℕ) → Zeros A v → get_or v i 𝟘 ≡ 𝟘
  zeros_at [] i z = refl
  zeros_at (x ∷ v) zero (z, zs) = z
  zeros_at (x ∷ v) (suc i) (z, zs) = zeros_at v i zs

  zero_words_at : (zs : List (List K)) (i : ℕ) → AllByRecursion (Zeros A) zs → Zeros A (map (λ v. get_or v i 𝟘) zs)
  zero_words_at [] i z = tt
  zero_words_at (v ∷ zs) i (z, ys) = (zeros_at v i z, zero_words_at zs i ys)

  last_not_zero : (cs : List K) (c : K) → c ≢ 𝟘 → Zeros A (cs ++ (c ∷ [])) → ⊥
  last_not_zero [] c n (z, zs) = n z
  last_not_zero (d ∷ cs) c n (z, zs) = last_not_zero cs c n zs

  module _ {I : Type 0} (s : ℕ) (column : I → List K) (In : I → Type 0) (good : Nonsingular A s column In) (js : List I) (d : Different js) (ins : AllByRecursion In js) where
    -- one place of the block of column j, if the words from the last but zs on are zero
    block_place : (us : List (List K)) (w : List K) (zs : List (List K)) → AllByRecursion (Zeros A) zs → (i : ℕ) (j : I) → get_or (combination A (column j) (us ++ (w ∷ zs))) i 𝟘 ≡ dot A (map (λ v. get_or v i 𝟘) us ++ (get_or w i 𝟘 ∷ [])) (column j)
    block_place us w zs z i j =
        getD_combination F (column j) (us ++ (w ∷ zs)) i
        ∙ dot_comm F (column j) (map (λ v. get_or v i 𝟘) (us ++ (w ∷ zs)))
        ∙ ap (λ r. dot A r (column j)) (map-append (λ v. get_or v i 𝟘) us (w ∷ zs))
        ∙ dot_until (map (λ v. get_or v i 𝟘) us) (get_or w i 𝟘) (map (λ v. get_or v i 𝟘) zs) (column j) (zero_words_at zs i z)

    -- at a place where w is not 0, few blocks are 0
    place_count : (us : List (List K)) (w : List K) (zs : List (List K)) → length us < s → AllByRecursion (Zeros A) zs → (i : ℕ) → T (not (is_zero F (get_or w i 𝟘))) → length js - length us ≤ passing (λ j. not (is_zero F (get_or (combination A (column j) (us ++ (w ∷ zs))) i 𝟘))) js
    place_count us w zs l z i t =
        let cs = map (λ v. get_or v i 𝟘) us ++ (get_or w i 𝟘 ∷ []) in
        let a = length-append (map (λ v. get_or v i 𝟘) us) (get_or w i 𝟘 ∷ []) in
        let b = length-map us (λ v. get_or v i 𝟘) in
        let few = few_zero_columns F s column In good js cs (omega arith) d ins (last_not_zero (map (λ v. get_or v i 𝟘) us) (get_or w i 𝟘) (told_no (F.same? (get_or w i 𝟘) 𝟘) t)) in
        let all = passing_failing (λ j. is_zero F (dot A cs (column j))) js in
        let other = passing_not (λ j. is_zero F (dot A cs (column j))) js in
        let same : passing (λ j. not (is_zero F (get_or (combination A (column j) (us ++ (w ∷ zs))) i 𝟘))) js ≡ passing (λ j. not (is_zero F (dot A cs (column j)))) js
        = ap (λ (f : I → K). passing (λ j. not (is_zero F (f j))) js) (λ k j. block_place us w zs z i j k) in
        omega arith

    -- Words us, w and then zero words, combined by the columns: at each place where w is not 0 at most r − 1 of l blocks are 0, with r the place of w.
    pub blocks_weight : (n : ℕ) (us : List (List K)) (w : List K) (zs : List (List K)) → length us < s → AllByRecursion (Zeros A) zs → AllByRecursion (λ v. length v ≤ n) (us ++ (w ∷ zs)) → length w ≤ n → weight F w * (length js - length us) ≤ sum_of (λ j. weight F (combination A (column j) (us ++ (w ∷ zs)))) js
    blocks_weight n us w zs l z fits fit =
        let left = weight_places w n fit in
        let swap = counted_twice (λ j i. not (is_zero F (get_or (combination A (column j) (us ++ (w ∷ zs))) i 𝟘))) js (range 0 n) in
        let right = sum_of_same (λ j. weight F (combination A (column j) (us ++ (w ∷ zs)))) (λ j. passing (λ i. not (is_zero F (get_or (combination A (column j) (us ++ (w ∷ zs))) i 𝟘))) (range 0 n))
        (λ j. weight_places (combination A (column j) (us ++ (w ∷ zs))) n (length_combination F n (column j) (us ++ (w ∷ zs)) fits)) js in
        let main = passing_product (λ i. not (is_zero F (get_or w i 𝟘))) (λ i. passing (λ j. not (is_zero F (get_or (combination A (column j) (us ++ (w ∷ zs))) i 𝟘))) js) (length js - length us)
        (λ i t. place_count us w zs l z i t) (range 0 n) in
        subst (λ m. weight F w * (length js - length us) ≤ m) (sym (right ∙ swap)) (subst (λ m. m * (length js - length us) ≤ sum_of (λ i. passing (λ j. not (is_zero F (get_or (combination A (column j) (us ++ (w ∷ zs))) i 𝟘))) js) (range 0 n)) (sym left) main)
