-- Values of sums, multiples and products of polynomials, and the bound on their zeros. Assumes nothing.
use Rattle.std.proofs.Common.{◌≡◌, ℕ, zero, suc, ◌+◌, ◌<◌, ◌≤◌, ◌≢◌, List, [], ◌∷◌, ◌++◌, length, replicate, sym, refl, ap, ◌∙◌, arith, length-append}
use Rattle.std.specs.List.{AllByRecursion}
use Rattle.algebra.specs.FieldOn.{Ops, FieldOn}
use Rattle.algebra.specs.Vectors.{plus, times, opposite, minus, Zeros}
use Rattle.algebra.specs.Polynomials.{Different, value, values, convolve, monic, with_root, quotient}
use Rattle.algebra.proofs.Ring.{ring, ⊕-zero, zero-⊕, ⊙-zero, ⊙_comm, equal_from_difference, difference_zero, product_zero}
use Rattle.algebra.proofs.Vectors.{length_times, length_plus, length_minus, minus_zeros}
use Rattle.algebra.proofs.Everywhere.{all_both}

module _ {K : Type 0} (F : FieldOn K) where
  infixl 65 ◌⊕◌
  infixl 70 ◌⊙◌
  open F.ops use {zero as 𝟘, one as 𝟙, add as ◌⊕◌, mul as ◌⊙◌, neg as ⊖}

  abbrev A : Ops K
  A = F.ops

  pub value_zeros : (f : List K) (x : K) → Zeros A f → value A f x ≡ 𝟘
  value_zeros [] x z = refl
  value_zeros (c ∷ f) x (z, zs) = ap (λ w. w ⊕ x ⊙ value A f x) z ∙ zero-⊕ F _ ∙ ap (λ w. x ⊙ w) (value_zeros f x zs) ∙ ⊙-zero F x

  plus_step : (c d x a b : K) → c ⊕ d ⊕ x ⊙ (a ⊕ b) ≡ c ⊕ x ⊙ a ⊕ (d ⊕ x ⊙ b)
  plus_step c d x a b = simp ring

  pub value_plus : (f g : List K) (x : K) → value A (plus A f g) x ≡ value A f x ⊕ value A g x
  value_plus [] g x = sym (zero-⊕ F _)
  value_plus (c ∷ f) [] x = sym (⊕-zero F _)
  value_plus (c ∷ f) (d ∷ g) x = ap (λ w. c ⊕ d ⊕ x ⊙ w) (value_plus f g x) ∙ plus_step c d x _ _

  times_step : (a c x v : K) → a ⊙ c ⊕ x ⊙ (a ⊙ v) ≡ a ⊙ (c ⊕ x ⊙ v)
  times_step a c x v = simp ring

  pub value_times : (a : K) (f : List K) (x : K) → value A (times A a f) x ≡ a ⊙ value A f x
  value_times a [] x = sym (⊙-zero F a)
  value_times a (c ∷ f) x = ap (λ w. a ⊙ c ⊕ x ⊙ w) (value_times a f x) ∙ times_step a c x _

  opposite_step : (c x v : K) → ⊖ c ⊕ x ⊙ ⊖ v ≡ ⊖ (c ⊕ x ⊙ v)
  opposite_step c x v = simp ring

  opposite_none : 𝟘 ≡ ⊖ 𝟘
  opposite_none = simp ring

  pub value_opposite : (f : List K) (x : K) → value A (opposite A f) x ≡ ⊖ (value A f x)
  value_opposite [] x = opposite_none
  value_opposite (c ∷ f) x = ap (λ w. ⊖ c ⊕ x ⊙ w) (value_opposite f x) ∙ opposite_step c x _

  pub value_minus : (f g : List K) (x : K) → value A (minus A f g) x ≡ value A f x ⊕ ⊖ (value A g x)
  value_minus f g x = value_plus f (opposite A g) x ∙ ap (λ w. value A f x ⊕ w) (value_opposite g x)

  product_step : (c x v w : K) → c ⊙ w ⊕ (𝟘 ⊕ x ⊙ (v ⊙ w)) ≡ (c ⊕ x ⊙ v) ⊙ w
  product_step c x v w = simp ring

  pub value_product : (f g : List K) (x : K) → value A (convolve A f g) x ≡ value A f x ⊙ value A g x
  value_product [] g x = sym (⊙-zero F _) ∙ ⊙_comm F _ _
  value_product (c ∷ f) g x =
      value_plus (times A c g) (𝟘 ∷ convolve A f g) x
      ∙ ap (λ w. w ⊕ (𝟘 ⊕ x ⊙ value A (convolve A f g) x)) (value_times c g x)
      ∙ ap (λ w. c ⊙ value A g x ⊕ (𝟘 ⊕ x ⊙ w)) (value_product f g x)
      ∙ product_step c x (value A f x) (value A g x)

  -- n coefficients times m + 1 make n + m
  pub length_product : (f g : List K) → 0 < length f → 0 < length g → suc (length (convolve A f g)) ≡ length f + length g
  length_product [] g p q = absurd (omega arith)
  length_product (c ∷ []) g p q =
      let e = length_plus F (times A c g) (𝟘 ∷ []) in
      let h = length_times F c g in
      omega arith
  length_product (c ∷ (d ∷ f)) g p q =
      let e = length_plus F (times A c g) (𝟘 ∷ convolve A (d ∷ f) g) in
      let h = length_times F c g in
      let ih = length_product (d ∷ f) g (omega arith) q in
      omega arith

  root_end : (a d x : K) → ⊖ a ⊙ 𝟙 ⊕ d ⊕ x ⊙ (𝟙 ⊕ x ⊙ 𝟘) ≡ d ⊕ (x ⊕ ⊖ a) ⊙ (𝟙 ⊕ x ⊙ 𝟘)
  root_end a d x = simp ring

  root_step : (a c d x v : K) → ⊖ a ⊙ c ⊕ d ⊕ x ⊙ (c ⊕ (x ⊕ ⊖ a) ⊙ v) ≡ d ⊕ (x ⊕ ⊖ a) ⊙ (c ⊕ x ⊙ v)
  root_step a c d x v = simp ring

  shifted_root : (a d : K) (l : List K) (x : K) → value A (monic A (plus A (times A (⊖ a) (monic A l)) (d ∷ l))) x ≡ d ⊕ (x ⊕ ⊖ a) ⊙ value A (monic A l) x
  shifted_root a d [] x = root_end a d x
  shifted_root a d (c ∷ l) x = ap (λ w. ⊖ a ⊙ c ⊕ d ⊕ x ⊙ w) (shifted_root a c l x) ∙ root_step a c d x _

  -- one more root of a monic polynomial
  pub value_with_root : (a : K) (l : List K) (x : K) → value A (monic A (with_root A a l)) x ≡ (x ⊕ ⊖ a) ⊙ value A (monic A l) x
  value_with_root a l x = shifted_root a 𝟘 l x ∙ zero-⊕ F _

  pub length_with_root : (a : K) (l : List K) → length (with_root A a l) ≡ suc (length l)
  length_with_root a l =
      let e = length_plus F (times A (⊖ a) (monic A l)) (𝟘 ∷ l) in
      let h = length_times F (⊖ a) (monic A l) in
      let k = length-append l (𝟙 ∷ []) in
      omega arith

  pub length_quotient : (a : K) (f : List K) → length (quotient A a f) ≡ length f
  length_quotient a [] = refl
  length_quotient a (c ∷ f) = ap suc (length_quotient a f)

  quotient_end : (x a : K) → x ⊙ 𝟘 ≡ a ⊙ 𝟘 ⊕ (x ⊕ ⊖ a) ⊙ 𝟘
  quotient_end x a = simp ring

  quotient_step : (x a d v q : K) → x ⊙ (d ⊕ (a ⊙ v ⊕ (x ⊕ ⊖ a) ⊙ q)) ≡ a ⊙ (d ⊕ a ⊙ v) ⊕ (x ⊕ ⊖ a) ⊙ (d ⊕ a ⊙ v ⊕ x ⊙ q)
  quotient_step x a d v q = simp ring

  quotient_tail : (x a : K) (f : List K) → x ⊙ value A f x ≡ a ⊙ value A f a ⊕ (x ⊕ ⊖ a) ⊙ value A (quotient A a f) x
  quotient_tail x a [] = quotient_end x a
  quotient_tail x a (d ∷ f) = ap (λ w. x ⊙ (d ⊕ w)) (quotient_tail x a f) ∙ quotient_step x a d _ _

  sum_step : (c v w : K) → c ⊕ (v ⊕ w) ≡ c ⊕ v ⊕ w
  sum_step c v w = simp ring

  -- division by x − a leaves the value at a
  pub division : (x a c : K) (f : List K) → value A (c ∷ f) x ≡ value A (c ∷ f) a ⊕ (x ⊕ ⊖ a) ⊙ value A (quotient A a f) x
  division x a c f = ap (λ w. c ⊕ w) (quotient_tail x a f) ∙ sum_step c _ _

  zeros_quotient : (a : K) (f : List K) → Zeros A (quotient A a f) → Zeros A f
  zeros_quotient a [] z = tt
  zeros_quotient a (d ∷ f) (z, zs) =
      let rest = zeros_quotient a f zs in
      (sym (⊕-zero F d) ∙ ap (λ w. d ⊕ w) (sym (⊙-zero F a) ∙ ap (λ w. a ⊙ w) (sym (value_zeros f a rest))) ∙ z, rest)

  -- a root of c + x·f that is not a is a root of the quotient
  root_of_quotient : (a c : K) (f : List K) → value A (c ∷ f) a ≡ 𝟘 → (x : K) → a ≢ x → value A (c ∷ f) x ≡ 𝟘 → value A (quotient A a f) x ≡ 𝟘
  root_of_quotient a c f h x n e =
      product_zero F (λ d. n (sym (equal_from_difference F d)))
      (sym (zero-⊕ F _) ∙ ap (λ w. w ⊕ (x ⊕ ⊖ a) ⊙ value A (quotient A a f) x) (sym h) ∙ sym (division x a c f) ∙ e)

  -- A polynomial with at most as many coefficients as it has different zeros is zero.
  pub roots : (points f : List K) → Different points → length f ≤ length points → AllByRecursion (λ x. value A f x ≡ 𝟘) points → Zeros A f
  roots [] [] d l z = tt
  roots [] (c ∷ f) d l z = absurd (omega arith)
  roots (a ∷ points) [] d l z = tt
  roots (a ∷ points) (c ∷ f) (n, d) l (z, zs) =
      let q = length_quotient a f in
      let rest = zeros_quotient a f (roots points (quotient A a f) d (omega arith)
      (all_both (λ x. a ≢ x) (λ x. value A (c ∷ f) x ≡ 𝟘) (λ x. value A (quotient A a f) x ≡ 𝟘) (root_of_quotient a c f z) points n zs)) in
      (sym (⊕-zero F c) ∙ ap (λ w. c ⊕ w) (sym (⊙-zero F a) ∙ ap (λ w. a ⊙ w) (sym (value_zeros f a rest))) ∙ z, rest)

  agree_minus : (f g points : List K) → AllByRecursion (λ x. value A f x ≡ value A g x) points → AllByRecursion (λ x. value A (minus A f g) x ≡ 𝟘) points
  agree_minus f g [] h = tt
  agree_minus f g (x ∷ points) (h, hs) = (value_minus f g x ∙ difference_zero F h, agree_minus f g points hs)

  -- Two polynomials of n coefficients that agree at n different points are equal.
  pub polynomials_equal : (points f g : List K) → Different points → length f ≡ length g → length f ≤ length points → AllByRecursion (λ x. value A f x ≡ value A g x) points → f ≡ g
  polynomials_equal points f g d e l h =
      let k = length_minus F f g in
      minus_zeros F f g e (roots points (minus A f g) d (omega arith) (agree_minus f g points h))

  pub length_values : (f points : List K) → length (values A f points) ≡ length points
  length_values f [] = refl
  length_values f (x ∷ points) = ap suc (length_values f points)

  -- n zeros
  pub zeros_replicate : (n : ℕ) → Zeros A (replicate n 𝟘)
  zeros_replicate zero = tt
  zeros_replicate (suc n) = (refl, zeros_replicate n)

  -- the values of a sum, a multiple and a difference, as words
  pub values_plus : (f g points : List K) → values A (plus A f g) points ≡ plus A (values A f points) (values A g points)
  values_plus f g [] = refl
  values_plus f g (x ∷ points) = λ i. value_plus f g x i ∷ values_plus f g points i

  pub values_times : (c : K) (f points : List K) → values A (times A c f) points ≡ times A c (values A f points)
  values_times c f [] = refl
  values_times c f (x ∷ points) = λ i. value_times c f x i ∷ values_times c f points i

  pub values_minus : (f g points : List K) → values A (minus A f g) points ≡ minus A (values A f points) (values A g points)
  values_minus f g [] = refl
  values_minus f g (x ∷ points) = λ i. value_minus f g x i ∷ values_minus f g points i

  -- zeros above the leading coefficient change no value
  pub value_padded : (f z : List K) (x : K) → Zeros A z → value A (f ++ z) x ≡ value A f x
  value_padded [] z x h = value_zeros z x h
  value_padded (c ∷ f) z x h = ap (λ w. c ⊕ x ⊙ w) (value_padded f z x h)

  pub values_padded : (f z points : List K) → Zeros A z → values A (f ++ z) points ≡ values A f points
  values_padded f z [] h = refl
  values_padded f z (x ∷ points) h = λ i. value_padded f z x h i ∷ values_padded f z points h i
