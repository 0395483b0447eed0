-- A word with at most t errors: a locator exists, and any solution of its equations leads to the one polynomial. Assumes nothing.
use Rattle.std.proofs.Common.{◌≡◌, ℕ, zero, suc, ◌+◌, ◌-◌, ◌≤◌, not, T, List, [], ◌∷◌, length, replicate, sym, refl, ap, ◌∙◌, subst, arith, length-append}
use lib.ListN.{length-replicate}
use Rattle.std.specs.List.{AllZip}
use Rattle.std.proofs.lemmas.List.Elements.{length_all_zip}
use Rattle.algebra.specs.FieldOn.{Ops, FieldOn}
use Rattle.algebra.specs.Vectors.{plus, Zeros}
use Rattle.algebra.specs.Polynomials.{Different, value, values, convolve, monic, with_root}
use Rattle.field.specs.Places.{unless}
use Rattle.algebra.specs.Distance.{told, same_in, is_zero, distance_in}
use Rattle.algebra.specs.Correction.{Located, Agrees}
use Rattle.algebra.proofs.Ring.{ring, ⊕-zero, ⊕-neg, zero-⊙, ⊙_comm, ⊙_cancel}
use Rattle.algebra.proofs.Vectors.{length_plus}
use Rattle.algebra.proofs.Polynomials.{value_plus, value_zeros, value_product, length_product, value_with_root, length_with_root, zeros_replicate, polynomials_equal}
use Rattle.algebra.proofs.Distance.{told_yes, told_no, passing_failing, passing_not}
use Rattle.algebra.proofs.Everywhere.{each_map, each_both, each_of_first, each_self}
use Rattle.algebra.proofs.Evaluation.{chosen, chosen_different, chosen_each, chosen_passing, differing_agreeing, few_zeros}

module _ {K : Type 0} (F : FieldOn K) where
  infixl 65 ◌⊕◌
  infixl 70 ◌⊙◌
  open F.ops use {zero as 𝟘, one as 𝟙, add as ◌⊕◌, mul as ◌⊙◌, neg as ⊖}

  abbrev A : Ops K
  A = F.ops

  -- a monic polynomial is not zero
  pub monic_not_zero : (l : List K) → Zeros A (monic A l) → ⊥
  monic_not_zero [] (z, zs) = F.one_not_zero z
  monic_not_zero (c ∷ l) (z, zs) = monic_not_zero l zs

  pub length_monic : (l : List K) → length (monic A l) ≡ suc (length l)
  length_monic l = let e = length-append l (𝟙 ∷ []) in omega arith

  times_both : (r e u v : K) → e ⊙ u ≡ e ⊙ v → r ⊙ e ⊙ u ≡ r ⊙ e ⊙ v
  times_both r e u v h = (simp ring) ∙ ap (λ z. r ⊙ z) h ∙ (simp ring)

  -- one more factor keeps the agreement
  agrees_more : (a : K) (points ys l f : List K) → Agrees A points ys l f → Agrees A points ys (with_root A a l) f
  agrees_more a points ys l f =
      each_map
      (λ x y. value A (monic A l) x ⊙ value A f x ≡ value A (monic A l) x ⊙ y)
      (λ x y. value A (monic A (with_root A a l)) x ⊙ value A f x ≡ value A (monic A (with_root A a l)) x ⊙ y)
      (λ x y h.
      ap (λ z. z ⊙ value A f x) (value_with_root F a l x)
      ∙ times_both (x ⊕ ⊖ a) (value A (monic A l) x) (value A f x) y h
      ∙ ap (λ z. z ⊙ y) (sym (value_with_root F a l x)))
      points ys

  root_here : (a : K) (l : List K) → value A (monic A (with_root A a l)) a ≡ 𝟘
  root_here a l = value_with_root F a l a ∙ ap (λ z. z ⊙ value A (monic A l) a) (⊕-neg F a) ∙ zero-⊙ F _

  -- a locator of degree n
  pub record Locator (f points ys : List K) (n : ℕ) : Type 0 where
    pub lower : List K
    pub degree : length lower ≡ n
    pub agrees : Agrees A points ys lower f

  locator_next : (f : List K) (x y : K) (points ys : List K) (d : Dec (value A f x ≡ y)) → Locator f points ys (distance_in F (values A f points) ys) → Locator f (x ∷ points) (y ∷ ys) (unless (told d) (distance_in F (values A f points) ys))
  locator_next f x y points ys (yes e) L = record {
    lower = L.lower;
    degree = L.degree;
    agrees = (ap (λ z. value A (monic A L.lower) x ⊙ z) e, L.agrees);
  }
  locator_next f x y points ys (no n) L = record {
    lower = with_root A x L.lower;
    degree = length_with_root F x L.lower ∙ ap suc L.degree;
    agrees = (
      ap (λ z. z ⊙ value A f x) (root_here x L.lower) ∙ zero-⊙ F _ ∙ sym (zero-⊙ F y) ∙ ap (λ z. z ⊙ y) (sym (root_here x L.lower)),
      agrees_more x points ys L.lower f L.agrees,
    );
  }

  -- the product of x − a over the points a where the word is spoilt
  locator_exact : (f points ys : List K) → length points ≡ length ys → Locator f points ys (distance_in F (values A f points) ys)
  locator_exact f [] [] e = record { lower = []; degree = refl; agrees = tt }
  locator_exact f [] (y ∷ ys) e = absurd (omega arith)
  locator_exact f (x ∷ points) [] e = absurd (omega arith)
  locator_exact f (x ∷ points) (y ∷ ys) e = locator_next f x y points ys (F.same? (value A f x) y) (locator_exact f points ys (omega arith))

  -- filled up by powers of x
  locator_more : (f points ys : List K) (n m : ℕ) → Locator f points ys n → Locator f points ys (n + m)
  locator_more f points ys n zero L = record { lower = L.lower; degree = let e = L.degree in omega arith; agrees = L.agrees }
  locator_more f points ys n (suc m) L =
      let M = locator_more f points ys n m L in
      record {
        lower = with_root A 𝟘 M.lower;
        degree = let e = M.degree in let h = length_with_root F 𝟘 M.lower in omega arith;
        agrees = agrees_more 𝟘 points ys M.lower f M.agrees;
      }

  pub locator : (f points ys : List K) (t : ℕ) → length points ≡ length ys → distance_in F (values A f points) ys ≤ t → Locator f points ys t
  locator f points ys t e h =
      subst (Locator f points ys) (omega arith)
      (locator_more f points ys (distance_in F (values A f points) ys) (t - distance_in F (values A f points) ys) (locator_exact f points ys e))

  -- the product of f and the monic polynomial, filled up with zeros to n coefficients
  abbrev pub filled : ℕ → List K → List K → List K
  filled n f l = plus A (convolve A f (monic A l)) (replicate n 𝟘)

  pub value_filled : (n : ℕ) (f l : List K) (x : K) → value A (filled n f l) x ≡ value A f x ⊙ value A (monic A l) x
  value_filled n f l x =
      value_plus F (convolve A f (monic A l)) (replicate n 𝟘) x
      ∙ ap (λ z. value A (convolve A f (monic A l)) x ⊕ z) (value_zeros F (replicate n 𝟘) x (zeros_replicate F n))
      ∙ ⊕-zero F _
      ∙ value_product F f (monic A l) x

  product_fits : (f l : List K) → length (convolve A f (monic A l)) ≤ length f + length l
  product_fits [] l = omega arith
  product_fits (c ∷ f) l =
      let e = length_monic l in
      let h = length_product F (c ∷ f) (monic A l) (omega arith) (omega arith) in
      omega arith

  pub length_filled : (n : ℕ) (f l : List K) → n ≡ length f + length l → length (filled n f l) ≡ n
  length_filled n f l e =
      let a = length_plus F (convolve A f (monic A l)) (replicate n 𝟘) in
      let b = length-replicate n 𝟘 in
      let c = product_fits f l in
      omega arith

  -- A word with at most t errors has a locator E of degree t and N = g·E with k + t coefficients.
  pub located : (g points ys : List K) (t : ℕ) → length points ≡ length ys → distance_in F (values A g points) ys ≤ t → (l N : List K) × (length l ≡ t) × (length N ≡ length g + t) × Located A points ys l N
  located g points ys t e h =
      let L = locator g points ys t e h in
      let d = L.degree in (
        L.lower,
        filled (length g + t) g L.lower,
        d,
        length_filled (length g + t) g L.lower (omega arith),
        each_map
            (λ x y. value A (monic A L.lower) x ⊙ value A g x ≡ value A (monic A L.lower) x ⊙ y)
            (λ x y. y ⊙ value A (monic A L.lower) x ≡ value A (filled (length g + t) g L.lower) x)
            (λ x y k. ⊙_comm F y _ ∙ sym k ∙ ⊙_comm F _ _ ∙ sym (value_filled (length g + t) g L.lower x))
            points ys L.agrees,
      )

  -- any solution has N = g·E
  pub numerator : (g points ys l N : List K) (t : ℕ) → Different points → length l ≡ t → length N ≡ length g + t → length g + (t + t) ≤ length points → distance_in F (values A g points) ys ≤ t → Located A points ys l N → N ≡ filled (length g + t) g l
  numerator g points ys l N t d el eN room near loc =
      let same = length_all_zip (λ x y. y ⊙ value A (monic A l) x ≡ value A N x) points ys loc in
      let c = differing_agreeing F g points ys same in
      let fl = length_filled (length g + t) g l (omega arith) in
      polynomials_equal F (chosen (λ x y. same_in F (value A g x) y) points ys) N (filled (length g + t) g l)
      (chosen_different (λ x y. same_in F (value A g x) y) points ys d)
      (omega arith)
      (omega arith)
      (chosen_each (λ x. value A N x ≡ value A (filled (length g + t) g l) x) (λ x y. same_in F (value A g x) y) points ys
      (each_map
      (λ x y. y ⊙ value A (monic A l) x ≡ value A N x)
      (λ x y. T (same_in F (value A g x) y) → value A N x ≡ value A (filled (length g + t) g l) x)
      (λ x y k s. sym k ∙ ap (λ z. z ⊙ value A (monic A l) x) (sym (told_yes (F.same? (value A g x) y) s)) ∙ sym (value_filled (length g + t) g l x))
      points ys loc))

  -- so g agrees with the received word wherever E is not 0
  pub located_agrees : (g points ys l N : List K) (t : ℕ) → Different points → length l ≡ t → length N ≡ length g + t → length g + (t + t) ≤ length points → distance_in F (values A g points) ys ≤ t → Located A points ys l N → Agrees A points ys l g
  located_agrees g points ys l N t d el eN room near loc =
      let n = numerator g points ys l N t d el eN room near loc in
      each_map
      (λ x y. y ⊙ value A (monic A l) x ≡ value A N x)
      (λ x y. value A (monic A l) x ⊙ value A g x ≡ value A (monic A l) x ⊙ y)
      (λ x y k. ⊙_comm F _ _ ∙ sym (value_filled (length g + t) g l x) ∙ ap (λ z. value A z x) (sym n) ∙ sym k ∙ ⊙_comm F y _)
      points ys loc

  agree_off_zeros : (f g points ys l : List K) → Agrees A points ys l f → Agrees A points ys l g → AllZip (λ x y. T (not (is_zero F (value A (monic A l) x))) → value A f x ≡ value A g x) points points
  agree_off_zeros f g points ys l a b =
      each_self (λ x y. T (not (is_zero F (value A (monic A l) x))) → value A f x ≡ value A g x) points
      (each_of_first (λ x. T (not (is_zero F (value A (monic A l) x))) → value A f x ≡ value A g x)
      (λ x y. T (not (is_zero F (value A (monic A l) x))) → value A f x ≡ value A g x)
      points ys
      (each_both
      (λ x y. value A (monic A l) x ⊙ value A f x ≡ value A (monic A l) x ⊙ y)
      (λ x y. value A (monic A l) x ⊙ value A g x ≡ value A (monic A l) x ⊙ y)
      (λ x y. T (not (is_zero F (value A (monic A l) x))) → value A f x ≡ value A g x)
      (λ x y p q s. ⊙_cancel F (told_no (F.same? (value A (monic A l) x) 𝟘) s) (p ∙ sym q))
      points ys a b)
      (λ x y h. h))

  -- two polynomials of k coefficients that both agree are equal, if E has degree t and k + t ≤ m
  pub agreeing_only : (f g points ys l : List K) → Different points → length f ≡ length g → length g + length l ≤ length points → Agrees A points ys l f → Agrees A points ys l g → f ≡ g
  agreeing_only f g points ys l d e room a b =
      let z = few_zeros F (monic A l) points d (monic_not_zero l) in
      let m = length_monic l in
      let s = passing_failing (λ x. is_zero F (value A (monic A l) x)) points in
      let p = passing_not (λ x. is_zero F (value A (monic A l) x)) points in
      let c = chosen_passing (λ x. not (is_zero F (value A (monic A l) x))) points in
      polynomials_equal F (chosen (λ x y. not (is_zero F (value A (monic A l) x))) points points) f g
      (chosen_different (λ x y. not (is_zero F (value A (monic A l) x))) points points d)
      e
      (omega arith)
      (chosen_each (λ x. value A f x ≡ value A g x) (λ x y. not (is_zero F (value A (monic A l) x))) points points (agree_off_zeros f g points ys l a b))

  -- Any solution E, N and any f that agrees with the word where E is not 0: f is g, if the word of g has at most t errors.
  pub corrected : (f g points ys l N : List K) (t : ℕ) → Different points → length f ≡ length g → length l ≡ t → length N ≡ length g + t → length g + (t + t) ≤ length points → distance_in F (values A g points) ys ≤ t → Located A points ys l N → Agrees A points ys l f → f ≡ g
  corrected f g points ys l N t d e el eN room near loc a =
      agreeing_only f g points ys l d e (omega arith) a (located_agrees g points ys l N t d el eN room near loc)
