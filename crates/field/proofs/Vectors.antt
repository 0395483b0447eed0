-- Sums and multiples of words. Assumes nothing.
use Rattle.std.proofs.Common.{◌≡◌, ℕ, zero, suc, ◌<◌, ◌≤◌, T, eqb, ltb, List, [], ◌∷◌, ◌++◌, length, take, replicate, sym, refl, ap, ◌∙◌, subst, ap₂, arith, eqb→eq, ltb→lt, lt→ltb}
use native.Mathlib.Decide.{ℕ_discrete}
use lib.Dec.{eqb_refl}
use Rattle.field.specs.Meaning.{Meaning, IsField}
use Rattle.field.specs.Places.{unless, distance}
use Rattle.field.specs.Words.{symbols, added, scaled, total}
use Rattle.field.proofs.Accepted.{both_hold}
use Rattle.field.proofs.Tests.{both_left, both_right, true_is, is_false}
use Rattle.field.proofs.Metric.{eqb_tells, distance_zero}
use Rattle.field.proofs.Laws.{cancel, zero_sum, zero_product, product_zero, exchange}
use Rattle.field.proofs.Unique.{zero_small}
use Rattle.field.proofs.WordLaws.{total_closed}

pub length_added : (F : Meaning) (xs ys : List ℕ) → length (added F xs ys) ≡ length xs
length_added F [] ys = refl
length_added F (x ∷ xs) [] = refl
length_added F (x ∷ xs) (y ∷ ys) = ap suc (length_added F xs ys)

pub length_scaled : (F : Meaning) (a : ℕ) (xs : List ℕ) → length (scaled F a xs) ≡ length xs
length_scaled F a [] = refl
length_scaled F a (x ∷ xs) = ap suc (length_scaled F a xs)

pub symbols_replicate : (q n x : ℕ) → x < q → T (symbols q (replicate n x))
symbols_replicate q zero x h = tt
symbols_replicate q (suc n) x h = both_hold _ _ (lt→ltb x q h) (symbols_replicate q n x h)

pub symbols_append : (q : ℕ) (xs ys : List ℕ) → T (symbols q xs) → T (symbols q ys) → T (symbols q (xs ++ ys))
symbols_append q [] ys s t = t
symbols_append q (x ∷ xs) ys s t = both_hold _ _ (both_left (ltb x q) (symbols q xs) s) (symbols_append q xs ys (both_right (ltb x q) (symbols q xs) s) t)

pub added_append : (F : Meaning) (xs ys us vs : List ℕ) → length xs ≡ length ys → added F (xs ++ us) (ys ++ vs) ≡ added F xs ys ++ added F us vs
added_append F [] [] us vs e = refl
added_append F [] (y ∷ ys) us vs e = absurd (omega arith)
added_append F (x ∷ xs) [] us vs e = absurd (omega arith)
added_append F (x ∷ xs) (y ∷ ys) us vs e = ap (λ l. F.sum x y ∷ l) (added_append F xs ys us vs (omega arith))

pub scaled_append : (F : Meaning) (a : ℕ) (xs us : List ℕ) → scaled F a (xs ++ us) ≡ scaled F a xs ++ scaled F a us
scaled_append F a [] us = refl
scaled_append F a (x ∷ xs) us = ap (λ l. F.product a x ∷ l) (scaled_append F a xs us)

pub added_replicate : (F : Meaning) (n a b : ℕ) → added F (replicate n a) (replicate n b) ≡ replicate n (F.sum a b)
added_replicate F zero a b = refl
added_replicate F (suc n) a b = ap (λ l. F.sum a b ∷ l) (added_replicate F n a b)

pub scaled_replicate : (F : Meaning) (n a b : ℕ) → scaled F a (replicate n b) ≡ replicate n (F.product a b)
scaled_replicate F zero a b = refl
scaled_replicate F (suc n) a b = ap (λ l. F.product a b ∷ l) (scaled_replicate F n a b)

pub symbols_take : (q n : ℕ) (xs : List ℕ) → T (symbols q xs) → T (symbols q (take n xs))
symbols_take q zero xs t = tt
symbols_take q (suc n) [] t = tt
symbols_take q (suc n) (x ∷ xs) t = both_hold _ _ (both_left (ltb x q) (symbols q xs) t) (symbols_take q n xs (both_right (ltb x q) (symbols q xs) t))

module _ {F : Meaning} (lawful : IsField F) where
  first_small : (x : ℕ) (xs : List ℕ) → T (symbols F.q (x ∷ xs)) → x < F.q
  first_small x xs t = ltb→lt x F.q (both_left (ltb x F.q) (symbols F.q xs) t)

  rest_small : (x : ℕ) (xs : List ℕ) → T (symbols F.q (x ∷ xs)) → T (symbols F.q xs)
  rest_small x xs t = both_right (ltb x F.q) (symbols F.q xs) t

  pub added_closed : (xs ys : List ℕ) → T (symbols F.q xs) → T (symbols F.q ys) → T (symbols F.q (added F xs ys))
  added_closed [] ys s t = tt
  added_closed (x ∷ xs) [] s t = s
  added_closed (x ∷ xs) (y ∷ ys) s t =
      both_hold _ _ (lt→ltb _ _ (lawful.sum_closed x y (first_small x xs s) (first_small y ys t))) (added_closed xs ys (rest_small x xs s) (rest_small y ys t))

  pub scaled_closed : (a : ℕ) → a < F.q → (xs : List ℕ) → T (symbols F.q xs) → T (symbols F.q (scaled F a xs))
  scaled_closed a h [] t = tt
  scaled_closed a h (x ∷ xs) t = both_hold _ _ (lt→ltb _ _ (lawful.product_closed a x h (first_small x xs t))) (scaled_closed a h xs (rest_small x xs t))

  pub scaled_zero : (xs : List ℕ) → T (symbols F.q xs) → scaled F 0 xs ≡ replicate (length xs) 0
  scaled_zero [] t = refl
  scaled_zero (x ∷ xs) t = ap₂ ◌∷◌ (zero_product lawful x (first_small x xs t)) (scaled_zero xs (rest_small x xs t))

  -- the total of a sum and of a multiple
  pub total_added : (xs ys : List ℕ) → length xs ≡ length ys → T (symbols F.q xs) → T (symbols F.q ys) → total F (added F xs ys) ≡ F.sum (total F xs) (total F ys)
  total_added [] [] e s t = sym (lawful.sum_zero 0 (zero_small lawful))
  total_added [] (y ∷ ys) e s t = absurd (omega arith)
  total_added (x ∷ xs) [] e s t = absurd (omega arith)
  total_added (x ∷ xs) (y ∷ ys) e s t =
      let sx = rest_small x xs s in
      let ty = rest_small y ys t in
      ap (F.sum (F.sum x y)) (total_added xs ys (omega arith) sx ty)
      ∙ exchange lawful x y _ _ (first_small x xs s) (first_small y ys t) (total_closed lawful xs sx) (total_closed lawful ys ty)

  pub total_scaled : (a : ℕ) → a < F.q → (xs : List ℕ) → T (symbols F.q xs) → total F (scaled F a xs) ≡ F.product a (total F xs)
  total_scaled a h [] t = sym (product_zero lawful a h)
  total_scaled a h (x ∷ xs) t =
      let tx = rest_small x xs t in
      ap (F.sum (F.product a x)) (total_scaled a h xs tx) ∙ sym (lawful.distributive a x _ h (first_small x xs t) (total_closed lawful xs tx))

  pub total_append : (xs ys : List ℕ) → T (symbols F.q xs) → T (symbols F.q ys) → total F (xs ++ ys) ≡ F.sum (total F xs) (total F ys)
  total_append [] ys s t = sym (zero_sum lawful _ (total_closed lawful ys t))
  total_append (x ∷ xs) ys s t =
      let sx = rest_small x xs s in
      ap (F.sum x) (total_append xs ys sx t) ∙ sym (lawful.sum_assoc x _ _ (first_small x xs s) (total_closed lawful xs sx) (total_closed lawful ys t))

  -- words that differ in at most one place and have one total are one
  pub one_total : (xs ys : List ℕ) → length xs ≡ length ys → T (symbols F.q xs) → T (symbols F.q ys) → distance xs ys ≤ 1 → total F xs ≡ total F ys → xs ≡ ys
  one_total [] [] e s t near same = refl
  one_total [] (y ∷ ys) e s t near same = absurd (omega arith)
  one_total (x ∷ xs) [] e s t near same = absurd (omega arith)
  one_total (x ∷ xs) (y ∷ ys) e s t near same = by_head (ℕ_discrete x y) (λ close totals. one_total xs ys (omega arith) sx ty close totals)
    where
      hx : x < F.q
      hx = first_small x xs s

      hy : y < F.q
      hy = first_small y ys t

      sx : T (symbols F.q xs)
      sx = rest_small x xs s

      ty : T (symbols F.q ys)
      ty = rest_small y ys t

      by_head : Dec (x ≡ y) → (distance xs ys ≤ 1 → total F xs ≡ total F ys → xs ≡ ys) → x ∷ xs ≡ y ∷ ys
      by_head (yes p) rest =
          let close : distance xs ys ≤ 1 = subst (λ b. unless b (distance xs ys) ≤ 1) (true_is _ (subst (λ z. T (eqb x z)) p (eqb_refl x))) near in
          let totals : total F xs ≡ total F ys = cancel lawful x _ _ hx (total_closed lawful xs sx) (total_closed lawful ys ty) (same ∙ ap (λ z. F.sum z (total F ys)) (sym p)) in
          ap₂ ◌∷◌ p (rest close totals)
      by_head (no n) rest =
          let none : suc (distance xs ys) ≤ 1 = subst (λ b. unless b (distance xs ys) ≤ 1) (is_false _ (λ z. n (eqb→eq x y z))) near in
          let equal : xs ≡ ys = distance_zero eqb eqb_tells xs ys (omega arith) in
          let ty_small = total_closed lawful ys ty in
          let heads : x ≡ y = cancel lawful (total F ys) x y ty_small hx hy (lawful.sum_comm _ x ty_small hx ∙ ap (λ z. F.sum x (total F z)) (sym equal) ∙ same ∙ lawful.sum_comm y _ hy ty_small) in
          ap₂ ◌∷◌ heads equal
