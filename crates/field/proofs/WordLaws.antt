-- Words of symbols, and the total functions at them. Assumes nothing.
use Rattle.std.proofs.Common.{◌≡◌, ℕ, zero, suc, ◌<◌, T, ltb, List, [], ◌∷◌, length, get_or, drop, refl, ap, ◌∙◌, ap₂, le_of_suc-le-suc, arith, ltb→lt}
use Rattle.field.specs.Meaning.{Meaning, IsField}
use Rattle.field.specs.Words.{symbols, total, value_at, plus_scaled, sum_or_0, product_or_0, value_or_0, plus_scaled_or_0}
use Rattle.field.proofs.Accepted.{sum_or_0_is, product_or_0_is}
use Rattle.field.proofs.Tests.{both_left, both_right}
use Rattle.field.proofs.Unique.{zero_small}

pub symbol_at : (q : ℕ) (xs : List ℕ) → T (symbols q xs) → (i : ℕ) → i < length xs → get_or xs i 0 < q
symbol_at q [] t i h = absurd (omega arith)
symbol_at q (x ∷ xs) t zero h = ltb→lt x q (both_left _ _ t)
symbol_at q (x ∷ xs) t (suc i) h = symbol_at q xs (both_right (ltb x q) _ t) i (le_of_suc-le-suc h)

module _ {F : Meaning} (lawful : IsField F) where
  pub total_closed : (xs : List ℕ) → T (symbols F.q xs) → total F xs < F.q
  total_closed [] t = zero_small lawful
  total_closed (x ∷ xs) t = lawful.sum_closed x (total F xs) (ltb→lt x F.q (both_left _ _ t)) (total_closed xs (both_right (ltb x F.q) _ t))

  pub value_closed : (x : ℕ) → x < F.q → (cs : List ℕ) → T (symbols F.q cs) → value_at F x cs < F.q
  value_closed x small [] t = zero_small lawful
  value_closed x small (c ∷ cs) t =
      lawful.sum_closed c _ (ltb→lt c F.q (both_left _ _ t))
      (lawful.product_closed x _ small (value_closed x small cs (both_right (ltb c F.q) _ t)))

pub symbols_drop : (q i : ℕ) (xs : List ℕ) → T (symbols q xs) → T (symbols q (drop i xs))
symbols_drop q zero xs t = t
symbols_drop q (suc i) [] t = tt
symbols_drop q (suc i) (x ∷ xs) t = symbols_drop q i xs (both_right (ltb x q) _ t)

-- the total functions, at symbols
abbrev pub total_or_0 : Meaning → List ℕ → ℕ
total_or_0 F [] = 0
total_or_0 F (x ∷ xs) = sum_or_0 F x (total_or_0 F xs)

pub plus_scaled_or_0_nil : (F : Meaning) (a : ℕ) (xs : List ℕ) → plus_scaled_or_0 F a xs [] ≡ xs
plus_scaled_or_0_nil F a [] = refl
plus_scaled_or_0_nil F a (x ∷ xs) = refl

module _ {F : Meaning} (lawful : IsField F) where
  head_small : (x : ℕ) (xs : List ℕ) → T (symbols F.q (x ∷ xs)) → x < F.q
  head_small x xs t = ltb→lt x F.q (both_left _ _ t)

  tail_small : (x : ℕ) (xs : List ℕ) → T (symbols F.q (x ∷ xs)) → T (symbols F.q xs)
  tail_small x xs t = both_right (ltb x F.q) _ t

  pub total_or_0_is : (xs : List ℕ) → T (symbols F.q xs) → total_or_0 F xs ≡ total F xs
  total_or_0_is [] t = refl
  total_or_0_is (x ∷ xs) t =
      let rest = tail_small x xs t in
      ap (sum_or_0 F x) (total_or_0_is xs rest) ∙ sum_or_0_is F x _ (head_small x xs t) (total_closed lawful xs rest)

  pub value_or_0_is : (x : ℕ) → x < F.q → (cs : List ℕ) → T (symbols F.q cs) → value_or_0 F x cs ≡ value_at F x cs
  value_or_0_is x h [] t = refl
  value_or_0_is x h (c ∷ cs) t =
      let rest = tail_small c cs t in
      let small = value_closed lawful x h cs rest in
      ap (λ v. sum_or_0 F c (product_or_0 F x v)) (value_or_0_is x h cs rest)
      ∙ ap (sum_or_0 F c) (product_or_0_is F x _ h small)
      ∙ sum_or_0_is F c _ (head_small c cs t) (lawful.product_closed x _ h small)

  pub plus_scaled_or_0_is : (a : ℕ) → a < F.q → (xs vs : List ℕ) → T (symbols F.q xs) → T (symbols F.q vs) → plus_scaled_or_0 F a xs vs ≡ plus_scaled F a xs vs
  plus_scaled_or_0_is a h [] vs s t = refl
  plus_scaled_or_0_is a h (x ∷ xs) [] s t = refl
  plus_scaled_or_0_is a h (x ∷ xs) (v ∷ vs) s t =
      let small = head_small v vs t in
      ap₂ ◌∷◌
      (ap (sum_or_0 F x) (product_or_0_is F a v h small) ∙ sum_or_0_is F x _ (head_small x xs s) (lawful.product_closed a v h small))
      (plus_scaled_or_0_is a h xs vs (tail_small x xs s) (tail_small v vs t))
