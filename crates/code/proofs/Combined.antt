-- Combinations of words over a field: one word more, their differences, and the last word that is not zero. Assumes nothing.
use Rattle.std.proofs.Common.{◌≡◌, ℕ, zero, suc, ◌<◌, ◌⊎◌, List, [], ◌∷◌, ◌++◌, map, length, sym, refl, ap, ◌∙◌, ap₂, inl, inr, append_assoc, arith}
use Rattle.std.specs.List.{AllByRecursion}
use Rattle.std.proofs.ByRecursion.{All-push}
use Rattle.field.specs.Places.{unless}
use Rattle.field.proofs.Tests.{true_is}
use Rattle.algebra.specs.Distance.{is_zero, weight, distance_in}
use Rattle.algebra.specs.FieldOn.{Ops, FieldOn}
use Rattle.algebra.specs.Vectors.{plus, times, minus, combination, plus_each, Zeros}
use Rattle.algebra.proofs.Distance.{told_holds, distance_weight}
use Rattle.algebra.proofs.Ring.{zero-⊕}
use Rattle.algebra.proofs.Vectors.{plus_nil, plus_assoc, plus_swap, times_plus, opposite_times, plus_zeros, times_zeros, combination_plus_each, combination_times_each}
use Rattle.code.proofs.Listed.{listed, length_listed}

module _ {K : Type 0} (F : FieldOn K) where
  open F.ops use {zero as 𝟘, one as 𝟙, neg as ⊖}

  abbrev A : Ops K
  A = F.ops

  pub combination_push : (cs : List K) (ws : List (List K)) (c : K) (w : List K) → length cs ≡ length ws → combination A (cs ++ c ∷ []) (ws ++ w ∷ []) ≡ plus A (combination A cs ws) (times A c w)
  combination_push [] [] c w e = plus_nil F (times A c w)
  combination_push [] (v ∷ ws) c w e = absurd (omega arith)
  combination_push (d ∷ cs) [] c w e = absurd (omega arith)
  combination_push (d ∷ cs) (v ∷ ws) c w e =
      ap (plus A (times A d v)) (combination_push cs ws c w (omega arith)) ∙ sym (plus_assoc F (times A d v) (combination A cs ws) (times A c w))

  combination_zeros : (cs : List K) (ws : List (List K)) → AllByRecursion (Zeros A) ws → Zeros A (combination A cs ws)
  combination_zeros [] ws z = tt
  combination_zeros (c ∷ cs) [] z = tt
  combination_zeros (c ∷ cs) (w ∷ ws) (z, zs) = plus_zeros F (times A c w) (combination A cs ws) (times_zeros F c w z) (combination_zeros cs ws zs)

  pub weight_zeros : (xs : List K) → Zeros A xs → weight F xs ≡ 0
  weight_zeros [] z = refl
  weight_zeros (x ∷ xs) (z, zs) = ap (λ b. unless b (weight F xs)) (true_is _ (told_holds (F.same? x 𝟘) z)) ∙ weight_zeros xs zs

  weight_plus_zeros : (o d : List K) → Zeros A o → weight F (plus A o d) ≡ weight F d
  weight_plus_zeros [] d z = refl
  weight_plus_zeros (x ∷ o) [] z = weight_zeros (x ∷ o) z
  weight_plus_zeros (x ∷ o) (y ∷ d) (z, zs) = ap₂ (λ a n. unless (is_zero F a) n) (ap (λ a. A.add a y) z ∙ zero-⊕ F y) (weight_plus_zeros o d zs)

  pub zeros_weight : (cs : List K) (ws : List (List K)) → AllByRecursion (Zeros A) ws → weight F (combination A cs ws) ≡ 0
  zeros_weight cs ws z = weight_zeros (combination A cs ws) (combination_zeros cs ws z)

  -- the difference of two words
  abbrev pub less : List K → List K → List K
  less v w = plus A v (times A (⊖ 𝟙) w)

  pub less_minus : (v w : List K) → less v w ≡ minus A v w
  less_minus v w = ap (plus A v) (sym (opposite_times F w))

  -- the distance of two combinations of words is the weight of the combination of their differences
  pub difference_weight : (z cs : List K) (vs ws : List (List K)) → Zeros A z → length (plus A z (combination A cs vs)) ≡ length (plus A z (combination A cs ws))
      → distance_in F (plus A z (combination A cs vs)) (plus A z (combination A cs ws)) ≡ weight F (combination A cs (plus_each A vs (map (times A (⊖ 𝟙)) ws)))
  difference_weight z cs vs ws zz e =
      let X = combination A cs vs in
      let Y = combination A cs ws in
      distance_weight F (plus A z X) (plus A z Y) e
      ∙ ap (weight F)
      (ap (plus A (plus A z X)) (opposite_times F (plus A z Y) ∙ times_plus F (⊖ 𝟙) z Y)
      ∙ plus_swap F z X (times A (⊖ 𝟙) z) (times A (⊖ 𝟙) Y))
      ∙ weight_plus_zeros (plus A z (times A (⊖ 𝟙) z)) (plus A X (times A (⊖ 𝟙) Y)) (plus_zeros F z (times A (⊖ 𝟙) z) zz (times_zeros F (⊖ 𝟙) z zz))
      ∙ ap (weight F) (sym (combination_plus_each F cs vs (map (times A (⊖ 𝟙)) ws) ∙ ap (plus A X) (combination_times_each F (⊖ 𝟙) cs ws)))

  plus_each_push : (vs ws : List (List K)) (v w : List K) → length vs ≡ length ws → plus_each A (vs ++ v ∷ []) (ws ++ w ∷ []) ≡ plus_each A vs ws ++ plus A v w ∷ []
  plus_each_push [] [] v w e = refl
  plus_each_push [] (y ∷ ws) v w e = absurd (omega arith)
  plus_each_push (x ∷ vs) [] v w e = absurd (omega arith)
  plus_each_push (x ∷ vs) (y ∷ ws) v w e = ap (λ l. plus A x y ∷ l) (plus_each_push vs ws v w (omega arith))

  pub plus_each_listed : (f g : ℕ → List K) (n : ℕ) → plus_each A (listed f n) (listed g n) ≡ listed (λ i. plus A (f i) (g i)) n
  plus_each_listed f g zero = refl
  plus_each_listed f g (suc n) =
      plus_each_push (listed f n) (listed g n) (f (suc n)) (g (suc n)) (length_listed f n ∙ sym (length_listed g n))
      ∙ ap (λ l. l ++ plus A (f (suc n)) (g (suc n)) ∷ []) (plus_each_listed f g n)

  zeros? : (xs : List K) → Dec (Zeros A xs)
  zeros? [] = yes tt
  zeros? (x ∷ xs) = go (F.same? x 𝟘) (zeros? xs)
    where
      go : Dec (x ≡ 𝟘) → Dec (Zeros A xs) → Dec (Zeros A (x ∷ xs))
      go (yes e) (yes z) = yes (e, z)
      go (yes e) (no n) = no (λ h. n h.1)
      go (no m) d = no (λ h. m h.0)

  -- the last word that is not zero
  pub record Last (D : ℕ → List K) (n : ℕ) : Type 0 where
    pub before : ℕ
    pub within : before < n
    pub rest : List (List K)
    pub is : listed D n ≡ listed D before ++ (D (suc before) ∷ rest)
    pub zeros : AllByRecursion (Zeros A) rest
    pub there : Zeros A (D (suc before)) → ⊥

  pub find_last : (D : ℕ → List K) (n : ℕ) → AllByRecursion (Zeros A) (listed D n) ⊎ Last D n
  find_last D zero = inl tt
  find_last D (suc n) = go (zeros? (D (suc n))) (find_last D n)
    where
      go : Dec (Zeros A (D (suc n))) → AllByRecursion (Zeros A) (listed D n) ⊎ Last D n → AllByRecursion (Zeros A) (listed D (suc n)) ⊎ Last D (suc n)
      go (no m) r = inr (record { before = n; within = omega arith; rest = []; is = refl; zeros = tt; there = m })
      go (yes z) (inl zs) = inl (All-push (Zeros A) (listed D n) (D (suc n)) zs z)
      go (yes z) (inr last) = inr (record {
        before = last.before;
        within = (let w = last.within in omega arith);
        rest = last.rest ++ D (suc n) ∷ [];
        is = ap (λ l. l ++ D (suc n) ∷ []) last.is ∙ append_assoc (listed D last.before) (D (suc last.before) ∷ last.rest) (D (suc n) ∷ []);
        zeros = All-push (Zeros A) last.rest (D (suc n)) last.zeros z;
        there = last.there;
      })
