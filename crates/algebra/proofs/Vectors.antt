-- Sums, multiples, dot products and combinations of vectors are linear. Assumes nothing.
use Rattle.std.proofs.Common.{◌≡◌, ℕ, zero, suc, ◌≤◌, max, List, [], ◌∷◌, ◌++◌, map, length, get_or, sym, refl, ap, ◌∙◌, arith}
use Rattle.std.specs.List.{AllByRecursion}
use Rattle.algebra.specs.FieldOn.{Ops, FieldOn}
use Rattle.algebra.specs.Vectors.{plus, times, opposite, minus, total, dot, combination, plus_each, Zeros}
use Rattle.algebra.proofs.Ring.{ring, ⊕_comm, ⊕_assoc, ⊕-zero, zero-⊕, ⊙-zero, zero-⊙, ⊙-⊕, ⊙_comm, ⊙_assoc, one-⊙, ⊕-neg, neg_zero, equal_from_difference}

-- equal heads and tails
pub cons_path : {X : Type 0} {x y : X} {xs ys : List X} → x ≡ y → xs ≡ ys → ◌≡◌ {A = List X} (x ∷ xs) (y ∷ ys)
cons_path p q = λ i. p i ∷ q i

module _ {K : Type 0} (F : FieldOn K) where
  infixl 65 ◌⊕◌
  infixl 70 ◌⊙◌
  open F.ops use {zero as 𝟘, one as 𝟙, add as ◌⊕◌, mul as ◌⊙◌, neg as ⊖}

  abbrev A : Ops K
  A = F.ops

  pub swap_middle : (a b c d : K) → a ⊕ b ⊕ (c ⊕ d) ≡ a ⊕ c ⊕ (b ⊕ d)
  swap_middle a b c d = simp ring

  pub plus_nil : (xs : List K) → plus A xs [] ≡ xs
  plus_nil [] = refl
  plus_nil (x ∷ xs) = refl

  pub plus_comm : (xs ys : List K) → plus A xs ys ≡ plus A ys xs
  plus_comm [] ys = sym (plus_nil ys)
  plus_comm (x ∷ xs) [] = refl
  plus_comm (x ∷ xs) (y ∷ ys) = cons_path (⊕_comm F x y) (plus_comm xs ys)

  pub plus_assoc : (xs ys zs : List K) → plus A (plus A xs ys) zs ≡ plus A xs (plus A ys zs)
  plus_assoc [] ys zs = refl
  plus_assoc (x ∷ xs) [] zs = refl
  plus_assoc (x ∷ xs) (y ∷ ys) [] = refl
  plus_assoc (x ∷ xs) (y ∷ ys) (z ∷ zs) = cons_path (⊕_assoc F x y z) (plus_assoc xs ys zs)

  pub plus_swap : (a b c d : List K) → plus A (plus A a b) (plus A c d) ≡ plus A (plus A a c) (plus A b d)
  plus_swap a b c d =
      plus_assoc a b (plus A c d)
      ∙ ap (plus A a) (sym (plus_assoc b c d) ∙ ap (λ z. plus A z d) (plus_comm b c) ∙ plus_assoc c b d)
      ∙ sym (plus_assoc a c (plus A b d))

  pub times_plus : (c : K) (xs ys : List K) → times A c (plus A xs ys) ≡ plus A (times A c xs) (times A c ys)
  times_plus c [] ys = refl
  times_plus c (x ∷ xs) [] = refl
  times_plus c (x ∷ xs) (y ∷ ys) = cons_path (⊙-⊕ F c x y) (times_plus c xs ys)

  pub times_sum : (a b : K) (xs : List K) → times A (a ⊕ b) xs ≡ plus A (times A a xs) (times A b xs)
  times_sum a b [] = refl
  times_sum a b (x ∷ xs) = cons_path (simp ring) (times_sum a b xs)

  pub times_times : (a b : K) (xs : List K) → times A a (times A b xs) ≡ times A (a ⊙ b) xs
  times_times a b [] = refl
  times_times a b (x ∷ xs) = cons_path (sym (⊙_assoc F a b x)) (times_times a b xs)

  pub times_one : (xs : List K) → times A 𝟙 xs ≡ xs
  times_one [] = refl
  times_one (x ∷ xs) = cons_path (one-⊙ F x) (times_one xs)

  pub opposite_times : (xs : List K) → opposite A xs ≡ times A (⊖ 𝟙) xs
  opposite_times [] = refl
  opposite_times (x ∷ xs) = cons_path (simp ring) (opposite_times xs)

  pub length_times : (c : K) (xs : List K) → length (times A c xs) ≡ length xs
  length_times c [] = refl
  length_times c (x ∷ xs) = ap suc (length_times c xs)

  pub length_opposite : (xs : List K) → length (opposite A xs) ≡ length xs
  length_opposite [] = refl
  length_opposite (x ∷ xs) = ap suc (length_opposite xs)

  pub length_plus : (xs ys : List K) → length (plus A xs ys) ≡ max (length xs) (length ys)
  length_plus [] ys = omega arith
  length_plus (x ∷ xs) [] = omega arith
  length_plus (x ∷ xs) (y ∷ ys) = let ih = length_plus xs ys in omega arith

  pub length_minus : (xs ys : List K) → length (minus A xs ys) ≡ max (length xs) (length ys)
  length_minus xs ys = length_plus xs (opposite A ys) ∙ ap (max (length xs)) (length_opposite ys)

  -- place by place; past the end a vector has zeros
  pub getD_plus : (xs ys : List K) (i : ℕ) → get_or (plus A xs ys) i 𝟘 ≡ get_or xs i 𝟘 ⊕ get_or ys i 𝟘
  getD_plus [] ys i = sym (zero-⊕ F _)
  getD_plus (x ∷ xs) [] i = sym (⊕-zero F _)
  getD_plus (x ∷ xs) (y ∷ ys) zero = refl
  getD_plus (x ∷ xs) (y ∷ ys) (suc i) = getD_plus xs ys i

  pub getD_times : (c : K) (xs : List K) (i : ℕ) → get_or (times A c xs) i 𝟘 ≡ c ⊙ get_or xs i 𝟘
  getD_times c [] i = sym (⊙-zero F c)
  getD_times c (x ∷ xs) zero = refl
  getD_times c (x ∷ xs) (suc i) = getD_times c xs i

  pub getD_opposite : (xs : List K) (i : ℕ) → get_or (opposite A xs) i 𝟘 ≡ ⊖ (get_or xs i 𝟘)
  getD_opposite [] i = sym (neg_zero F)
  getD_opposite (x ∷ xs) zero = refl
  getD_opposite (x ∷ xs) (suc i) = getD_opposite xs i

  -- a difference is zeros exactly for equal vectors
  pub minus_zeros : (xs ys : List K) → length xs ≡ length ys → Zeros A (minus A xs ys) → xs ≡ ys
  minus_zeros [] [] e z = refl
  minus_zeros [] (y ∷ ys) e z = absurd (omega arith)
  minus_zeros (x ∷ xs) [] e z = absurd (omega arith)
  minus_zeros (x ∷ xs) (y ∷ ys) e (z, zs) = cons_path (equal_from_difference F z) (minus_zeros xs ys (omega arith) zs)

  pub minus_itself : (xs : List K) → Zeros A (minus A xs xs)
  minus_itself [] = tt
  minus_itself (x ∷ xs) = (⊕-neg F x, minus_itself xs)

  pub times_zeros : (c : K) (xs : List K) → Zeros A xs → Zeros A (times A c xs)
  times_zeros c [] z = tt
  times_zeros c (x ∷ xs) (z, zs) = (ap (λ y. c ⊙ y) z ∙ ⊙-zero F c, times_zeros c xs zs)

  pub plus_zeros : (xs ys : List K) → Zeros A xs → Zeros A ys → Zeros A (plus A xs ys)
  plus_zeros [] ys z w = w
  plus_zeros (x ∷ xs) [] z w = z
  plus_zeros (x ∷ xs) (y ∷ ys) (z, zs) (w, ws) = (ap (λ v. v ⊕ y) z ∙ zero-⊕ F y ∙ w, plus_zeros xs ys zs ws)

  pub dot_nil : (xs : List K) → dot A xs [] ≡ 𝟘
  dot_nil [] = refl
  dot_nil (x ∷ xs) = refl

  pub dot_comm : (xs ys : List K) → dot A xs ys ≡ dot A ys xs
  dot_comm [] ys = sym (dot_nil ys)
  dot_comm (x ∷ xs) [] = refl
  dot_comm (x ∷ xs) (y ∷ ys) = ap (λ z. z ⊕ dot A xs ys) (⊙_comm F x y) ∙ ap (λ z. y ⊙ x ⊕ z) (dot_comm xs ys)

  dot_plus_step : (x y z a b : K) → (x ⊕ y) ⊙ z ⊕ (a ⊕ b) ≡ x ⊙ z ⊕ a ⊕ (y ⊙ z ⊕ b)
  dot_plus_step x y z a b = simp ring

  pub dot_plus : (xs ys zs : List K) → dot A (plus A xs ys) zs ≡ dot A xs zs ⊕ dot A ys zs
  dot_plus [] ys zs = sym (zero-⊕ F _)
  dot_plus (x ∷ xs) [] zs = sym (⊕-zero F _)
  dot_plus (x ∷ xs) (y ∷ ys) [] = sym (⊕-zero F 𝟘)
  dot_plus (x ∷ xs) (y ∷ ys) (z ∷ zs) = ap (λ w. (x ⊕ y) ⊙ z ⊕ w) (dot_plus xs ys zs) ∙ dot_plus_step x y z _ _

  dot_times_step : (c x y d : K) → c ⊙ x ⊙ y ⊕ c ⊙ d ≡ c ⊙ (x ⊙ y ⊕ d)
  dot_times_step c x y d = simp ring

  pub dot_times : (c : K) (xs ys : List K) → dot A (times A c xs) ys ≡ c ⊙ dot A xs ys
  dot_times c [] ys = sym (⊙-zero F c)
  dot_times c (x ∷ xs) [] = sym (⊙-zero F c)
  dot_times c (x ∷ xs) (y ∷ ys) = ap (λ w. c ⊙ x ⊙ y ⊕ w) (dot_times c xs ys) ∙ dot_times_step c x y _

  pub dot_plus_right : (xs ys zs : List K) → dot A xs (plus A ys zs) ≡ dot A xs ys ⊕ dot A xs zs
  dot_plus_right xs ys zs =
      dot_comm xs (plus A ys zs) ∙ dot_plus ys zs xs ∙ ap (λ w. w ⊕ dot A zs xs) (dot_comm ys xs) ∙ ap (λ w. dot A xs ys ⊕ w) (dot_comm zs xs)

  pub dot_times_right : (c : K) (xs ys : List K) → dot A xs (times A c ys) ≡ c ⊙ dot A xs ys
  dot_times_right c xs ys = dot_comm xs (times A c ys) ∙ dot_times c ys xs ∙ ap (λ w. c ⊙ w) (dot_comm ys xs)

  pub dot_zeros : (xs ys : List K) → Zeros A xs → dot A xs ys ≡ 𝟘
  dot_zeros [] ys z = refl
  dot_zeros (x ∷ xs) [] z = refl
  dot_zeros (x ∷ xs) (y ∷ ys) (z, zs) = ap (λ w. w ⊙ y ⊕ dot A xs ys) z ∙ ap (λ w. 𝟘 ⊙ y ⊕ w) (dot_zeros xs ys zs) ∙ ⊕-zero F _ ∙ zero-⊙ F y

  pub dot_zeros_right : (xs ys : List K) → Zeros A ys → dot A xs ys ≡ 𝟘
  dot_zeros_right xs ys z = dot_comm xs ys ∙ dot_zeros ys xs z

  pub dot_append : (cs ds xs ys : List K) → length cs ≡ length xs → dot A (cs ++ ds) (xs ++ ys) ≡ dot A cs xs ⊕ dot A ds ys
  dot_append [] ds [] ys e = sym (zero-⊕ F _)
  dot_append [] ds (x ∷ xs) ys e = absurd (omega arith)
  dot_append (a ∷ cs) ds [] ys e = absurd (omega arith)
  dot_append (a ∷ cs) ds (x ∷ xs) ys e = ap (λ w. a ⊙ x ⊕ w) (dot_append cs ds xs ys (omega arith)) ∙ sym (⊕_assoc F _ _ _)

  -- a combination meets a vector as its parts do
  pub dot_combination : (cs : List K) (vs : List (List K)) (ys : List K) → dot A (combination A cs vs) ys ≡ dot A cs (map (λ v. dot A v ys) vs)
  dot_combination [] vs ys = refl
  dot_combination (c ∷ cs) [] ys = refl
  dot_combination (c ∷ cs) (v ∷ vs) ys =
      dot_plus (times A c v) (combination A cs vs) ys
      ∙ ap (λ w. w ⊕ dot A (combination A cs vs) ys) (dot_times c v ys)
      ∙ ap (λ w. c ⊙ dot A v ys ⊕ w) (dot_combination cs vs ys)

  pub getD_combination : (cs : List K) (vs : List (List K)) (i : ℕ) → get_or (combination A cs vs) i 𝟘 ≡ dot A cs (map (λ v. get_or v i 𝟘) vs)
  getD_combination [] vs i = refl
  getD_combination (c ∷ cs) [] i = refl
  getD_combination (c ∷ cs) (v ∷ vs) i =
      getD_plus (times A c v) (combination A cs vs) i
      ∙ ap (λ w. w ⊕ get_or (combination A cs vs) i 𝟘) (getD_times c v i)
      ∙ ap (λ w. c ⊙ get_or v i 𝟘 ⊕ w) (getD_combination cs vs i)

  pub combination_plus : (cs ds : List K) (vs : List (List K)) → combination A (plus A cs ds) vs ≡ plus A (combination A cs vs) (combination A ds vs)
  combination_plus [] ds vs = refl
  combination_plus (c ∷ cs) [] vs = sym (plus_nil _)
  combination_plus (c ∷ cs) (d ∷ ds) [] = refl
  combination_plus (c ∷ cs) (d ∷ ds) (v ∷ vs) =
      ap (λ w. plus A w (combination A (plus A cs ds) vs)) (times_sum c d v)
      ∙ ap (plus A (plus A (times A c v) (times A d v))) (combination_plus cs ds vs)
      ∙ plus_swap (times A c v) (times A d v) (combination A cs vs) (combination A ds vs)

  pub combination_times : (c : K) (cs : List K) (vs : List (List K)) → combination A (times A c cs) vs ≡ times A c (combination A cs vs)
  combination_times c [] vs = refl
  combination_times c (d ∷ cs) [] = refl
  combination_times c (d ∷ cs) (v ∷ vs) =
      ap (λ w. plus A w (combination A (times A c cs) vs)) (sym (times_times c d v))
      ∙ ap (plus A (times A c (times A d v))) (combination_times c cs vs)
      ∙ sym (times_plus c (times A d v) (combination A cs vs))

  -- a combination is linear in the vectors too
  pub combination_plus_each : (cs : List K) (vs ws : List (List K)) → combination A cs (plus_each A vs ws) ≡ plus A (combination A cs vs) (combination A cs ws)
  combination_plus_each [] vs ws = refl
  combination_plus_each (c ∷ cs) [] ws = refl
  combination_plus_each (c ∷ cs) (v ∷ vs) [] = sym (plus_nil _)
  combination_plus_each (c ∷ cs) (v ∷ vs) (w ∷ ws) =
      ap (λ z. plus A z (combination A cs (plus_each A vs ws))) (times_plus c v w)
      ∙ ap (plus A (plus A (times A c v) (times A c w))) (combination_plus_each cs vs ws)
      ∙ plus_swap (times A c v) (times A c w) (combination A cs vs) (combination A cs ws)

  pub combination_times_each : (c : K) (cs : List K) (vs : List (List K)) → combination A cs (map (times A c) vs) ≡ times A c (combination A cs vs)
  combination_times_each c [] vs = refl
  combination_times_each c (d ∷ cs) [] = refl
  combination_times_each c (d ∷ cs) (v ∷ vs) =
      ap (λ z. plus A z (combination A cs (map (times A c) vs))) (times_times d c v ∙ ap (λ z. times A z v) (⊙_comm F d c) ∙ sym (times_times c d v))
      ∙ ap (plus A (times A c (times A d v))) (combination_times_each c cs vs)
      ∙ sym (times_plus c (times A d v) (combination A cs vs))

  -- no longer than the longest vector
  pub length_combination : (n : ℕ) (cs : List K) (vs : List (List K)) → AllByRecursion (λ v. length v ≤ n) vs → length (combination A cs vs) ≤ n
  length_combination n [] vs h = omega arith
  length_combination n (c ∷ cs) [] h = omega arith
  length_combination n (c ∷ cs) (v ∷ vs) (h, hs) =
      let a = length_plus (times A c v) (combination A cs vs) in
      let b = length_times c v in
      let ih = length_combination n cs vs hs in
      omega arith

  pub total_plus : (xs ys : List K) → total A (plus A xs ys) ≡ total A xs ⊕ total A ys
  total_plus [] ys = sym (zero-⊕ F _)
  total_plus (x ∷ xs) [] = sym (⊕-zero F _)
  total_plus (x ∷ xs) (y ∷ ys) = ap (λ w. x ⊕ y ⊕ w) (total_plus xs ys) ∙ swap_middle x y _ _

  pub total_times : (c : K) (xs : List K) → total A (times A c xs) ≡ c ⊙ total A xs
  total_times c [] = sym (⊙-zero F c)
  total_times c (x ∷ xs) = ap (λ w. c ⊙ x ⊕ w) (total_times c xs) ∙ sym (⊙-⊕ F c x (total A xs))

  pub total_append : (xs ys : List K) → total A (xs ++ ys) ≡ total A xs ⊕ total A ys
  total_append [] ys = sym (zero-⊕ F _)
  total_append (x ∷ xs) ys = ap (λ w. x ⊕ w) (total_append xs ys) ∙ sym (⊕_assoc F x (total A xs) (total A ys))
