-- Matrices that are non-singular by columns: elimination keeps the property, and tests it. Assumes nothing.
use Rattle.std.proofs.Common.{◌≡◌, ℕ, zero, suc, ◌<◌, ◌≤◌, T, ◌≢◌, List, [], ◌∷◌, map, length, get_or, take, sym, refl, ap, ◌∙◌, arith, length-take}
use native.Mathlib.Decide.{dec_le}
use Rattle.std.specs.List.{AllZip, AllByRecursion}
use Rattle.std.proofs.ByRecursion.{All-take}
use Rattle.algebra.specs.FieldOn.{Ops, FieldOn}
use Rattle.algebra.specs.Vectors.{plus, times, dot, combination, Zeros}
use Rattle.algebra.specs.Polynomials.{Different}
use Rattle.algebra.specs.Distance.{passing, is_zero}
use Rattle.algebra.specs.Systems.{lead, rest, cleared}
use Rattle.algebra.specs.Matrices.{Nonsingular, reduced, Reducible}
use Rattle.algebra.proofs.Ring.{ring, ⊕-zero, zero-⊕, ⊙-zero, ⊙_comm, product_zero}
use Rattle.algebra.proofs.Vectors.{dot_comm, dot_plus_right, dot_times_right, dot_zeros, getD_combination}
use Rattle.algebra.proofs.Systems.{rest_plus, rest_times}
use Rattle.algebra.proofs.Distance.{told_yes}
use Rattle.algebra.proofs.Evaluation.{chosen, chosen_different, chosen_each, chosen_all, chosen_passing}
use Rattle.algebra.proofs.Everywhere.{all_both, all_each}

pub different_take : {X : Type 0} (n : ℕ) (xs : List X) → Different xs → Different (take n xs)
different_take zero xs d = tt
different_take (suc n) [] d = tt
different_take (suc n) (x ∷ xs) (k, d) = (All-take (λ y. x ≢ y) n xs k, different_take n xs d)

module _ {K : Type 0} (F : FieldOn K) where
  infixl 65 ◌⊕◌
  infixl 70 ◌⊙◌
  open F.ops use {zero as 𝟘, one as 𝟙, add as ◌⊕◌, mul as ◌⊙◌, neg as ⊖, inv}

  abbrev A : Ops K
  A = F.ops

  pub dot_lead : (c : K) (cs q : List K) → dot A (c ∷ cs) q ≡ c ⊙ lead A q ⊕ dot A cs (rest A q)
  dot_lead c cs [] = sym (ap (λ z. c ⊙ 𝟘 ⊕ z) (dot_comm F cs []) ∙ ⊕-zero F _ ∙ ⊙-zero F c)
  dot_lead c cs (a ∷ q) = refl

  -- a combination of the lower entries of a reduced column
  pub dot_reduced : (cs p q : List K) → dot A cs (rest A (cleared A p q)) ≡ dot A cs (rest A q) ⊕ ⊖ (lead A q ⊙ inv (lead A p)) ⊙ dot A cs (rest A p)
  dot_reduced cs p q =
      ap (dot A cs) (rest_plus F q (times A (⊖ (lead A q ⊙ inv (lead A p))) p) ∙ ap (plus A (rest A q)) (rest_times F (⊖ (lead A q ⊙ inv (lead A p))) p))
      ∙ dot_plus_right F cs (rest A q) (times A (⊖ (lead A q ⊙ inv (lead A p))) (rest A p))
      ∙ ap (λ z. dot A cs (rest A q) ⊕ z) (dot_times_right F (⊖ (lead A q ⊙ inv (lead A p))) cs (rest A p))

  reduce_step : (c lp lq i dp dq : K) → lp ⊙ i ≡ 𝟙 → c ⊙ lq ⊕ dq ⊕ ⊖ (lq ⊙ i) ⊙ (c ⊙ lp ⊕ dp) ≡ dq ⊕ ⊖ (lq ⊙ i) ⊙ dp
  reduce_step c lp lq i dp dq e =
      let p : c ⊙ lq ⊕ dq ⊕ ⊖ (lq ⊙ i) ⊙ (c ⊙ lp ⊕ dp) ≡ c ⊙ lq ⊕ dq ⊕ (⊖ (c ⊙ lq ⊙ (lp ⊙ i)) ⊕ ⊖ (lq ⊙ i) ⊙ dp) = simp ring in
      p ∙ ap (λ z. c ⊙ lq ⊕ dq ⊕ (⊖ (c ⊙ lq ⊙ z) ⊕ ⊖ (lq ⊙ i) ⊙ dp)) e ∙ (simp ring)

  -- Taking off the pivot column's combination leaves one of the lower rows of the reduced matrix, whatever the first coefficient.
  pub combination_reduced : (c : K) (cs p q : List K) → lead A p ≢ 𝟘 → dot A (c ∷ cs) q ⊕ ⊖ (lead A q ⊙ inv (lead A p)) ⊙ dot A (c ∷ cs) p ≡ dot A cs (rest A (cleared A p q))
  combination_reduced c cs p q n =
      ap (λ z. z ⊕ ⊖ (lead A q ⊙ inv (lead A p)) ⊙ dot A (c ∷ cs) p) (dot_lead c cs q)
      ∙ ap (λ z. c ⊙ lead A q ⊕ dot A cs (rest A q) ⊕ ⊖ (lead A q ⊙ inv (lead A p)) ⊙ z) (dot_lead c cs p)
      ∙ reduce_step c (lead A p) (lead A q) (inv (lead A p)) (dot A cs (rest A p)) (dot A cs (rest A q)) (F.product_inv (lead A p) n)
      ∙ sym (dot_reduced cs p q)

  -- the same of words: at each place of the blocks of columns p and q
  pub blocks_reduced : (w : List K) (ws : List (List K)) (p q : List K) (i : ℕ) → lead A p ≢ 𝟘 → get_or (combination A q (w ∷ ws)) i 𝟘 ⊕ ⊖ (lead A q ⊙ inv (lead A p)) ⊙ get_or (combination A p (w ∷ ws)) i 𝟘 ≡ get_or (combination A (rest A (cleared A p q)) ws) i 𝟘
  blocks_reduced w ws p q i n =
      let vs : List K = map (λ v. get_or v i 𝟘) ws in
      ap (λ z. z ⊕ ⊖ (lead A q ⊙ inv (lead A p)) ⊙ get_or (combination A p (w ∷ ws)) i 𝟘) (getD_combination F q (w ∷ ws) i ∙ dot_comm F q (get_or w i 𝟘 ∷ vs))
      ∙ ap (λ z. dot A (get_or w i 𝟘 ∷ vs) q ⊕ ⊖ (lead A q ⊙ inv (lead A p)) ⊙ z) (getD_combination F p (w ∷ ws) i ∙ dot_comm F p (get_or w i 𝟘 ∷ vs))
      ∙ combination_reduced (get_or w i 𝟘) vs p q n
      ∙ dot_comm F vs (rest A (cleared A p q))
      ∙ sym (getD_combination F (rest A (cleared A p q)) ws i)

  zero_sum : (a b m : K) → a ≡ 𝟘 → b ≡ 𝟘 → a ⊕ m ⊙ b ≡ 𝟘
  zero_sum a b m e h = ap (λ z. z ⊕ m ⊙ b) e ∙ zero-⊕ F _ ∙ ap (λ z. m ⊙ z) h ∙ ⊙-zero F m

  -- a combination that is 0 in columns p and q is 0 in the reduced column
  zero_reduced : (c : K) (cs p q : List K) → lead A p ≢ 𝟘 → dot A (c ∷ cs) p ≡ 𝟘 → dot A (c ∷ cs) q ≡ 𝟘 → dot A cs (rest A (cleared A p q)) ≡ 𝟘
  zero_reduced c cs p q n e h = sym (combination_reduced c cs p q n) ∙ zero_sum _ _ _ h e

  unreduce : (a b m d : K) → a ⊕ m ⊙ b ≡ d → b ≡ 𝟘 → d ≡ 𝟘 → a ≡ 𝟘
  unreduce a b m d e h k = sym (⊕-zero F a) ∙ ap (λ z. a ⊕ z) (sym (⊙-zero F m)) ∙ ap (λ z. a ⊕ m ⊙ z) (sym h) ∙ e ∙ k

  zero_unreduced : (c : K) (cs p q : List K) → lead A p ≢ 𝟘 → dot A (c ∷ cs) p ≡ 𝟘 → dot A cs (rest A (cleared A p q)) ≡ 𝟘 → dot A (c ∷ cs) q ≡ 𝟘
  zero_unreduced c cs p q n e h = unreduce (dot A (c ∷ cs) q) (dot A (c ∷ cs) p) _ _ (combination_reduced c cs p q n) e h

  fit_step : (lp i d : K) → lp ⊙ i ≡ 𝟙 → ⊖ (d ⊙ i) ⊙ lp ⊕ d ≡ 𝟘
  fit_step lp i d e = (simp ring) ∙ ap (λ z. d ⊕ ⊖ (d ⊙ z)) e ∙ (simp ring)

  -- the first coefficient that makes the combination 0 in the pivot column
  fit_zero : (cs p : List K) → lead A p ≢ 𝟘 → dot A (⊖ (dot A cs (rest A p) ⊙ inv (lead A p)) ∷ cs) p ≡ 𝟘
  fit_zero cs p n = dot_lead _ cs p ∙ fit_step (lead A p) (inv (lead A p)) (dot A cs (rest A p)) (F.product_inv (lead A p) n)

  module _ {I : Type 0} where
    -- every entry of the first row is a pivot
    pub nonsingular_pivot : (s : ℕ) (column : I → List K) (In : I → Type 0) → Nonsingular A (suc s) column In → (p : I) → In p → lead A (column p) ≢ 𝟘
    nonsingular_pivot s column In h p i e =
        F.one_not_zero (h (p ∷ []) (𝟙 ∷ []) (omega arith) refl (tt, tt) (i, tt)
        (dot_lead 𝟙 [] (column p) ∙ ap (λ z. 𝟙 ⊙ z ⊕ 𝟘) e ∙ ap (λ z. z ⊕ 𝟘) (⊙-zero F 𝟙) ∙ ⊕-zero F 𝟘, tt)).0

    -- without the pivot's row and column the cleared matrix is non-singular by columns again
    pub nonsingular_reduced : (s : ℕ) (column : I → List K) (In : I → Type 0) (p : I) → In p → Nonsingular A (suc s) column In → Nonsingular A s (reduced A column p) (λ j. In j × (j ≢ p))
    nonsingular_reduced s column In p i h js cs l e d ins z =
        let n = nonsingular_pivot s column In h p i in
        let c : K = ⊖ (dot A cs (rest A (column p)) ⊙ inv (lead A (column p))) in
        let e0 = fit_zero cs (column p) n in
        (h (p ∷ js) (c ∷ cs) (omega arith) (omega arith)
        (all_each (λ j. In j × (j ≢ p)) (λ j. p ≢ j) (λ j k q. k.1 (sym q)) js ins, d)
        (i, all_each (λ j. In j × (j ≢ p)) In (λ j k. k.0) js ins)
        (e0, all_each (λ j. dot A cs (reduced A column p j) ≡ 𝟘) (λ j. dot A (c ∷ cs) (column j) ≡ 𝟘) (λ j k. zero_unreduced c cs (column p) (column j) n e0 k) js z)
        ).1

    -- if that holds for the pivot in each column in play, the matrix is non-singular by columns
    pub nonsingular_from_reduced : (s : ℕ) (column : I → List K) (In : I → Type 0) → ((p : I) → In p → (lead A (column p) ≢ 𝟘) × Nonsingular A s (reduced A column p) (λ j. In j × (j ≢ p))) → Nonsingular A (suc s) column In
    nonsingular_from_reduced s column In h [] [] l e d ins z = tt
    nonsingular_from_reduced s column In h [] (c ∷ cs) l e d ins z = absurd (omega arith)
    nonsingular_from_reduced s column In h (p ∷ js) [] l e d ins z = absurd (omega arith)
    nonsingular_from_reduced s column In h (p ∷ js) (c ∷ cs) l e (n, d) (i, ins) (z, zs) =
        let k = h p i in
        let below : Zeros A cs
        = k.1 js cs (omega arith) (omega arith) d
        (all_both In (λ j. p ≢ j) (λ j. In j × (j ≢ p)) (λ j a b. (a, (λ q. b (sym q)))) js ins n)
        (all_each (λ j. dot A (c ∷ cs) (column j) ≡ 𝟘) (λ j. dot A cs (reduced A column p j) ≡ 𝟘) (λ j q. zero_reduced c cs (column p) (column j) k.0 z q) js zs) in
        (product_zero F k.0 (⊙_comm F (lead A (column p)) c ∙ sym (⊕-zero F _) ∙ ap (λ w. c ⊙ lead A (column p) ⊕ w) (sym (dot_zeros F cs (rest A (column p)) below)) ∙ sym (dot_lead c cs (column p)) ∙ z), below)

    -- The test by elimination is the definition.
    pub nonsingular_reducible : (s : ℕ) (column : I → List K) (In : I → Type 0) → Nonsingular A s column In → Reducible A s column In
    nonsingular_reducible zero column In h = tt
    nonsingular_reducible (suc s) column In h = λ p i.
        (nonsingular_pivot s column In h p i, nonsingular_reducible s (reduced A column p) (λ j. In j × (j ≢ p)) (nonsingular_reduced s column In p i h))

    nonsingular_none : (column : I → List K) (In : I → Type 0) → Nonsingular A 0 column In
    nonsingular_none column In js [] l e d ins z = tt
    nonsingular_none column In js (c ∷ cs) l e d ins z = absurd (omega arith)

    pub reducible_nonsingular : (s : ℕ) (column : I → List K) (In : I → Type 0) → Reducible A s column In → Nonsingular A s column In
    reducible_nonsingular zero column In h = nonsingular_none column In
    reducible_nonsingular (suc s) column In h =
        nonsingular_from_reduced s column In (λ p i. ((h p i).0, reducible_nonsingular s (reduced A column p) (λ j. In j × (j ≢ p)) (h p i).1))

    -- fewer columns and fewer rows
    pub nonsingular_fewer : (s r : ℕ) (column : I → List K) (In On : I → Type 0) → r ≤ s → ((j : I) → On j → In j) → Nonsingular A s column In → Nonsingular A r column On
    nonsingular_fewer s r column In On l f h js cs m e d ins z = h js cs (omega arith) e d (all_each On In f js ins) z

    -- 0 in at least as many columns as there are coefficients
    pub nonsingular_many : (s : ℕ) (column : I → List K) (In : I → Type 0) → Nonsingular A s column In → (js : List I) (cs : List K) → length cs ≤ s → length cs ≤ length js → Different js → AllByRecursion In js → AllByRecursion (λ j. dot A cs (column j) ≡ 𝟘) js → Zeros A cs
    nonsingular_many s column In h js cs l m d ins z =
        let k = length-take (length cs) js in
        h (take (length cs) js) cs l (omega arith) (different_take (length cs) js d) (All-take In (length cs) js ins) (All-take (λ j. dot A cs (column j) ≡ 𝟘) (length cs) js z)

    -- A combination of the first r rows, not all coefficients 0, is 0 in fewer than r columns.
    pub few_zero_columns : (s : ℕ) (column : I → List K) (In : I → Type 0) → Nonsingular A s column In → (js : List I) (cs : List K) → length cs ≤ s → Different js → AllByRecursion In js → (Zeros A cs → ⊥) → passing (λ j. is_zero F (dot A cs (column j))) js < length cs
    few_zero_columns s column In h js cs l d ins n = go (dec_le (length cs) (passing (λ j. is_zero F (dot A cs (column j))) js))
      where
        there : (ks : List I) → AllZip (λ j k. T (is_zero F (dot A cs (column j))) → dot A cs (column j) ≡ 𝟘) ks ks
        there [] = tt
        there (j ∷ ks) = (told_yes (F.same? (dot A cs (column j)) 𝟘), there ks)

        go : Dec (length cs ≤ passing (λ j. is_zero F (dot A cs (column j))) js) → passing (λ j. is_zero F (dot A cs (column j))) js < length cs
        go (no k) = omega arith
        go (yes k) =
            let e = chosen_passing (λ j. is_zero F (dot A cs (column j))) js in
            absurd (n (nonsingular_many s column In h (chosen (λ j k. is_zero F (dot A cs (column j))) js js) cs l (omega arith)
            (chosen_different (λ j k. is_zero F (dot A cs (column j))) js js d)
            (chosen_all In (λ j k. is_zero F (dot A cs (column j))) js js ins)
            (chosen_each (λ j. dot A cs (column j) ≡ 𝟘) (λ j k. is_zero F (dot A cs (column j))) js js (there js))))
