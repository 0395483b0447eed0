-- What elimination keeps of the solutions of a linear system, and that it decides whether there is one. Assumes nothing.
use Rattle.std.proofs.Common.{◌≡◌, ℕ, zero, suc, ◌≢◌, ◌↔◌, List, [], ◌∷◌, ◌++◌, map, length, get_or, drop, sym, refl, ap, ◌∙◌, subst, arith}
use Rattle.std.specs.List.{AllZip, AllByRecursion}
use Rattle.std.proofs.ByRecursion.{All-map}
use Rattle.algebra.specs.FieldOn.{Ops, FieldOn}
use Rattle.algebra.specs.Vectors.{plus, times, dot}
use Rattle.algebra.specs.Systems.{Meets, Solves, Solvable, lead, rest, cleared, head_unknown, Cleared}
use Rattle.algebra.proofs.Ring.{ring, ⊕-zero, zero-⊕, ⊙-zero, zero-⊙, ⊙-inv_left, solved}
use Rattle.algebra.proofs.Vectors.{plus_nil, dot_plus, dot_times, getD_plus, getD_times}
use Rattle.algebra.proofs.Everywhere.{all_each, all_both}

-- rows may stand in any order
pub all_to_front : {X : Type 0} (P : X → Type 0) (u : List X) (p : X) (v : List X) → AllByRecursion P (u ++ (p ∷ v)) → P p × AllByRecursion P (u ++ v)
all_to_front P [] p v h = h
all_to_front P (x ∷ u) p v (h, hs) = let k = all_to_front P u p v hs in (k.0, (h, k.1))

pub all_from_front : {X : Type 0} (P : X → Type 0) (u : List X) (p : X) (v : List X) → P p → AllByRecursion P (u ++ v) → AllByRecursion P (u ++ (p ∷ v))
all_from_front P [] p v h hs = (h, hs)
all_from_front P (x ∷ u) p v h (k, ks) = (k, all_from_front P u p v h ks)

pub all_unmap : {X Y : Type 0} (P : X → Type 0) (f : Y → X) (ys : List Y) → AllByRecursion P (map f ys) → AllByRecursion (λ y. P (f y)) ys
all_unmap P f [] h = tt
all_unmap P f (y ∷ ys) (h, hs) = (h, all_unmap P f ys hs)

module _ {K : Type 0} (A : Ops K) where
  pub lead_drop : (r : List K) (c : ℕ) → lead A (drop c r) ≡ get_or r c A.zero
  lead_drop [] zero = refl
  lead_drop [] (suc c) = refl
  lead_drop (a ∷ r) zero = refl
  lead_drop (a ∷ r) (suc c) = lead_drop r c

  pub rest_drop : (r : List K) (c : ℕ) → rest A (drop c r) ≡ drop (suc c) r
  rest_drop [] zero = refl
  rest_drop [] (suc c) = refl
  rest_drop (a ∷ r) zero = refl
  rest_drop (a ∷ r) (suc c) = rest_drop r c

  -- any row of the system may stand in front
  pub solves_front : (u : List (List K)) (p : List K) (v : List (List K)) (xs : List K) → Solves A (u ++ (p ∷ v)) xs ↔ Solves A (p ∷ (u ++ v)) xs
  solves_front u p v xs =
      ((λ h. all_to_front (λ r. Meets A r xs) u p v h), (λ (h, hs). all_from_front (λ r. Meets A r xs) u p v h hs))

  -- two rows exchanged
  pub solves_exchange : (r : List K) (u : List (List K)) (p : List K) (v : List (List K)) (xs : List K) → Solves A (r ∷ (u ++ (p ∷ v))) xs ↔ Solves A (p ∷ (u ++ (r ∷ v))) xs
  solves_exchange r u p v xs = (
    (λ (h, hs). let k = (solves_front u p v xs).0 hs in (k.0, (solves_front u r v xs).1 (h, k.1))),
    (λ (h, hs). let k = (solves_front u r v xs).0 hs in (k.0, (solves_front u p v xs).1 (h, k.1))),
  )

  dot_none : (r : List K) → dot A r [] ≡ A.zero
  dot_none [] = refl
  dot_none (a ∷ r) = refl

  -- with no unknowns left, the right-hand sides are 0
  pub solves_none : (rows : List (List K)) → Solves A rows [] ↔ AllByRecursion (λ r. lead A r ≡ A.zero) rows
  solves_none rows = (
    all_each (λ r. Meets A r []) (λ r. lead A r ≡ A.zero) (λ r h. lead_is r ∙ sym h ∙ dot_none r) rows,
    all_each (λ r. lead A r ≡ A.zero) (λ r. Meets A r []) (λ r h. dot_none r ∙ sym h ∙ lead_is r) rows,
  )
    where
      lead_is : (r : List K) → lead A r ≡ get_or r 0 A.zero
      lead_is [] = refl
      lead_is (a ∷ r) = refl

module _ {K : Type 0} (F : FieldOn K) where
  infixl 65 ◌⊕◌
  infixl 70 ◌⊙◌
  open F.ops use {zero as 𝟘, one as 𝟙, add as ◌⊕◌, mul as ◌⊙◌, neg as ⊖, inv}

  abbrev A : Ops K
  A = F.ops

  pub lead_plus : (r s : List K) → lead A (plus A r s) ≡ lead A r ⊕ lead A s
  lead_plus [] s = sym (zero-⊕ F _)
  lead_plus (a ∷ r) [] = sym (⊕-zero F a)
  lead_plus (a ∷ r) (b ∷ s) = refl

  pub lead_times : (c : K) (r : List K) → lead A (times A c r) ≡ c ⊙ lead A r
  lead_times c [] = sym (⊙-zero F c)
  lead_times c (a ∷ r) = refl

  pub rest_plus : (r s : List K) → rest A (plus A r s) ≡ plus A (rest A r) (rest A s)
  rest_plus [] s = refl
  rest_plus (a ∷ r) [] = sym (plus_nil F r)
  rest_plus (a ∷ r) (b ∷ s) = refl

  pub rest_times : (c : K) (r : List K) → rest A (times A c r) ≡ times A c (rest A r)
  rest_times c [] = refl
  rest_times c (a ∷ r) = refl

  -- rows that are met stay so under sums and multiples
  pub meets_plus : (r s xs : List K) → Meets A r xs → Meets A s xs → Meets A (plus A r s) xs
  meets_plus r s xs h k =
      dot_plus F r s xs ∙ ap (λ z. z ⊕ dot A s xs) h ∙ ap (λ z. get_or r (length xs) 𝟘 ⊕ z) k ∙ sym (getD_plus F r s (length xs))

  pub meets_times : (c : K) (r xs : List K) → Meets A r xs → Meets A (times A c r) xs
  meets_times c r xs h = dot_times F c r xs ∙ ap (λ z. c ⊙ z) h ∙ sym (getD_times F c r (length xs))

  cancel_right : {a b c d : K} → c ≡ d → a ⊕ c ≡ b ⊕ d → a ≡ b
  cancel_right {a} {b} {c} {d} e h = (simp ring) ∙ ap (λ z. z ⊕ ⊖ c) h ∙ ap (λ z. b ⊕ d ⊕ ⊖ z) e ∙ (simp ring)

  -- a multiple of a row that is met can be added to another row, and taken off again
  pub meets_unplus : (c : K) (p r xs : List K) → Meets A p xs → Meets A (plus A r (times A c p)) xs → Meets A r xs
  meets_unplus c p r xs h k =
      cancel_right (meets_times c p xs h) (sym (dot_plus F r (times A c p) xs) ∙ k ∙ getD_plus F r (times A c p) (length xs))

  -- a row, by its first entry
  pub meets_cons : (r : List K) (x : K) (xs : List K) → Meets A r (x ∷ xs) ↔ (lead A r ⊙ x ⊕ dot A (rest A r) xs ≡ get_or (rest A r) (length xs) 𝟘)
  meets_cons [] x xs = ((λ h. ⊕-zero F _ ∙ zero-⊙ F x), (λ h. refl))
  meets_cons (a ∷ r) x xs = ((λ h. h), (λ h. h))

  zero_first : (a x d : K) → a ≡ 𝟘 → a ⊙ x ⊕ d ≡ d
  zero_first a x d e = ap (λ z. z ⊙ x ⊕ d) e ∙ ap (λ z. z ⊕ d) (zero-⊙ F x) ∙ zero-⊕ F d

  -- where the first entry is 0, the first unknown is free
  pub meets_zero_lead : (r : List K) (x : K) (xs : List K) → lead A r ≡ 𝟘 → Meets A r (x ∷ xs) ↔ Meets A (rest A r) xs
  meets_zero_lead r x xs e = (
    (λ h. sym (zero_first (lead A r) x (dot A (rest A r) xs) e) ∙ (meets_cons r x xs).0 h),
    (λ h. (meets_cons r x xs).1 (zero_first (lead A r) x (dot A (rest A r) xs) e ∙ h)),
  )

  pub solves_zero_column : (rows : List (List K)) (x : K) (xs : List K) → AllByRecursion (λ r. lead A r ≡ 𝟘) rows → Solves A rows (x ∷ xs) ↔ Solves A (map (rest A) rows) xs
  solves_zero_column rows x xs z = (
    (λ h. All-map (λ r. Meets A r xs) (rest A) rows (all_both (λ r. lead A r ≡ 𝟘) (λ r. Meets A r (x ∷ xs)) (λ r. Meets A (rest A r) xs) (λ r e m. (meets_zero_lead r x xs e).0 m) rows z h)),
    (λ h. all_both (λ r. lead A r ≡ 𝟘) (λ r. Meets A (rest A r) xs) (λ r. Meets A r (x ∷ xs)) (λ r e m. (meets_zero_lead r x xs e).1 m) rows z (all_unmap (λ r. Meets A r xs) (rest A) rows h)),
  )

  head_step : (a x d b : K) → a ⊙ x ⊕ d ≡ b → a ⊙ x ≡ b ⊕ ⊖ d
  head_step a x d b e = (simp ring) ∙ ap (λ z. z ⊕ ⊖ d) e

  head_back : (a x d b : K) → a ⊙ x ≡ b ⊕ ⊖ d → a ⊙ x ⊕ d ≡ b
  head_back a x d b e = ap (λ z. z ⊕ d) e ∙ (simp ring)

  -- the pivot row determines the first unknown
  pub meets_pivot : (p : List K) (x : K) (xs : List K) → lead A p ≢ 𝟘 → Meets A p (x ∷ xs) ↔ (x ≡ head_unknown A p xs)
  meets_pivot p x xs n = (
    (λ h. solved F n (head_step (lead A p) x (dot A (rest A p) xs) (get_or (rest A p) (length xs) 𝟘) ((meets_cons p x xs).0 h))),
    (λ h. (meets_cons p x xs).1 (head_back (lead A p) x (dot A (rest A p) xs) (get_or (rest A p) (length xs) 𝟘) (ap (λ z. lead A p ⊙ z) h ∙ ⊙-inv_left F (lead A p) _ n))),
  )

  cleared_step : (a b i : K) → b ⊙ i ≡ 𝟙 → a ⊕ ⊖ (a ⊙ i) ⊙ b ≡ 𝟘
  cleared_step a b i e = (simp ring) ∙ ap (λ z. a ⊕ ⊖ (a ⊙ z)) e ∙ (simp ring)

  pub cleared_is : (p r : List K) → lead A p ≢ 𝟘 → Cleared A p r (cleared A p r)
  cleared_is p r n = record {
    factor = ⊖ (lead A r ⊙ inv (lead A p));
    is = refl;
    zero_lead =
        lead_plus r (times A (⊖ (lead A r ⊙ inv (lead A p))) p)
        ∙ ap (λ z. lead A r ⊕ z) (lead_times (⊖ (lead A r ⊙ inv (lead A p))) p)
        ∙ cleared_step (lead A r) (lead A p) (inv (lead A p)) (F.product_inv (lead A p) n);
  }

  -- beside the pivot row, a row and its cleared form say the same
  pub meets_cleared : (p r s xs : List K) → Cleared A p r s → Meets A p xs → Meets A r xs ↔ Meets A s xs
  meets_cleared p r s xs c h = (
    (λ m. subst (λ z. Meets A z xs) (sym c.is) (meets_plus r (times A c.factor p) xs m (meets_times c.factor p xs h))),
    (λ m. meets_unplus c.factor p r xs h (subst (λ z. Meets A z xs) c.is m)),
  )

  solves_clear : (p : List K) (rows ss : List (List K)) (x : K) (xs : List K) → AllZip (Cleared A p) rows ss → Meets A p (x ∷ xs) → Solves A rows (x ∷ xs) ↔ Solves A (map (rest A) ss) xs
  solves_clear p [] [] x xs c h = ((λ t. tt), (λ t. tt))
  solves_clear p [] (s ∷ ss) x xs c h = absurd c
  solves_clear p (r ∷ rows) [] x xs c h = absurd c
  solves_clear p (r ∷ rows) (s ∷ ss) x xs (c, cs) h =
      let m = meets_cleared p r s (x ∷ xs) c h in
      let z = meets_zero_lead s x xs c.zero_lead in
      let ih = solves_clear p rows ss x xs cs h in
      ((λ (k, ks). (z.0 (m.0 k), ih.0 ks)), (λ (k, ks). (m.1 (z.1 k), ih.1 ks)))

  -- With the pivot row cleared from the others: the rest solves the cleared rest, and the pivot row tells the first unknown.
  pub solves_pivot : (p : List K) (rows ss : List (List K)) (x : K) (xs : List K) → lead A p ≢ 𝟘 → AllZip (Cleared A p) rows ss → Solves A (p ∷ rows) (x ∷ xs) ↔ ((x ≡ head_unknown A p xs) × Solves A (map (rest A) ss) xs)
  solves_pivot p rows ss x xs n c = (
    (λ (h, hs). ((meets_pivot p x xs n).0 h, (solves_clear p rows ss x xs c h).0 hs)),
    (λ (e, hs). let h = (meets_pivot p x xs n).1 e in (h, (solves_clear p rows ss x xs c h).1 hs)),
  )

  pub each_cleared : (p : List K) (rows : List (List K)) → lead A p ≢ 𝟘 → AllZip (Cleared A p) rows (map (cleared A p) rows)
  each_cleared p [] n = tt
  each_cleared p (r ∷ rows) n = (cleared_is p r n, each_cleared p rows n)

  pub solvable_none : (rows : List (List K)) → Solvable A 0 rows ↔ AllByRecursion (λ r. lead A r ≡ 𝟘) rows
  solvable_none rows = ((λ s. go s.0 s.1 s.2), (λ h. ([], refl, (solves_none A rows).1 h)))
    where
      go : (xs : List K) → length xs ≡ 0 → Solves A rows xs → AllByRecursion (λ r. lead A r ≡ 𝟘) rows
      go [] e h = (solves_none A rows).0 h
      go (x ∷ xs) e h = absurd (omega arith)

  -- a column of zeros: the unknown may be 0
  pub solvable_zero_column : (n : ℕ) (rows : List (List K)) → AllByRecursion (λ r. lead A r ≡ 𝟘) rows → Solvable A (suc n) rows ↔ Solvable A n (map (rest A) rows)
  solvable_zero_column n rows z = (
    (λ s. go s.0 s.1 s.2),
    (λ s. (𝟘 ∷ s.0, ap suc s.1, (solves_zero_column rows 𝟘 s.0 z).1 s.2)),
  )
    where
      go : (xs : List K) → length xs ≡ suc n → Solves A rows xs → Solvable A n (map (rest A) rows)
      go [] e h = absurd (omega arith)
      go (x ∷ xs) e h = (xs, omega arith, (solves_zero_column rows x xs z).0 h)

  -- a pivot: as solvable as what is left with one unknown fewer
  pub solvable_pivot : (n : ℕ) (p : List K) (rows ss : List (List K)) → lead A p ≢ 𝟘 → AllZip (Cleared A p) rows ss → Solvable A (suc n) (p ∷ rows) ↔ Solvable A n (map (rest A) ss)
  solvable_pivot n p rows ss k c = (
    (λ s. go s.0 s.1 s.2),
    (λ s. (head_unknown A p s.0 ∷ s.0, ap suc s.1, (solves_pivot p rows ss _ s.0 k c).1 (refl, s.2))),
  )
    where
      go : (xs : List K) → length xs ≡ suc n → Solves A (p ∷ rows) xs → Solvable A n (map (rest A) ss)
      go [] e h = absurd (omega arith)
      go (x ∷ xs) e h = (xs, omega arith, ((solves_pivot p rows ss x xs k c).0 h).1)

  -- a row with a first entry that is not 0, if there is one
  pub data Search (rows : List (List K)) : Type 0 where
    none : AllByRecursion (λ r. lead A r ≡ 𝟘) rows → Search rows
    found : (u : List (List K)) (p : List K) (v : List (List K)) → lead A p ≢ 𝟘 → rows ≡ u ++ (p ∷ v) → Search rows

  pub find_pivot : (rows : List (List K)) → Search rows
  find_pivot [] = none tt
  find_pivot (r ∷ rows) = go (F.same? (lead A r) 𝟘) (find_pivot rows)
    where
      go : Dec (lead A r ≡ 𝟘) → Search rows → Search (r ∷ rows)
      go (no n) s = found [] r rows n refl
      go (yes e) (none h) = none (e, h)
      go (yes e) (found u p v n q) = found (r ∷ u) p v n (ap (λ z. r ∷ z) q)

  -- Elimination decides whether a system has a solution, and gives one.
  pub solvable? : (n : ℕ) (rows : List (List K)) → Dec (Solvable A n rows)
  solvable? zero rows = go (find_pivot rows)
    where
      go : Search rows → Dec (Solvable A 0 rows)
      go (none h) = yes ((solvable_none rows).1 h)
      go (found u p v n q) = no (λ s. n (all_to_front (λ r. lead A r ≡ 𝟘) u p v (subst (AllByRecursion (λ r. lead A r ≡ 𝟘)) q ((solvable_none rows).0 s))).0)
  solvable? (suc n) rows = go (find_pivot rows) (solvable? n)
    where
      carry : {P Q : Type 0} → P ↔ Q → Dec Q → Dec P
      carry e (yes q) = yes (e.1 q)
      carry e (no k) = no (λ p. k (e.0 p))

      front : (u : List (List K)) (p : List K) (v : List (List K)) → rows ≡ u ++ (p ∷ v) → Solvable A (suc n) rows ↔ Solvable A (suc n) (p ∷ (u ++ v))
      front u p v q = (
        (λ s. (s.0, s.1, (solves_front A u p v s.0).0 (subst (λ z. Solves A z s.0) q s.2))),
        (λ s. (s.0, s.1, subst (λ z. Solves A z s.0) (sym q) ((solves_front A u p v s.0).1 s.2))),
      )

      go : Search rows → ((rs : List (List K)) → Dec (Solvable A n rs)) → Dec (Solvable A (suc n) rows)
      go (none h) ih = carry (solvable_zero_column n rows h) (ih (map (rest A) rows))
      go (found u p v k q) ih =
          carry (front u p v q)
          (carry (solvable_pivot n p (u ++ v) (map (cleared A p) (u ++ v)) k (each_cleared p (u ++ v) k))
          (ih (map (rest A) (map (cleared A p) (u ++ v)))))
