-- The two systems of the corrector, as rows, say what they should. Assumes nothing.
use Rattle.std.proofs.Common.{◌≡◌, ℕ, zero, suc, ◌+◌, ◌≤◌, ◌↔◌, List, [], ◌∷◌, ◌++◌, length, get_or, take, drop, sym, refl, ap, ◌∙◌, subst, arith, length-append, length-drop, take-append-drop, length-take}
use Rattle.std.specs.List.{AllZip}
use Rattle.algebra.specs.FieldOn.{Ops, FieldOn}
use Rattle.algebra.specs.Vectors.{times, opposite, dot}
use Rattle.algebra.specs.Polynomials.{value, monic}
use Rattle.algebra.specs.Systems.{Meets, Solves}
use Rattle.algebra.specs.Correction.{Located, Agrees, power, powers_from, powers, locator_row, message_row, rows_of, locator_rows, message_rows}
use Rattle.algebra.proofs.Ring.{ring, ⊙-zero, one-⊙}
use Rattle.algebra.proofs.Vectors.{dot_append, dot_times, opposite_times, length_times, length_opposite}

module _ {K : Type 0} (F : FieldOn K) where
  infixl 65 ◌⊕◌
  infixl 70 ◌⊙◌
  open F.ops use {zero as 𝟘, one as 𝟙, add as ◌⊕◌, mul as ◌⊙◌, neg as ⊖}

  abbrev A : Ops K
  A = F.ops

  pub length_powers : (p x : K) (n : ℕ) → length (powers_from A p x n) ≡ n
  length_powers p x zero = refl
  length_powers p x (suc n) = ap suc (length_powers (p ⊙ x) x n)

  powers_step : (p c x v : K) → p ⊙ c ⊕ p ⊙ x ⊙ v ≡ p ⊙ (c ⊕ x ⊙ v)
  powers_step p c x v = simp ring

  -- the powers of x times the coefficients give the value
  pub dot_powers_from : (p x : K) (n : ℕ) (f : List K) → length f ≤ n → dot A (powers_from A p x n) f ≡ p ⊙ value A f x
  dot_powers_from p x zero [] l = sym (⊙-zero F p)
  dot_powers_from p x zero (c ∷ f) l = absurd (omega arith)
  dot_powers_from p x (suc n) [] l = sym (⊙-zero F p)
  dot_powers_from p x (suc n) (c ∷ f) l = ap (λ z. p ⊙ c ⊕ z) (dot_powers_from (p ⊙ x) x n f (omega arith)) ∙ powers_step p c x _

  pub dot_powers : (x : K) (n : ℕ) (f : List K) → length f ≤ n → dot A (powers A x n) f ≡ value A f x
  dot_powers x n f l = dot_powers_from 𝟙 x n f l ∙ one-⊙ F _

  monic_end : (x : K) → 𝟙 ⊕ x ⊙ 𝟘 ≡ 𝟘 ⊕ 𝟙
  monic_end x = simp ring

  monic_step : (c x v w : K) → c ⊕ x ⊙ (v ⊕ w) ≡ c ⊕ x ⊙ v ⊕ x ⊙ w
  monic_step c x v w = simp ring

  pub value_monic : (l : List K) (x : K) → value A (monic A l) x ≡ value A l x ⊕ power A x (length l)
  value_monic [] x = monic_end x
  value_monic (c ∷ l) x = ap (λ z. c ⊕ x ⊙ z) (value_monic l x) ∙ monic_step c x _ _

  pub dot_before : (r s xs : List K) → length r ≡ length xs → dot A (r ++ s) xs ≡ dot A r xs
  dot_before [] [] [] e = refl
  dot_before [] (a ∷ s) [] e = refl
  dot_before [] s (x ∷ xs) e = absurd (omega arith)
  dot_before (a ∷ r) s [] e = absurd (omega arith)
  dot_before (a ∷ r) s (x ∷ xs) e = ap (λ z. a ⊙ x ⊕ z) (dot_before r s xs (omega arith))

  pub get_d_after : (r : List K) (b d : K) (n : ℕ) → length r ≡ n → get_or (r ++ (b ∷ [])) n d ≡ b
  get_d_after [] b d zero e = refl
  get_d_after [] b d (suc n) e = absurd (omega arith)
  get_d_after (a ∷ r) b d zero e = absurd (omega arith)
  get_d_after (a ∷ r) b d (suc n) e = get_d_after r b d n (omega arith)

  -- a row of coefficients and a right-hand side
  pub meets_row : (r xs : List K) (b : K) → length r ≡ length xs → Meets A (r ++ (b ∷ [])) xs ↔ (dot A r xs ≡ b)
  meets_row r xs b e = (
    (λ h. sym (dot_before r (b ∷ []) xs e) ∙ h ∙ get_d_after r b 𝟘 (length xs) e),
    (λ h. dot_before r (b ∷ []) xs e ∙ h ∙ sym (get_d_after r b 𝟘 (length xs) e)),
  )

  locator_left : (t n : ℕ) (x y : K) (l N : List K) → length l ≡ t → length N ≡ n → dot A (times A y (powers A x t) ++ opposite A (powers A x n)) (l ++ N) ≡ y ⊙ value A l x ⊕ ⊖ 𝟙 ⊙ value A N x
  locator_left t n x y l N el eN =
      let a = length_times F y (powers A x t) in
      let b = length_powers 𝟙 x t in
      dot_append F (times A y (powers A x t)) (opposite A (powers A x n)) l N (omega arith)
      ∙ ap (λ z. z ⊕ dot A (opposite A (powers A x n)) N) (dot_times F y (powers A x t) l ∙ ap (λ z. y ⊙ z) (dot_powers x t l (omega arith)))
      ∙ ap (λ z. y ⊙ value A l x ⊕ z) (ap (λ z. dot A z N) (opposite_times F (powers A x n)) ∙ dot_times F (⊖ 𝟙) (powers A x n) N ∙ ap (λ z. ⊖ 𝟙 ⊙ z) (dot_powers x n N (omega arith)))

  move_over : (y v w N : K) → y ⊙ v ⊕ ⊖ 𝟙 ⊙ N ≡ ⊖ (y ⊙ w) → y ⊙ (v ⊕ w) ≡ N
  move_over y v w N h = (simp ring) ∙ ap (λ z. z ⊕ (N ⊕ y ⊙ w)) h ∙ (simp ring)

  move_back : (y v w N : K) → y ⊙ (v ⊕ w) ≡ N → y ⊙ v ⊕ ⊖ 𝟙 ⊙ N ≡ ⊖ (y ⊙ w)
  move_back y v w N h = ap (λ z. y ⊙ v ⊕ ⊖ 𝟙 ⊙ z) (sym h) ∙ (simp ring)

  pub meets_locator_row : (t n : ℕ) (x y : K) (l N : List K) → length l ≡ t → length N ≡ n → Meets A (locator_row A t n x y) (l ++ N) ↔ (y ⊙ value A (monic A l) x ≡ value A N x)
  meets_locator_row t n x y l N el eN =
      let a = length_times F y (powers A x t) in
      let b = length_powers 𝟙 x t in
      let c = length_opposite F (powers A x n) in
      let d = length_powers 𝟙 x n in
      let s = length-append (times A y (powers A x t)) (opposite A (powers A x n)) in
      let u = length-append l N in
      let same : length (times A y (powers A x t) ++ opposite A (powers A x n)) ≡ length (l ++ N) = omega arith in
      let row = meets_row (times A y (powers A x t) ++ opposite A (powers A x n)) (l ++ N) (⊖ (y ⊙ power A x t)) same in
      let left = locator_left t n x y l N el eN in
      let m : value A (monic A l) x ≡ value A l x ⊕ power A x t = value_monic l x ∙ ap (λ z. value A l x ⊕ power A x z) el in (
        (λ h. ap (λ z. y ⊙ z) m ∙ move_over y (value A l x) (power A x t) (value A N x) (sym left ∙ row.0 h)),
        (λ h. row.1 (left ∙ move_back y (value A l x) (power A x t) (value A N x) (ap (λ z. y ⊙ z) (sym m) ∙ h))),
      )

  pub meets_message_row : (k : ℕ) (e x y : K) (f : List K) → length f ≡ k → Meets A (message_row A k e x y) f ↔ (e ⊙ value A f x ≡ e ⊙ y)
  meets_message_row k e x y f ef =
      let a = length_times F e (powers A x k) in
      let b = length_powers 𝟙 x k in
      let row = meets_row (times A e (powers A x k)) f (e ⊙ y) (omega arith) in
      let left : dot A (times A e (powers A x k)) f ≡ e ⊙ value A f x = dot_times F e (powers A x k) f ∙ ap (λ z. e ⊙ z) (dot_powers x k f (omega arith)) in
      ((λ h. sym left ∙ row.0 h), (λ h. row.1 (left ∙ h)))

  -- one row for each pair
  pub solves_rows : (row : K → K → List K) (R : K → K → Type 0) (xs : List K) → ((x y : K) → Meets A (row x y) xs ↔ R x y) → (points ys : List K) → length points ≡ length ys → Solves A (rows_of A row points ys) xs ↔ AllZip R points ys
  solves_rows row R xs h [] [] e = ((λ s. tt), (λ s. tt))
  solves_rows row R xs h [] (y ∷ ys) e = absurd (omega arith)
  solves_rows row R xs h (x ∷ points) [] e = absurd (omega arith)
  solves_rows row R xs h (x ∷ points) (y ∷ ys) e =
      let ih = solves_rows row R xs h points ys (omega arith) in
      ((λ (a, b). ((h x y).0 a, ih.0 b)), (λ (a, b). ((h x y).1 a, ih.1 b)))

  -- the first system: its solutions are the pairs E, N
  pub solves_locator : (t n : ℕ) (points ys l N : List K) → length points ≡ length ys → length l ≡ t → length N ≡ n → Solves A (locator_rows A t n points ys) (l ++ N) ↔ Located A points ys l N
  solves_locator t n points ys l N e el eN =
      solves_rows (locator_row A t n) (λ x y. y ⊙ value A (monic A l) x ≡ value A N x) (l ++ N) (λ x y. meets_locator_row t n x y l N el eN) points ys e

  -- the same of one list of t + n unknowns
  pub solves_locator_parts : (t n : ℕ) (points ys xs : List K) → length points ≡ length ys → length xs ≡ t + n → Solves A (locator_rows A t n points ys) xs ↔ Located A points ys (take t xs) (drop t xs)
  solves_locator_parts t n points ys xs e ex =
      let a = length-take t xs in
      let b = length-drop t xs in
      subst (λ z. Solves A (locator_rows A t n points ys) z ↔ Located A points ys (take t xs) (drop t xs)) (take-append-drop t xs)
      (solves_locator t n points ys (take t xs) (drop t xs) e (omega arith) (omega arith))

  -- the second system: its solutions are the polynomials that agree with the word where E is not 0
  pub solves_message : (k : ℕ) (points ys l f : List K) → length points ≡ length ys → length f ≡ k → Solves A (message_rows A k l points ys) f ↔ Agrees A points ys l f
  solves_message k points ys l f e ef =
      solves_rows (λ x y. message_row A k (value A (monic A l) x) x y) (λ x y. value A (monic A l) x ⊙ value A f x ≡ value A (monic A l) x ⊙ y) f
      (λ x y. meets_message_row k (value A (monic A l) x) x y f ef) points ys e
