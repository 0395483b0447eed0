-- One step of the solver: from the system to the smaller one and back. Assumes nothing.
use Rattle.std.proofs.Common.{◌≡◌, ℕ, zero, suc, ◌+◌, ◌-◌, ◌<◌, Bool, true, false, Some, None, Option, not, ◌≢◌, ◌↔◌, List, [], ◌∷◌, ◌++◌, map, length, get_or, take, drop, set, sym, ap, ◌∙◌, subst, ap₂, arith}
use borrow.Rule.Slice.PartMut.{put_mid}
use Rattle.std.specs.Bool.{then_some}
use Rattle.std.specs.List.{AllByRecursion}
use Rattle.std.proofs.lemmas.List.{take_rest, drop-drop, take_at, drop_at}
use Rattle.std.proofs.ByRecursion.{All-drop, All-get_or}
use Rattle.field.specs.Meaning.{Meaning, IsField, opposite_of, inverse_of}
use Rattle.algebra.specs.FieldOn.{Ops}
use Rattle.algebra.specs.Symbols.{numbers, Symbols}
use Rattle.algebra.specs.Vectors.{dot}
use Rattle.algebra.specs.Systems.{Solves, SolvableNumbers, lead, rest, cleared, head_unknown}
use Rattle.algebra.proofs.Systems.{lead_drop}
use Rattle.algebra.proofs.SystemsNumbers.{cleared_symbols}
use Rattle.reed_solomon.specs.Rows.{rows_from, Exchanged, Outcome}
use Rattle.reed_solomon.proofs.Rowwise.{rows_first, drop_part, length_rest}
use Rattle.reed_solomon.proofs.Outcomes.{system_same, whole_is, set_first, outcome_same, leads_zero, rows_rest, row_rest, none_left, free_unknown, pivot_none, pivot_some}

module _ (F : Meaning) (laws : IsField F) where
  abbrev N : Ops ℕ
  N = numbers F

  pub rest_symbols : (xs : List ℕ) → Symbols F xs → Symbols F (take (length xs - 1) (drop 1 xs))
  rest_symbols xs s = subst (Symbols F) (sym (take_rest xs 1)) (All-drop (λ x. x < F.q) 1 xs s)

  pub row_symbols : (c : ℕ) (r : List ℕ) → Symbols F (drop c r) → Symbols F (drop (c + 1) r)
  row_symbols c r s = subst (Symbols F) (drop-drop 1 c r) (All-drop (λ x. x < F.q) 1 (drop c r) s)

  rows_symbols : (c w n : ℕ) (xs : List ℕ) → AllByRecursion (Symbols F) (rows_from c w n xs) → AllByRecursion (Symbols F) (rows_from (c + 1) w n xs)
  rows_symbols c w zero xs s = tt
  rows_symbols c w (suc n) xs (s, ss) = (row_symbols c (take w xs) s, rows_symbols c w n (drop w xs) ss)

  rest_of : (r : List ℕ) → Symbols F r → Symbols F (rest N r)
  rest_of [] s = tt
  rest_of (x ∷ r) (h, s) = s

  left_symbols : (p : List ℕ) (rows : List (List ℕ)) → Symbols F p → AllByRecursion (Symbols F) rows → AllByRecursion (Symbols F) (map (rest N) (map (cleared N p) rows))
  left_symbols p [] sp s = tt
  left_symbols p (r ∷ rows) sp (s, ss) = (rest_of _ (cleared_symbols F laws p r sp s), left_symbols p rows sp ss)

  -- before and after an exchange of rows
  module _ (c w w' n : ℕ) (first others first' others' : List ℕ) (e : w' ≡ w) (ex : Exchanged (first ∷ rows_from 0 w n others) (first' ∷ rows_from 0 w n others')) (sf : Symbols F (drop c first)) (so : AllByRecursion (Symbols F) (rows_from c w n others)) where
    same : (P : List ℕ → Type 0) → AllByRecursion P (drop c first ∷ rows_from c w n others) ↔ AllByRecursion P (drop c first' ∷ rows_from c w' n others')
    same P = subst (λ k. AllByRecursion P (drop c first ∷ rows_from c w n others) ↔ AllByRecursion P (drop c first' ∷ rows_from c k n others')) (sym e) (system_same c w n first others first' others' ex P)

    symbols' : AllByRecursion (Symbols F) (drop c first' ∷ rows_from c w' n others')
    symbols' = (same (Symbols F)).0 (sf, so)

    pub first_symbols : Symbols F (drop c first')
    first_symbols = symbols'.0

    pub others_symbols : AllByRecursion (Symbols F) (rows_from c w' n others')
    others_symbols = symbols'.1

    pub next_symbols : AllByRecursion (Symbols F) (rows_from (c + 1) w' n others')
    next_symbols = rows_symbols c w' n others' others_symbols

    abbrev ZerosFound : Bool → Type 0
    ZerosFound r = r ≡ false → AllByRecursion (λ row. get_or row c 0 ≡ 0) (first ∷ rows_from 0 w n others)

    zeros : AllByRecursion (λ row. get_or row c 0 ≡ 0) (first ∷ rows_from 0 w n others) → AllByRecursion (λ r. lead N r ≡ 0) (drop c first ∷ rows_from c w n others)
    zeros = leads_zero F laws c w n first others

    pub no_unknowns : (xs : List ℕ) (found : Bool) → length xs ≡ 0 → Symbols F xs → ZerosFound found → (found ≡ true → get_or first' c 0 ≡ 0 → ⊥) → Outcome F (drop c first ∷ rows_from c w n others) (length xs) (then_some (not found) tt) xs
    no_unknowns xs found none s missing pivot =
        none_left F laws (drop c first ∷ rows_from c w n others) xs found none s (λ r. zeros (missing r)) (λ r h. pivot r (sym (lead_drop N first' c) ∙ ((same (λ r. lead N r ≡ 0)).0 h).0))

    -- a column without a pivot
    pub free_column : (xs ys : List ℕ) (r : Option (Unit {0})) → (length xs ≡ 0 → ⊥) → Symbols F xs → AllByRecursion (λ row. get_or row c 0 ≡ 0) (first ∷ rows_from 0 w n others) → Outcome F (drop (c + 1) first' ∷ rows_from (c + 1) w' n others') (length (take (length xs - 1) (drop 1 xs))) r ys → Outcome F (drop c first ∷ rows_from c w n others) (length xs) r (put_mid 1 (length xs - 1) xs ys)
    free_column xs ys r some s missing h =
        let S' = drop c first' ∷ rows_from c w' n others' in
        let pos : 0 < length xs = omega arith in
        let long : suc (length (take (length xs - 1) (drop 1 xs))) ≡ length xs = let l = length_rest xs in omega arith in
        let left : map (rest N) S' ≡ drop (c + 1) first' ∷ rows_from (c + 1) w' n others' = ap₂ (λ (z : List ℕ) zs. z ∷ zs) (row_rest F laws c first') (rows_rest F laws c w' n others') in
        let all_zero = (same (λ r. lead N r ≡ 0)).0 (zeros missing) in
        let hx = All-get_or (λ x. x < F.q) xs 0 0 pos s in
        let k = free_unknown F laws S' (length (take (length xs - 1) (drop 1 xs))) (get_or xs 0 0) ys r symbols' all_zero hx (subst (λ z. Outcome F z (length (take (length xs - 1) (drop 1 xs))) r ys) (sym left) h) in
        outcome_same F laws (drop c first ∷ rows_from c w n others) S' (length xs) r _ same
        (subst (λ m. Outcome F S' m r (put_mid 1 (length xs - 1) xs ys)) long (subst (λ z. Outcome F S' (suc (length (take (length xs - 1) (drop 1 xs)))) r z) (sym (whole_is (length xs - 1) xs ys pos (omega arith))) k))

    -- a column with a pivot, in first'; others'' are the other rows with that column cleared
    module _ (others'' : List ℕ) (pivot : get_or first' c 0 ≡ 0 → ⊥) (clear : rows_from c w' n others'' ≡ map (cleared N (drop c first')) (rows_from c w' n others')) where
      abbrev Left : List (List ℕ)
      Left = map (rest N) (map (cleared N (drop c first')) (rows_from c w' n others'))

      lead_pivot : lead N (drop c first') ≢ 0
      lead_pivot z = pivot (sym (lead_drop N first' c) ∙ z)

      pub left_is : (row rest' : List ℕ) (k : ℕ) → (n ≡ 0 → ⊥) → others'' ≡ row ++ rest' → length row ≡ w' → k ≡ w' → drop (c + 1) row ∷ rows_from (c + 1) k (n - 1) rest' ≡ Left
      left_is row rest' k some parts long ek =
          ap (λ z. drop (c + 1) row ∷ rows_from (c + 1) z (n - 1) rest') ek
          ∙ sym
          (sym (ap (map (rest N)) clear)
          ∙ rows_rest F laws c w' n others''
          ∙ ap (rows_from (c + 1) w' n) parts
          ∙ rows_first (c + 1) w' n (row ++ rest') some
          ∙ ap₂ (λ t d. drop (c + 1) t ∷ rows_from (c + 1) w' (n - 1) d) (take_at row rest' w' long) (drop_at row rest' w' long))

      pub left_good : (row rest' : List ℕ) (k : ℕ) → (n ≡ 0 → ⊥) → others'' ≡ row ++ rest' → length row ≡ w' → k ≡ w' → AllByRecursion (Symbols F) (drop (c + 1) row ∷ rows_from (c + 1) k (n - 1) rest')
      left_good row rest' k some parts long ek =
          subst (AllByRecursion (Symbols F)) (sym (left_is row rest' k some parts long ek)) (left_symbols (drop c first') (rows_from c w' n others') first_symbols others_symbols)

      pub no_solution : (xs ys row rest' : List ℕ) (k : ℕ) → (length xs ≡ 0 → ⊥) → (n ≡ 0 → ⊥) → others'' ≡ row ++ rest' → length row ≡ w' → k ≡ w' → Outcome F (drop (c + 1) row ∷ rows_from (c + 1) k (n - 1) rest') (length (take (length xs - 1) (drop 1 xs))) None ys → SolvableNumbers F (length xs) (drop c first ∷ rows_from c w n others) → ⊥
      no_solution xs ys row rest' k pos some parts long ek h =
          let S' = drop c first' ∷ rows_from c w' n others' in
          let more : suc (length (take (length xs - 1) (drop 1 xs))) ≡ length xs = let l = length_rest xs in omega arith in
          outcome_same F laws (drop c first ∷ rows_from c w n others) S' (length xs) None ys same
          (subst (λ m. Outcome F S' m None ys) more
          (pivot_none F laws (drop c first') (rows_from c w' n others') first_symbols others_symbols lead_pivot (length (take (length xs - 1) (drop 1 xs))) ys ys
          (subst (λ z. Outcome F z (length (take (length xs - 1) (drop 1 xs))) None ys) (left_is row rest' k some parts long ek) h)))

      -- the unknowns after the first solve what is left
      abbrev pub RestSolved : List ℕ → Type 0
      RestSolved xs = Symbols F (drop 1 xs) × Solves N Left (drop 1 xs)

      pub rest_found : (xs xs' ys row rest' : List ℕ) (k m : ℕ) → (length xs ≡ 0 → ⊥) → (n ≡ 0 → ⊥) → others'' ≡ row ++ rest' → length row ≡ w' → k ≡ w' → xs' ≡ put_mid 1 (length xs - 1) xs ys → Outcome F (drop (c + 1) row ∷ rows_from (c + 1) k (n - 1) rest') m (Some tt) ys → RestSolved xs'
      rest_found xs xs' ys row rest' k m pos some parts long ek is (s, h) =
          let tail : ys ≡ drop 1 xs' = sym (ap (drop 1) is ∙ drop_part 1 (length xs - 1) xs ys (omega arith) (omega arith)) in
          (subst (Symbols F) tail s, subst (Solves N Left) tail (subst (λ z. Solves N z ys) (left_is row rest' k some parts long ek) h))

      pub rest_free : (xs xs' : List ℕ) → n ≡ 0 → Symbols F xs → xs' ≡ xs → RestSolved xs'
      rest_free xs xs' none s is = (
        All-drop (λ x. x < F.q) 1 xs' (subst (Symbols F) (sym is) s),
        subst (λ z. Solves N (map (rest N) (map (cleared N (drop c first')) (rows_from c w' z others'))) (drop 1 xs')) (sym none) tt,
      )

      pub solution : (xs : List ℕ) (m i v : ℕ) → 0 < length xs → RestSolved xs → i ≡ inverse_of F (get_or first' c 0)
          → v ≡ F.product i (F.sum (get_or (take (length first' - (c + 1)) (drop (c + 1) first')) (length (take (length xs - 1) (drop 1 xs))) 0) (opposite_of F (dot N (take (length first' - (c + 1)) (drop (c + 1) first')) (take (length xs - 1) (drop 1 xs)))))
          → Outcome F (drop c first ∷ rows_from c w n others) m (Some tt) (set xs 0 v)
      solution xs m i v pos (s, h) ei ev =
          let S' = drop c first' ∷ rows_from c w' n others' in
          let row : take (length first' - (c + 1)) (drop (c + 1) first') ≡ rest N (drop c first') = take_rest first' (c + 1) ∙ sym (row_rest F laws c first') in
          let is : v ≡ head_unknown N (drop c first') (drop 1 xs)
          = ev
          ∙ ap₂ (λ a b. F.product a b) (ei ∙ ap (inverse_of F) (sym (lead_drop N first' c)))
          (ap₂ (λ (r : List ℕ) (ys : List ℕ). F.sum (get_or r (length ys) 0) (opposite_of F (dot N r ys))) row (take_rest xs 1)) in
          outcome_same F laws (drop c first ∷ rows_from c w n others) S' m (Some tt) _ same
          (subst (λ z. Outcome F S' m (Some tt) z) (sym (set_first xs v pos)) (pivot_some F laws (drop c first') (rows_from c w' n others') first_symbols others_symbols lead_pivot m v (drop 1 xs) s h is))
