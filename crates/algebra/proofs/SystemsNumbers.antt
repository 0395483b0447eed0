-- What elimination keeps of the solutions of a system of numbers, from the same over the field on the symbols. Assumes nothing.
use Rattle.std.proofs.Common.{◌≡◌, ℕ, suc, ◌<◌, ◌≢◌, ◌↔◌, List, [], ◌∷◌, map, length, get_or, sym, refl, ap, ◌∙◌, subst, arith}
use lib.ListN.{length-map, get_or-map}
use Rattle.std.specs.List.{AllByRecursion}
use Rattle.field.specs.Meaning.{Meaning, IsField, opposite_of, inverse_of}
use Rattle.algebra.specs.FieldOn.{Ops, FieldOn}
use Rattle.algebra.specs.Symbols.{numbers, Symbols, Below, val}
use Rattle.algebra.specs.Vectors.{dot}
use Rattle.algebra.specs.Systems.{Meets, Solves, Solvable, SolvableNumbers, lead, rest, cleared, head_unknown}
use Rattle.algebra.proofs.Bridge.{over, to, vals_tos, vals_below, val_injective}
use Rattle.algebra.proofs.Crossing.{val_respects, dot_map, lead_map, rest_map, cleared_map}
use Rattle.algebra.proofs.Vectors.{cons_path}
use Rattle.algebra.proofs.OverNumbers.{from_symbols}
use Rattle.algebra.proofs.Systems.{each_cleared, solves_zero_column, solves_pivot, solves_none}

module _ (F : Meaning) (laws : IsField F) where
  abbrev G : FieldOn (Below F.q)
  G = over F laws

  abbrev A : Ops (Below F.q)
  A = G.ops

  abbrev N : Ops ℕ
  N = numbers F

  rows_back : (rows : List (List ℕ)) → AllByRecursion (Symbols F) rows → map (λ r. map val r) (map (λ r. map (to F laws) r) rows) ≡ rows
  rows_back [] s = refl
  rows_back (r ∷ rows) (s, ss) = cons_path (vals_tos F laws r s) (rows_back rows ss)

  -- a statement on all rows of symbols holds if it holds on the numbers of rows over the field
  pub from_rows : (P : List (List ℕ) → Type 0) → ((rows : List (List (Below F.q))) → P (map (λ r. map val r) rows)) → (rows : List (List ℕ)) → AllByRecursion (Symbols F) rows → P rows
  from_rows P h rows s = subst P (rows_back rows s) (h (map (λ r. map (to F laws) r) rows))

  getD_val : (r xs : List (Below F.q)) → get_or (map val r) (length (map val xs)) 0 ≡ val (get_or r (length xs) A.zero)
  getD_val r xs = ap (λ n. get_or (map val r) n 0) (length-map xs (val {q = F.q})) ∙ get_or-map (val {q = F.q}) r (length xs) A.zero

  pub meets_val : (r xs : List (Below F.q)) → Meets A r xs ↔ Meets N (map val r) (map val xs)
  meets_val r xs = (
    (λ h. sym (dot_map A N val (val_respects F laws) r xs) ∙ ap (λ (a : Below F.q). val a) h ∙ sym (getD_val r xs)),
    (λ h. val_injective (dot_map A N val (val_respects F laws) r xs ∙ h ∙ getD_val r xs)),
  )

  pub solves_val : (rows : List (List (Below F.q))) (xs : List (Below F.q)) → Solves A rows xs ↔ Solves N (map (λ r. map val r) rows) (map val xs)
  solves_val [] xs = ((λ h. tt), (λ h. tt))
  solves_val (r ∷ rows) xs =
      let m = meets_val r xs in
      let ih = solves_val rows xs in
      ((λ (h, hs). (m.0 h, ih.0 hs)), (λ (h, hs). (m.1 h, ih.1 hs)))

  pub solvable_val : (n : ℕ) (rows : List (List (Below F.q))) → Solvable A n rows ↔ SolvableNumbers F n (map (λ r. map val r) rows)
  solvable_val n rows = (
    (λ s. (map val s.0, length-map s.0 (val {q = F.q}) ∙ s.1, vals_below F laws s.0, (solves_val rows s.0).0 s.2)),
    (λ s. back s.0 s.2 s.1 s.3),
  )
    where
      back : (xs : List ℕ) → Symbols F xs → length xs ≡ n → Solves N (map (λ r. map val r) rows) xs → Solvable A n rows
      back = from_symbols F laws (λ xs. length xs ≡ n → Solves N (map (λ r. map val r) rows) xs → Solvable A n rows)
          (λ xs e h. (xs, sym (length-map xs (val {q = F.q})) ∙ e, (solves_val rows xs).1 h))

  rests_val : (rows : List (List (Below F.q))) → map (λ r. map val r) (map (rest A) rows) ≡ map (rest N) (map (λ r. map val r) rows)
  rests_val [] = refl
  rests_val (r ∷ rows) = cons_path (rest_map A N val (val_respects F laws) r) (rests_val rows)

  cleareds_val : (p : List (Below F.q)) (rows : List (List (Below F.q))) → map (λ r. map val r) (map (cleared A p) rows) ≡ map (cleared N (map val p)) (map (λ r. map val r) rows)
  cleareds_val p [] = refl
  cleareds_val p (r ∷ rows) = cons_path (cleared_map A N val (val_respects F laws) p r) (cleareds_val p rows)

  left_val : (p : List (Below F.q)) (rows : List (List (Below F.q))) → map (λ r. map val r) (map (rest A) (map (cleared A p) rows)) ≡ map (rest N) (map (cleared N (map val p)) (map (λ r. map val r) rows))
  left_val p rows = rests_val (map (cleared A p) rows) ∙ ap (map (rest N)) (cleareds_val p rows)

  head_val : (p xs : List (Below F.q)) → val (head_unknown A p xs) ≡ head_unknown N (map val p) (map val xs)
  head_val p xs =
      ap (λ z. F.product (inverse_of F z) (F.sum (val (get_or (rest A p) (length xs) A.zero)) (opposite_of F (val (dot A (rest A p) xs))))) (lead_map A N val (val_respects F laws) p)
      ∙ ap (λ z. F.product (inverse_of F (lead N (map val p))) (F.sum z (opposite_of F (val (dot A (rest A p) xs)))))
      (sym (getD_val (rest A p) xs) ∙ ap (λ r. get_or r (length (map val xs)) 0) (rest_map A N val (val_respects F laws) p))
      ∙ ap (λ z. F.product (inverse_of F (lead N (map val p))) (F.sum (get_or (rest N (map val p)) (length (map val xs)) 0) (opposite_of F z)))
      (dot_map A N val (val_respects F laws) (rest A p) xs ∙ ap (λ r. dot N r (map val xs)) (rest_map A N val (val_respects F laws) p))

  leads_to : (rows : List (List (Below F.q))) → AllByRecursion (λ r. lead N r ≡ 0) (map (λ r. map val r) rows) → AllByRecursion (λ r. lead A r ≡ A.zero) rows
  leads_to [] h = tt
  leads_to (r ∷ rows) (h, hs) = (val_injective (lead_map A N val (val_respects F laws) r ∙ h), leads_to rows hs)

  pivot_to : (p : List (Below F.q)) → lead N (map val p) ≢ 0 → lead A p ≢ A.zero
  pivot_to p n e = n (sym (lead_map A N val (val_respects F laws) p) ∙ ap (λ (a : Below F.q). val a) e)

  abbrev ZeroColumnAt : List (List ℕ) → ℕ → List ℕ → Type 0
  ZeroColumnAt rows x xs = AllByRecursion (λ r. lead N r ≡ 0) rows → Solves N rows (x ∷ xs) ↔ Solves N (map (rest N) rows) xs

  zero_column_inside : (rows : List (List (Below F.q))) (x : Below F.q) (xs : List (Below F.q)) → ZeroColumnAt (map (λ r. map val r) rows) (val x) (map val xs)
  zero_column_inside rows x xs z =
      let k = solves_zero_column G rows x xs (leads_to rows z) in (
        (λ h. subst (λ rs. Solves N rs (map val xs)) (rests_val rows) ((solves_val (map (rest A) rows) xs).0 (k.0 ((solves_val rows (x ∷ xs)).1 h)))),
        (λ h. (solves_val rows (x ∷ xs)).0 (k.1 ((solves_val (map (rest A) rows) xs).1 (subst (λ rs. Solves N rs (map val xs)) (sym (rests_val rows)) h)))),
      )

  -- a column of zeros: its unknown is free
  pub zero_column_numbers : (rows : List (List ℕ)) (x : ℕ) (xs : List ℕ) → AllByRecursion (Symbols F) rows → x < F.q → Symbols F xs → AllByRecursion (λ r. lead N r ≡ 0) rows → Solves N rows (x ∷ xs) ↔ Solves N (map (rest N) rows) xs
  zero_column_numbers rows x xs sr sx sxs =
      from_rows (λ z. ZeroColumnAt z x xs)
      (λ rs. from_symbols F laws (λ z. ZeroColumnAt (map (λ r. map val r) rs) x z) (λ ys. zero_column_inside rs (x, sx) ys) xs sxs) rows sr

  abbrev PivotAt : List ℕ → List (List ℕ) → ℕ → List ℕ → Type 0
  PivotAt p rows x xs = lead N p ≢ 0 → Solves N (p ∷ rows) (x ∷ xs) ↔ ((x ≡ head_unknown N p xs) × Solves N (map (rest N) (map (cleared N p) rows)) xs)

  pivot_inside : (p : List (Below F.q)) (rows : List (List (Below F.q))) (x : Below F.q) (xs : List (Below F.q)) → PivotAt (map val p) (map (λ r. map val r) rows) (val x) (map val xs)
  pivot_inside p rows x xs n =
      let m = pivot_to p n in
      let k = solves_pivot G p rows (map (cleared A p) rows) x xs m (each_cleared G p rows m) in
      let left = map (rest A) (map (cleared A p) rows) in (
        (λ h. let s = k.0 ((solves_val (p ∷ rows) (x ∷ xs)).1 h) in
            (ap (λ (a : Below F.q). val a) s.0 ∙ head_val p xs, subst (λ rs. Solves N rs (map val xs)) (left_val p rows) ((solves_val left xs).0 s.1))),
        (λ (e, h). (solves_val (p ∷ rows) (x ∷ xs)).0
            (k.1 (val_injective (e ∙ sym (head_val p xs)), (solves_val left xs).1 (subst (λ rs. Solves N rs (map val xs)) (sym (left_val p rows)) h)))),
      )

  -- the pivot row tells the first unknown, and the others solve what is left when it is cleared
  pub pivot_numbers : (p : List ℕ) (rows : List (List ℕ)) (x : ℕ) (xs : List ℕ) → Symbols F p → AllByRecursion (Symbols F) rows → x < F.q → Symbols F xs → lead N p ≢ 0 → Solves N (p ∷ rows) (x ∷ xs) ↔ ((x ≡ head_unknown N p xs) × Solves N (map (rest N) (map (cleared N p) rows)) xs)
  pivot_numbers p rows x xs sp sr sx sxs =
      from_symbols F laws (λ z. PivotAt z rows x xs)
      (λ p. from_rows (λ z. PivotAt (map val p) z x xs)
      (λ rs. from_symbols F laws (λ z. PivotAt (map val p) (map (λ r. map val r) rs) x z) (λ ys. pivot_inside p rs (x, sx) ys) xs sxs) rows sr) p sp

  -- what elimination computes are symbols
  pub cleared_symbols : (p r : List ℕ) → Symbols F p → Symbols F r → Symbols F (cleared N p r)
  cleared_symbols p r sp sr =
      from_symbols F laws (λ z. Symbols F (cleared N z r))
      (λ p. from_symbols F laws (λ z. Symbols F (cleared N (map val p) z)) (λ r. subst (Symbols F) (cleared_map A N val (val_respects F laws) p r) (vals_below F laws (cleared A p r))) r sr) p sp

  pub head_symbol : (p xs : List ℕ) → Symbols F p → Symbols F xs → head_unknown N p xs < F.q
  head_symbol p xs sp sxs =
      from_symbols F laws (λ z. head_unknown N z xs < F.q)
      (λ p. from_symbols F laws (λ z. head_unknown N (map val p) z < F.q) (λ xs. subst (λ n. n < F.q) (head_val p xs) (head_unknown A p xs).1) xs sxs) p sp

  -- how solvable systems go on to smaller ones
  pub solvable_none_numbers : (rows : List (List ℕ)) → SolvableNumbers F 0 rows ↔ AllByRecursion (λ r. lead N r ≡ 0) rows
  solvable_none_numbers rows = ((λ s. go s.0 s.1 s.3), (λ h. ([], refl, tt, (solves_none N rows).1 h)))
    where
      go : (xs : List ℕ) → length xs ≡ 0 → Solves N rows xs → AllByRecursion (λ r. lead N r ≡ 0) rows
      go [] e h = (solves_none N rows).0 h
      go (x ∷ xs) e h = absurd (omega arith)

  pub solvable_zero_column_numbers : (n : ℕ) (rows : List (List ℕ)) → AllByRecursion (Symbols F) rows → AllByRecursion (λ r. lead N r ≡ 0) rows → SolvableNumbers F (suc n) rows ↔ SolvableNumbers F n (map (rest N) rows)
  solvable_zero_column_numbers n rows sr z = (
    (λ s. go s.0 s.1 s.2 s.3),
    (λ s. (0 ∷ s.0, ap suc s.1, (A.zero.1, s.2), (zero_column_numbers rows 0 s.0 sr A.zero.1 s.2 z).1 s.3)),
  )
    where
      go : (xs : List ℕ) → length xs ≡ suc n → Symbols F xs → Solves N rows xs → SolvableNumbers F n (map (rest N) rows)
      go [] e sy h = absurd (omega arith)
      go (x ∷ xs) e (sx, sy) h = (xs, omega arith, sy, (zero_column_numbers rows x xs sr sx sy z).0 h)

  pub solvable_pivot_numbers : (n : ℕ) (p : List ℕ) (rows : List (List ℕ)) → Symbols F p → AllByRecursion (Symbols F) rows → lead N p ≢ 0 → SolvableNumbers F (suc n) (p ∷ rows) ↔ SolvableNumbers F n (map (rest N) (map (cleared N p) rows))
  solvable_pivot_numbers n p rows sp sr k = (
    (λ s. go s.0 s.1 s.2 s.3),
    (λ s.
        let hs = head_symbol p s.0 sp s.2 in
        (head_unknown N p s.0 ∷ s.0, ap suc s.1, (hs, s.2), (pivot_numbers p rows (head_unknown N p s.0) s.0 sp sr hs s.2 k).1 (refl, s.3))),
  )
    where
      go : (xs : List ℕ) → length xs ≡ suc n → Symbols F xs → Solves N (p ∷ rows) xs → SolvableNumbers F n (map (rest N) (map (cleared N p) rows))
      go [] e sy h = absurd (omega arith)
      go (x ∷ xs) e (sx, sy) h = (xs, omega arith, sy, ((pivot_numbers p rows x xs sp sr sx sy k).0 h).1)
