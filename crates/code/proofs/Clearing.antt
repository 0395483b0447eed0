-- A row cleared by the top row, and the columns of the rows so cleared. Assumes nothing.
use Rattle.std.proofs.Common.{add-one, ◌≡◌, ℕ, zero, suc, ◌+◌, ◌-◌, ◌<◌, T, List, [], ◌∷◌, map, length, get_or, sym, refl, ap, ◌∙◌, subst, ap₂, arith}
use native.Mathlib.Decide.{dec_lt}
use Rattle.std.proofs.lemmas.List.{length-map, get_or-map, get_or_past}
use Rattle.field.specs.Meaning.{Meaning, IsField, opposite_of, inverse_of}
use Rattle.field.specs.Words.{symbols, plus_scaled}
use Rattle.field.proofs.Laws.{product_zero, opposite_of_multiple, opposite_small}
use Rattle.field.proofs.Unique.{zero_small}
use Rattle.field.proofs.WordLaws.{symbol_at}
use Rattle.algebra.specs.Matrices.{reduced}
use Rattle.algebra.specs.Symbols.{numbers}
use Rattle.algebra.proofs.Bridge.{inverse_below}
use Rattle.code.specs.Columns.{column}
use Rattle.code.specs.Elimination.{cleared_row, reduced_rows, Rows}

module _ {F : Meaning} (lawful : IsField F) where
  -- past its end a word has zeros
  pub symbol_any : (xs : List ℕ) → T (symbols F.q xs) → (i : ℕ) → get_or xs i 0 < F.q
  symbol_any xs t i = elim (dec_lt i (length xs)) [
    | yes h ↦ symbol_at F.q xs t i h
    | no h ↦ subst (λ x. x < F.q) (sym (get_or_past xs i 0 (omega arith))) (zero_small lawful)
  ]

  -- one entry of a row with a multiple of another added
  entry_added : (a : ℕ) → a < F.q → (r top : List ℕ) → length r ≡ length top → (j : ℕ) → get_or (plus_scaled F a r top) j 0 ≡ F.sum (get_or r j 0) (F.product a (get_or top j 0))
  entry_added a h [] [] e j = sym (ap (F.sum 0) (product_zero lawful a h) ∙ lawful.sum_zero 0 (zero_small lawful))
  entry_added a h [] (t ∷ top) e j = absurd (omega arith)
  entry_added a h (x ∷ r) [] e j = absurd (omega arith)
  entry_added a h (x ∷ r) (t ∷ top) e zero = refl
  entry_added a h (x ∷ r) (t ∷ top) e (suc j) = entry_added a h r top (omega arith) j

  -- (−(y·i))·t = (−(t·i))·y
  swap_factor : (y i t : ℕ) → y < F.q → i < F.q → t < F.q → F.product (opposite_of F (F.product y i)) t ≡ F.product (opposite_of F (F.product t i)) y
  swap_factor y i t hy hi ht =
      let o = opposite_small lawful i hi in
      let step : (a b : ℕ) → a < F.q → b < F.q → F.product (opposite_of F (F.product a i)) b ≡ F.product a (F.product b (opposite_of F i))
      = λ a b ha hb. ap (λ z. F.product z b) (opposite_of_multiple lawful a i ha hi) ∙ lawful.product_assoc a _ b ha o hb ∙ ap (F.product a) (lawful.product_comm _ b o hb) in
      step y t hy ht ∙ sym (lawful.product_assoc y t _ hy ht o) ∙ ap (λ z. F.product z (opposite_of F i)) (lawful.product_comm y t hy ht) ∙ lawful.product_assoc t y _ ht hy o ∙ sym (step t y ht hy)

  -- the columns of the cleared rows are the reduced columns
  pub column_cleared : (p : ℕ) (top : List ℕ) → T (symbols F.q top) → (rows : List (List ℕ)) → Rows F (length top) rows → (j : ℕ) → column (map (cleared_row F p top) rows) j ≡ reduced (numbers F) (column (top ∷ rows)) p j
  column_cleared p top st [] h j = refl
  column_cleared p top st (r ∷ rows) (s, l) j =
      let i = inverse_of F (get_or top p 0) in
      let hi = inverse_below F lawful (get_or top p 0) in
      let hp = symbol_any r s.0 p in
      let ht = symbol_any top st j in
      ap₂ ◌∷◌
      (entry_added (opposite_of F (F.product (get_or r p 0) i)) (opposite_small lawful _ (lawful.product_closed _ _ hp hi)) r top l.0 j
      ∙ ap (F.sum (get_or r j 0)) (swap_factor (get_or r p 0) i (get_or top j 0) hp hi ht))
      (column_cleared p top st rows (s.1, l.1) j)

-- the rows that are left, one by one
module _ (F : Meaning) (p : ℕ) where
  pub length_reduced : (H : List (List ℕ)) → length (reduced_rows F p H) ≡ length H - 1
  length_reduced [] = refl
  length_reduced (top ∷ rows) = length-map rows (cleared_row F p top) ∙ (omega arith)

  pub reduced_at : (H : List (List ℕ)) (i : ℕ) → i + 1 < length H → get_or (reduced_rows F p H) i [] ≡ cleared_row F p (get_or H 0 []) (get_or H (i + 1) [])
  reduced_at [] i h = absurd (omega arith)
  reduced_at (top ∷ rows) i h = get_or-map (cleared_row F p top) rows i [] [] (omega arith) ∙ ap (λ n. cleared_row F p top (get_or (top ∷ rows) n [])) (sym (add-one i))
