-- The steps of the test by elimination, with the columns that are taken marked. Assumes nothing.
use Rattle.std.proofs.Common.{◌≡◌, ℕ, zero, suc, ◌+◌, ◌<◌, ◌≤◌, Bool, true, false, not, ◌&&◌, T, eqb, List, [], ◌∷◌, ◌++◌, map, length, get_or, take, set, replicate, sym, refl, ap, ◌∙◌, subst, arith}
use native.Mathlib.Decide.{ℕ_discrete}
use lib.ListN.{length-map}
use Rattle.std.proofs.ByRecursion.{All-map}
use Rattle.std.proofs.lemmas.List.{get_or-set_same, get_or-set_other, length-take-le, get_or-replicate}
use Rattle.std.proofs.lemmas.Bool.{eq-eqb, ne_eqb, true≢false}
use Rattle.field.specs.Meaning.{Meaning, IsField}
use Rattle.field.specs.Words.{symbols}
use Rattle.field.proofs.Laws.{opposite_small}
use Rattle.field.proofs.Vectors.{length_added, added_closed, scaled_closed}
use Rattle.algebra.specs.Matrices.{every, without, kept, tested, reduced}
use Rattle.algebra.specs.Symbols.{numbers}
use Rattle.algebra.proofs.Bridge.{inverse_below}
use Rattle.algebra.proofs.Elimination.{every_same}
use Rattle.algebra.proofs.Everywhere.{all_each}
use Rattle.code.specs.Columns.{column}
use Rattle.code.specs.Elimination.{cleared_row, reduced_rows, free_from, passes, Rows}
use Rattle.code.proofs.Clearing.{symbol_any, column_cleared}

without_none : (a b : ℕ) (ts : List Bool) → a < b → without eqb a (free_from b ts) ≡ free_from b ts
without_none a b [] h = refl
without_none a b (true ∷ ts) h = without_none a (suc b) ts (omega arith)
without_none a b (false ∷ ts) h =
    ap (λ t. kept t b (without eqb a (free_from (suc b) ts))) (ne_eqb b a (omega arith)) ∙ ap (λ l. b ∷ l) (without_none a (suc b) ts (omega arith))

-- a column taken is a column less
free_without : (a p : ℕ) (ts : List Bool) → without eqb (a + p) (free_from a ts) ≡ free_from a (set ts p true)
free_without a p [] = refl
free_without a zero (true ∷ ts) = without_none (a + 0) (suc a) ts (omega arith)
free_without a zero (false ∷ ts) =
    ap (λ t. kept t a (without eqb (a + 0) (free_from (suc a) ts))) (eq-eqb a (a + 0) (omega arith)) ∙ without_none (a + 0) (suc a) ts (omega arith)
free_without a (suc p) (true ∷ ts) =
    let e : a + suc p ≡ suc a + p = omega arith in
    ap (λ n. without eqb n (free_from (suc a) ts)) e ∙ free_without (suc a) p ts
free_without a (suc p) (false ∷ ts) =
    let e : a + suc p ≡ suc a + p = omega arith in
    ap (λ t. kept t a (without eqb (a + suc p) (free_from (suc a) ts))) (ne_eqb a (a + suc p) (omega arith))
    ∙ ap (λ n. a ∷ without eqb n (free_from (suc a) ts)) e ∙ ap (λ l. a ∷ l) (free_without (suc a) p ts)

-- the columns that stay free are columns of the matrix
pub free_kept : (ts : List Bool) (p w : ℕ) → length ts ≡ 8 → ((j : ℕ) → j < 8 → get_or ts j false ≡ false → j < w) → (j : ℕ) → j < 8 → get_or (set ts p true) j false ≡ false → j < w
free_kept ts p w long h j l e =
    elim (ℕ_discrete j p) [
      | yes same ↦ absurd (true≢false (sym (subst (λ n. get_or (set ts n true) j false ≡ true) same (get_or-set_same ts j true false (omega arith))) ∙ e))
      | no other ↦ h j l (sym (get_or-set_other ts p j true false other) ∙ e)
    ]

-- whether the pivot in column p is none, or what it leaves fails
abbrev pub pivot_test : Meaning → List (List ℕ) → List Bool → ℕ → Bool
pivot_test F H taken p = not (eqb (get_or (get_or H 0 []) p 0) 0) && passes F (reduced_rows F p H) (set taken p true)

module _ {F : Meaning} (lawful : IsField F) where
  pub passes_is : (w : ℕ) (H : List (List ℕ)) (taken : List Bool) → 0 < length H → Rows F w H → passes F H taken ≡ every (pivot_test F H taken) (free_from 0 taken)
  passes_is w [] taken some h = absurd (omega arith)
  passes_is w (top ∷ rows) taken some (s, l) =
      let words : Rows F (length top) rows = subst (λ n. Rows F n rows) (sym l.0) (s.1, l.1) in
      every_same
      (λ p. not (eqb (get_or top p 0) 0) && tested (numbers F) (λ a. eqb a 0) eqb (length rows) (reduced (numbers F) (column (top ∷ rows)) p) (without eqb p (free_from 0 taken)))
      (pivot_test F (top ∷ rows) taken)
      (λ p.
      ap (λ b. not (eqb (get_or top p 0) 0) && b)
      (ap (λ (c : ℕ → List ℕ). tested (numbers F) (λ a. eqb a 0) eqb (length rows) c (without eqb p (free_from 0 taken))) (λ i j. sym (column_cleared lawful p top s.0 rows words j) i)
      ∙ ap (λ js. tested (numbers F) (λ a. eqb a 0) eqb (length rows) (column (map (cleared_row F p top) rows)) js) (let z : p ≡ 0 + p = omega arith in ap (λ n. without eqb n (free_from 0 taken)) z ∙ free_without 0 p taken)
      ∙ ap (λ n. tested (numbers F) (λ a. eqb a 0) eqb n (column (map (cleared_row F p top) rows)) (free_from 0 (set taken p true))) (sym (length-map rows (cleared_row F p top)))))
      (free_from 0 taken)

  cleared_symbols : (p : ℕ) (top r : List ℕ) → T (symbols F.q top) → T (symbols F.q r) → T (symbols F.q (cleared_row F p top r))
  cleared_symbols p top r st sr =
      let z = opposite_small lawful _ (lawful.product_closed _ _ (symbol_any lawful r sr p) (inverse_below F lawful (get_or top p 0))) in
      added_closed lawful r _ sr (scaled_closed lawful _ z top st)

  pub rows_reduced : (w p : ℕ) (H : List (List ℕ)) → Rows F w H → Rows F w (reduced_rows F p H)
  rows_reduced w p [] h = h
  rows_reduced w p (top ∷ rows) (s, l) = (
    All-map (λ r. T (symbols F.q r)) (cleared_row F p top) rows (all_each (λ r. T (symbols F.q r)) (λ r. T (symbols F.q (cleared_row F p top r))) (λ r sr. cleared_symbols p top r s.0 sr) rows s.1),
    All-map (λ r. length r ≡ w) (cleared_row F p top) rows (all_each (λ r. length r ≡ w) (λ r. length (cleared_row F p top r) ≡ w) (λ r lr. length_added F r _ ∙ lr) rows l.1),
  )

-- a row of an array of rows of eight holds w entries
pub held_wide : (rows : List (List ℕ)) (h w : ℕ) → h ≤ 4 → w ≤ 8 → ((i : ℕ) → i < 4 → length (get_or rows i []) ≡ 8) → (i : ℕ) → i < h → length (take w (get_or rows i [])) ≡ w
held_wide rows h w low narrow wide i l = length-take-le w (get_or rows i []) (let e = wide i (omega arith) in omega arith)

-- at the start all columns of the matrix are free, and no others
pub free_start : (w n j : ℕ) → j < w + n → get_or (replicate w false ++ replicate n true) j false ≡ false → j < w
free_start zero n j l e = absurd (true≢false (sym (get_or-replicate n j true false (omega arith)) ∙ e))
free_start (suc w) n zero l e = omega arith
free_start (suc w) n (suc j) l e = let k = free_start w n j (omega arith) e in omega arith
