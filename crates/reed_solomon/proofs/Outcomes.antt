-- What the solver answers, from what it answers for a smaller system. Assumes nothing.
use Rattle.std.proofs.Common.{◌≡◌, ℕ, zero, suc, ◌+◌, ◌-◌, ◌<◌, ◌≤◌, Bool, true, false, Some, None, Option, not, ◌≢◌, ◌↔◌, List, [], ◌∷◌, ◌++◌, map, length, get_or, take, drop, set, sym, refl, ap, ◌∙◌, subst, ap₂, inl, inr, add-one, arith}
use borrow.Rule.Slice.PartMut.{put_mid}
use Rattle.std.specs.Bool.{then_some}
use Rattle.std.specs.List.{AllByRecursion}
use Rattle.std.proofs.lemmas.List.{append-nil, drop_all}
use Rattle.std.proofs.ByRecursion.{All-weaker}
use Rattle.field.specs.Meaning.{Meaning, IsField}
use Rattle.algebra.specs.FieldOn.{Ops}
use Rattle.algebra.specs.Symbols.{numbers, Symbols}
use Rattle.algebra.specs.Systems.{Meets, Solves, lead, rest, cleared, head_unknown}
use Rattle.algebra.proofs.Systems.{all_to_front, all_from_front, lead_drop, rest_drop, solves_none}
use Rattle.algebra.proofs.SystemsNumbers.{zero_column_numbers, pivot_numbers, head_symbol, solvable_none_numbers, solvable_zero_column_numbers, solvable_pivot_numbers}
use Rattle.reed_solomon.specs.Rows.{rows_from, Exchanged, Outcome}

all_exchanged : (P : List ℕ → Type 0) (old new : List (List ℕ)) → Exchanged old new → AllByRecursion P old ↔ AllByRecursion P new
all_exchanged P old new (inl e) = ((λ h. subst (AllByRecursion P) e h), (λ h. subst (AllByRecursion P) (sym e) h))
all_exchanged P old new (inr (r, p, u, v, e, e')) = (
  (λ h. let (hr, k) = subst (AllByRecursion P) e h in let (hp, rest) = all_to_front P u p v k in subst (AllByRecursion P) (sym e') (hp, all_from_front P u r v hr rest)),
  (λ h. let (hp, k) = subst (AllByRecursion P) e' h in let (hr, rest) = all_to_front P u r v k in subst (AllByRecursion P) (sym e) (hr, all_from_front P u p v hp rest)),
)

rows_drop : (P : List ℕ → Type 0) (c w n : ℕ) (xs : List ℕ) → AllByRecursion P (rows_from c w n xs) ↔ AllByRecursion (λ r. P (drop c r)) (rows_from 0 w n xs)
rows_drop P c w zero xs = ((λ h. h), (λ h. h))
rows_drop P c w (suc n) xs = let ih = rows_drop P c w n (drop w xs) in ((λ (a, b). (a, ih.0 b)), (λ (a, b). (a, ih.1 b)))

-- the system before and after an exchange of rows
pub system_same : (c w n : ℕ) (first others first' others' : List ℕ) → Exchanged (first ∷ rows_from 0 w n others) (first' ∷ rows_from 0 w n others') → (P : List ℕ → Type 0) → AllByRecursion P (drop c first ∷ rows_from c w n others) ↔ AllByRecursion P (drop c first' ∷ rows_from c w n others')
system_same c w n first others first' others' h P =
    let k = all_exchanged (λ r. P (drop c r)) _ _ h in
    let old = rows_drop P c w n others in
    let new = rows_drop P c w n others' in
    ((λ (a, b). let (x, y) = k.0 (a, old.0 b) in (x, new.1 y)), (λ (a, b). let (x, y) = k.1 (a, new.0 b) in (x, old.1 y)))

-- a part from 1 on, and the whole
pub whole_is : (k : ℕ) (xs ys : List ℕ) → 0 < length xs → length xs - 1 ≤ k → put_mid 1 k xs ys ≡ get_or xs 0 0 ∷ ys
whole_is k [] ys h past = absurd (omega arith)
whole_is k (x ∷ xs) ys h past = ap (λ zs. x ∷ zs) (ap (λ zs. ys ++ zs) (drop_all k xs (omega arith)) ∙ append-nil ys)

pub set_first : (xs : List ℕ) (v : ℕ) → 0 < length xs → set xs 0 v ≡ v ∷ drop 1 xs
set_first [] v h = absurd (omega arith)
set_first (x ∷ xs) v h = refl

module _ (F : Meaning) (laws : IsField F) where
  abbrev N : Ops ℕ
  N = numbers F

  pub outcome_same : (old new : List (List ℕ)) (n : ℕ) (r : Option (Unit {0})) (xs : List ℕ) → ((P : List ℕ → Type 0) → AllByRecursion P old ↔ AllByRecursion P new) → Outcome F new n r xs → Outcome F old n r xs
  outcome_same old new n (Some u) xs same (s, h) = (s, (same (λ r. Meets N r xs)).1 h)
  outcome_same old new n None xs same h = λ s. h (s.0, s.1, s.2, (same (λ r. Meets N r s.0)).0 s.3)

  pub leads_zero : (c w n : ℕ) (first others : List ℕ) → AllByRecursion (λ row. get_or row c 0 ≡ 0) (first ∷ rows_from 0 w n others) → AllByRecursion (λ r. lead N r ≡ 0) (drop c first ∷ rows_from c w n others)
  leads_zero c w n first others (a, b) = (
    lead_drop N first c ∙ a,
    (rows_drop (λ r. lead N r ≡ 0) c w n others).1 (All-weaker (λ row. get_or row c 0 ≡ 0) (λ row. lead N (drop c row) ≡ 0) (λ row e. lead_drop N row c ∙ e) (rows_from 0 w n others) b),
  )

  pub row_rest : (c : ℕ) (r : List ℕ) → rest N (drop c r) ≡ drop (c + 1) r
  row_rest c r = rest_drop N r c ∙ ap (λ k. drop k r) (sym (add-one c))

  pub rows_rest : (c w n : ℕ) (xs : List ℕ) → map (rest N) (rows_from c w n xs) ≡ rows_from (c + 1) w n xs
  rows_rest c w zero xs = refl
  rows_rest c w (suc n) xs = ap₂ (λ (r : List ℕ) rs. r ∷ rs) (row_rest c (take w xs)) (rows_rest c w n (drop w xs))

  -- no unknowns are left
  pub none_left : (rows : List (List ℕ)) (xs : List ℕ) (found : Bool) → length xs ≡ 0 → Symbols F xs → (found ≡ false → AllByRecursion (λ r. lead N r ≡ 0) rows) → (found ≡ true → AllByRecursion (λ r. lead N r ≡ 0) rows → ⊥) → Outcome F rows (length xs) (then_some (not found) tt) xs
  none_left rows [] false e s zeros some = (s, (solves_none N rows).1 (zeros refl))
  none_left rows [] true e s zeros some = λ h. some refl ((solvable_none_numbers F laws rows).0 h)
  none_left rows (x ∷ xs) found e s zeros some = absurd (omega arith)

  -- a column of zeros leaves its unknown free
  pub free_unknown : (rows : List (List ℕ)) (n x : ℕ) (xs : List ℕ) (r : Option (Unit {0})) → AllByRecursion (Symbols F) rows → AllByRecursion (λ r. lead N r ≡ 0) rows → x < F.q → Outcome F (map (rest N) rows) n r xs → Outcome F rows (suc n) r (x ∷ xs)
  free_unknown rows n x xs (Some u) sr zeros hx (s, h) = ((hx, s), (zero_column_numbers F laws rows x xs sr hx s zeros).1 h)
  free_unknown rows n x xs None sr zeros hx h = λ s. h ((solvable_zero_column_numbers F laws n rows sr zeros).0 s)

  module _ (p : List ℕ) (rows : List (List ℕ)) (sp : Symbols F p) (sr : AllByRecursion (Symbols F) rows) (pivot : lead N p ≢ 0) where
    pub pivot_none : (n : ℕ) (xs ys : List ℕ) → Outcome F (map (rest N) (map (cleared N p) rows)) n None xs → Outcome F (p ∷ rows) (suc n) None ys
    pivot_none n xs ys h = λ s. h ((solvable_pivot_numbers F laws n p rows sp sr pivot).0 s)

    pub pivot_some : (n x : ℕ) (xs : List ℕ) → Symbols F xs → Solves N (map (rest N) (map (cleared N p) rows)) xs → x ≡ head_unknown N p xs → Outcome F (p ∷ rows) n (Some tt) (x ∷ xs)
    pivot_some n x xs s h e =
        let hx : x < F.q = subst (λ k. k < F.q) (sym e) (head_symbol F laws p xs sp s) in
        ((hx, s), (pivot_numbers F laws p rows x xs sp sr hx s pivot).1 (e, h))
