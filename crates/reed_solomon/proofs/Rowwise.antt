-- Rows in one list: the first row and the others, and what an exchange of rows keeps. Assumes nothing.
use Rattle.std.proofs.Common.{false, eqb, T, ◌≡◌, ℕ, zero, suc, ◌+◌, ◌-◌, ◌*◌, ◌<◌, ◌≤◌, List, [], ◌∷◌, ◌++◌, map, length, get_or, take, drop, sym, refl, ap, ◌∙◌, subst, ap₂, inl, inr, suc-mul, add-one, arith}
use borrow.Rule.Slice.PartMut.{put_mid, post_of}
use Rattle.std.specs.List.{AllByRecursion}
use Rattle.std.proofs.lemmas.List.{take_at, drop_at, get_or-take, take_all, drop_all, append-nil, length-take-le, length-drop, length-append, take_rest}
use Rattle.std.proofs.lemmas.Slice.{take-put_mid_below}
use Rattle.field.specs.Meaning.{Meaning}
use Rattle.algebra.specs.Correction.{rows_of}
use Rattle.algebra.specs.Symbols.{numbers}
use Rattle.reed_solomon.specs.Code.{points_from}
use Rattle.reed_solomon.specs.Rows.{rows_from, Exchanged}

-- what the test for an empty slice says
pub not_empty : (n : ℕ) → false ≡ eqb n 0 → n ≡ 0 → ⊥
not_empty zero t e = absurd (subst T (sym t) tt)
not_empty (suc n) t e = omega arith

-- what stands after the first element
pub length_rest : (xs : List ℕ) → length (take (length xs - 1) (drop 1 xs)) ≡ length xs - 1
length_rest xs = ap length (take_rest xs 1) ∙ length-drop 1 xs

pub product_first : (n w : ℕ) → (n ≡ 0 → ⊥) → n * w ≡ w + (n - 1) * w
product_first zero w h = absurd (h refl)
product_first (suc n) w h =
    let same : suc n - 1 ≡ n = omega arith in
    let less = ap (λ k. k * w) same in
    let e = suc-mul n w in
    omega arith

module _ (n w len : ℕ) (some : n ≡ 0 → ⊥) (long : len ≡ n * w) where
  pub first_fits : w ≤ len
  first_fits = let e = product_first n w some in omega arith

  pub rest_long : len - w ≡ (n - 1) * w
  rest_long = let e = product_first n w some in omega arith

pub rows_first : (c w n : ℕ) (xs : List ℕ) → (n ≡ 0 → ⊥) → rows_from c w n xs ≡ drop c (take w xs) ∷ rows_from c w (n - 1) (drop w xs)
rows_first c w zero xs h = absurd (h refl)
rows_first c w (suc n) xs h = let same : n ≡ suc n - 1 = omega arith in ap (λ k. drop c (take w xs) ∷ rows_from c w k (drop w xs)) same

pub first_all : (P : List ℕ → Type 0) (c w n : ℕ) (xs : List ℕ) → (n ≡ 0 → ⊥) → AllByRecursion P (rows_from c w n xs) → P (drop c (take w xs))
first_all P c w n xs some h = (subst (AllByRecursion P) (rows_first c w n xs some) h).0

-- after a write to the part from w on
pub drop_part : (w k : ℕ) (xs ys : List ℕ) → w ≤ length xs → length xs - w ≤ k → drop w (put_mid w k xs ys) ≡ ys
drop_part w k xs ys h past = drop_at (take w xs) (ys ++ post_of w k xs) w (length-take-le w xs h) ∙ ap (λ zs. ys ++ zs) (drop_all k (drop w xs) (let e = length-drop w xs in omega arith)) ∙ append-nil ys

pub rows_later : (c w n k : ℕ) (xs ys : List ℕ) → (n ≡ 0 → ⊥) → w ≤ length xs → length xs - w ≤ k → rows_from c w n (put_mid w k xs ys) ≡ drop c (take w xs) ∷ rows_from c w (n - 1) ys
rows_later c w n k xs ys some h past =
    rows_first c w n (put_mid w k xs ys) some
    ∙ ap₂ (λ t d. drop c t ∷ rows_from c w (n - 1) d) (take-put_mid_below w k xs ys w (omega arith) h) (drop_part w k xs ys h past)

-- after a write to the part before w
pub rows_written : (c w n : ℕ) (xs ys : List ℕ) → (n ≡ 0 → ⊥) → length ys ≡ w → rows_from c w n (ys ++ drop w xs) ≡ drop c ys ∷ rows_from c w (n - 1) (drop w xs)
rows_written c w n xs ys some long =
    rows_first c w n (ys ++ drop w xs) some
    ∙ ap₂ (λ t d. drop c t ∷ rows_from c w (n - 1) d) (take_at ys (drop w xs) w long) (drop_at ys (drop w xs) w long)

pub written_fits : (row rest : List ℕ) (w : ℕ) → length row ≡ w → w ≤ length (row ++ rest)
written_fits row rest w e = let l = length-append row rest in omega arith

-- `first` is exchanged for the first of the others
module _ (first others first' part' : List ℕ) (n c : ℕ) (some : n ≡ 0 → ⊥) (is_first : first' ≡ take (length first) others) (is_part : part' ≡ first) where
  pub exchanged_here : Exchanged (first ∷ rows_from 0 (length first) n others) (first' ∷ rows_from 0 (length first) n (part' ++ drop (length first) others))
  exchanged_here = inr (
    first,
    take (length first) others,
    [],
    rows_from 0 (length first) (n - 1) (drop (length first) others),
    ap (λ rs. first ∷ rs) (rows_first 0 (length first) n others some),
    ap₂ (λ (r : List ℕ) rs. r ∷ rs) is_first (rows_written 0 (length first) n others part' some (ap length is_part) ∙ ap (λ (r : List ℕ). r ∷ rows_from 0 (length first) (n - 1) (drop (length first) others)) is_part),
  )

  pub found_here : c < length first → (get_or others c 0 ≡ 0 → ⊥) → get_or first' c 0 ≡ 0 → ⊥
  found_here h ne z = ne (sym (get_or-take (length first) others c 0 h) ∙ ap (λ r. get_or r c 0) (sym is_first) ∙ z)

-- an exchange further back
exchanged_cons : (first first' r : List ℕ) (old new : List (List ℕ)) → Exchanged (first ∷ old) (first' ∷ new) → Exchanged (first ∷ (r ∷ old)) (first' ∷ (r ∷ new))
exchanged_cons first first' r old new (inl e) = inl (let a : first ≡ first' = cc in let b : old ≡ new = cc in ap₂ (λ (x : List ℕ) xs. x ∷ (r ∷ xs)) a b)
exchanged_cons first first' r old new (inr (a, p, u, v, e, e')) =
    let h : first ≡ a = cc in
    let k : old ≡ u ++ (p ∷ v) = cc in
    let h' : first' ≡ p = cc in
    let k' : new ≡ u ++ (a ∷ v) = cc in
    inr (a, p, r ∷ u, v, ap₂ (λ (x : List ℕ) xs. x ∷ (r ∷ xs)) h k, ap₂ (λ (x : List ℕ) xs. x ∷ (r ∷ xs)) h' k')

module _ (first others first' rest' : List ℕ) (n k : ℕ) (some : n ≡ 0 → ⊥) (long : length others ≡ n * length first) where
  pub exchanged_later : length others - length first ≤ k → Exchanged (first ∷ rows_from 0 (length first) (n - 1) (take k (drop (length first) others))) (first' ∷ rows_from 0 (length first) (n - 1) rest') → Exchanged (first ∷ rows_from 0 (length first) n others) (first' ∷ rows_from 0 (length first) n (put_mid (length first) k others rest'))
  exchanged_later past h =
      let part = take_all k (drop (length first) others) (let e = length-drop (length first) others in omega arith) in
      let e = exchanged_cons first first' (take (length first) others) _ _ (subst (λ z. Exchanged (first ∷ rows_from 0 (length first) (n - 1) z) (first' ∷ rows_from 0 (length first) (n - 1) rest')) part h) in
      subst (λ z. Exchanged (first ∷ z) (first' ∷ rows_from 0 (length first) n (put_mid (length first) k others rest'))) (sym (rows_first 0 (length first) n others some))
      (subst (λ z. Exchanged (first ∷ (take (length first) others ∷ rows_from 0 (length first) (n - 1) (drop (length first) others))) (first' ∷ z))
      (sym (rows_later 0 (length first) n k others rest' some (first_fits n (length first) (length others) some long) past)) e)

  pub missing_later : (c : ℕ) → length others - length first ≤ k → c < length first → get_or others c 0 ≡ 0 → AllByRecursion (λ row. get_or row c 0 ≡ 0) (first ∷ rows_from 0 (length first) (n - 1) (take k (drop (length first) others))) → AllByRecursion (λ row. get_or row c 0 ≡ 0) (first ∷ rows_from 0 (length first) n others)
  missing_later c past h z (a, b) =
      let part = take_all k (drop (length first) others) (let e = length-drop (length first) others in omega arith) in
      (a, subst (AllByRecursion (λ row. get_or row c 0 ≡ 0)) (sym (rows_first 0 (length first) n others some)) (get_or-take (length first) others c 0 h ∙ z, subst (λ w. AllByRecursion (λ row. get_or row c 0 ≡ 0) (rows_from 0 (length first) (n - 1) w)) part b))

-- a function of each row, done for the first row and then for the others
module _ (h : List ℕ → List ℕ) (c w n k : ℕ) (rows row' rest' : List ℕ) (some : n ≡ 0 → ⊥) (long : length rows ≡ n * w) (long' : length row' ≡ w) (past : length (row' ++ drop w rows) - w ≤ k) where
  pub rest_is : take k (drop w (row' ++ drop w rows)) ≡ drop w rows
  rest_is =
      let e = drop_at row' (drop w rows) w long' in
      let l = length-append row' (drop w rows) in
      ap (take k) e ∙ take_all k (drop w rows) (omega arith)

  pub each_row : drop c row' ≡ h (drop c (take w rows)) → rows_from c w (n - 1) rest' ≡ map h (rows_from c w (n - 1) (take k (drop w (row' ++ drop w rows)))) → rows_from c w n (put_mid w k (row' ++ drop w rows) rest') ≡ map h (rows_from c w n rows)
  each_row here later =
      let l = length-append row' (drop w rows) in
      rows_later c w n k (row' ++ drop w rows) rest' some (omega arith) past
      ∙ ap₂ (λ (r : List ℕ) rs. r ∷ rs) (ap (drop c) (take_at row' (drop w rows) w long') ∙ here) (later ∙ ap (λ z. map h (rows_from c w (n - 1) z)) rest_is)
      ∙ sym (ap (map h) (rows_first c w n rows some))

  pub rest_length : length (take k (drop w (row' ++ drop w rows))) ≡ (n - 1) * w
  rest_length = ap length rest_is ∙ length-drop w rows ∙ rest_long n w (length rows) some long

  pub rest_all : (P : List ℕ → Type 0) → AllByRecursion P (rows_from c w n rows) → AllByRecursion P (rows_from c w (n - 1) (take k (drop w (row' ++ drop w rows))))
  rest_all P h = subst (λ z. AllByRecursion P (rows_from c w (n - 1) z)) (sym rest_is) (subst (AllByRecursion P) (rows_first c w n rows some) h).1

-- the rows of the system for a word, the first row and the others
pub rows_of_first : (F : Meaning) (row : ℕ → ℕ → List ℕ) (x : ℕ) (ys tail : List ℕ) → (length ys ≡ 0 → ⊥) → tail ≡ drop 1 ys → rows_of (numbers F) row (points_from x (length ys)) ys ≡ row x (get_or ys 0 0) ∷ rows_of (numbers F) row (points_from (x + 1) (length tail)) tail
rows_of_first F row x [] tail some e = absurd (some refl)
rows_of_first F row x (y ∷ ys) tail some e = ap₂ (λ k z. row x y ∷ rows_of (numbers F) row (points_from k (length z)) z) (sym (add-one x)) (sym e)

-- the rows before and after the first are parts of the whole
pub split_rows : (w n : ℕ) (rows first others : List ℕ) → (n ≡ 0 → ⊥) → rows ≡ first ++ others → length first ≡ w → rows_from 0 w n rows ≡ first ∷ rows_from 0 (length first) (n - 1) others
split_rows w n rows first others some parts long =
    ap (rows_from 0 w n) parts
    ∙ rows_first 0 w n (first ++ others) some
    ∙ ap₂ (λ (t : List ℕ) d. t ∷ rows_from 0 w (n - 1) d) (take_at first others w long) (drop_at first others w long)
    ∙ ap (λ k. first ∷ rows_from 0 k (n - 1) others) (sym long)

-- the rows of the system are written one after another
module _ (F : Meaning) (row : ℕ → ℕ → List ℕ) (w k x : ℕ) (rows row' rest' ys : List ℕ) (some : length ys ≡ 0 → ⊥) (long : length rows ≡ length ys * w) (long' : length row' ≡ w) (past : length (row' ++ drop w rows) - w ≤ k) where
  abbrev tail : List ℕ
  tail = take (length ys - 1) (drop 1 ys)

  pub filled : row' ≡ row x (get_or ys 0 0) → rows_from 0 w (length tail) rest' ≡ rows_of (numbers F) row (points_from (x + 1) (length tail)) tail → rows_from 0 w (length ys) (put_mid w k (row' ++ drop w rows) rest') ≡ rows_of (numbers F) row (points_from x (length ys)) ys
  filled here later =
      let l = length-append row' (drop w rows) in
      rows_later 0 w (length ys) k (row' ++ drop w rows) rest' some (omega arith) past
      ∙ ap₂ (λ (r : List ℕ) rs. r ∷ rs) (take_at row' (drop w rows) w long' ∙ here) (ap (λ n. rows_from 0 w n rest') (sym (length_rest ys)) ∙ later)
      ∙ sym (rows_of_first F row x ys tail some (take_rest ys 1))

  pub filled_rest : length (take k (drop w (row' ++ drop w rows))) ≡ length tail * w
  filled_rest = rest_length (λ r. r) 0 w (length ys) k rows row' rest' some long long' past ∙ ap (λ n. n * w) (sym (length_rest ys))

  pub filled_all : (P : List ℕ → Type 0) → P row' → AllByRecursion P (rows_from 0 w (length tail) rest') → AllByRecursion P (rows_from 0 w (length ys) (put_mid w k (row' ++ drop w rows) rest'))
  filled_all P here later =
      let l = length-append row' (drop w rows) in
      subst (AllByRecursion P) (sym (rows_later 0 w (length ys) k (row' ++ drop w rows) rest' some (omega arith) past))
      (subst P (sym (take_at row' (drop w rows) w long')) here, subst (λ n. AllByRecursion P (rows_from 0 w n rest')) (length_rest ys) later)
