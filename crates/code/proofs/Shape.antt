-- When a matrix has the shape that a code asks for, and what the flaw of a code is. Assumes nothing.
use Rattle.std.proofs.Common.{◌≡◌, ℕ, zero, suc, ◌*◌, ◌<◌, ◌≤◌, Bool, true, false, cond, ◌&&◌, T, eqb, leb, List, [], length, take, drop, None, sym, refl, ap, ◌∙◌, subst, ap₂, arith, le→leb, eqb→eq, length-drop, length-take}
use lib.Dec.{eqb_refl}
use Rattle.std.specs.Option.{option_or}
use Rattle.std.specs.List.{AllByRecursion}
use Rattle.std.proofs.ByRecursion.{All-get_or, All-from_get_or, All-push}
use Rattle.std.proofs.lemmas.List.{length_push}
use Rattle.std.proofs.lemmas.Bool.{cond-true}
use Rattle.refusal.specs.declared.Refusal.TheVariants.{MatrixShape, MatrixEntry, SingularMatrix}
use Rattle.field.specs.Meaning as fields
use Rattle.field.specs.Words.{symbols}
use Rattle.field.proofs.Accepted.{both_hold}
use Rattle.field.proofs.Metric.{bool_path}
use Rattle.field.proofs.Tests.{both_left, both_right, true_is, T_is}
use Rattle.algebra.specs.Matrices.{every}
use Rattle.chain.specs.Answers.{unless}
use Rattle.chain.specs.Meaning as chains
use Rattle.code.specs.Columns.{nonsingular}
use Rattle.code.specs.Held.{held, holding}
use Rattle.code.specs.Meaning.{Meaning, rows_to, matrix_of}
use Rattle.code.specs.Numbers.{is_shaped, has_symbols, is_nonsingular, code_flaw}
use Rattle.code.specs.declared.matrix.Matrix.{Matrix}
use Rattle.code.proofs.Passing.{held_wide}
use Rattle.code.proofs.Rows.{held_length, held_row, row_fits}
use Rattle.code.proofs.Sentence.{all_pass, pass_all}

pub same_test : (a b : ℕ) → a ≡ b → T (eqb a b)
same_test a b e = subst (λ n. T (eqb a n)) e (eqb_refl a)

four_hold : (a b c d : Bool) → T a → T b → T c → T d → T (a && b && c && d)
four_hold a b c d p q r s = both_hold _ d (both_hold _ c (both_hold a b p q) r) s

pub record Four (a b c d : Bool) : Type 0 where
  pub one : T a
  pub two : T b
  pub three : T c
  pub four : T d

pub four_parts : (a b c d : Bool) → T (a && b && c && d) → Four a b c d
four_parts a b c d t =
    let abc = both_left (a && b && c) d t in
    let ab = both_left (a && b) c abc in
    record { one = both_left a b ab; two = both_right a b ab; three = both_right (a && b) c abc; four = both_right (a && b && c) d t }

pub held_rows : (a : Matrix) → length (held a) ≡ a.height
held_rows a = held_length a.rows a.height a.width (omega (arith, a.tall, a.low))

pub held_columns : (a : Matrix) → AllByRecursion (λ r. length r ≡ a.width) (held a)
held_columns a =
    All-from_get_or (λ r. length r ≡ a.width) (held a) [] (λ i l.
    let e = held_rows a in
    ap length (held_row a.rows a.height a.width (omega (arith, a.tall, a.low)) i (omega arith))
    ∙ held_wide a.rows a.height a.width a.low a.narrow a.wide i (omega arith))

-- the matrix that is held has the shape exactly if height and width are right
pub shape_held : (a : Matrix) (s l : ℕ) → 1 ≤ s → (leb s l && leb l 8 && eqb a.height s && eqb a.width l) ≡ (leb s l && leb l 8 && eqb (length (held a)) s && every (λ r. eqb (length r) l) (held a))
shape_held a s l some = bool_path _ _ forth back
  where
    forth : T (leb s l && leb l 8 && eqb a.height s && eqb a.width l) → T (leb s l && leb l 8 && eqb (length (held a)) s && every (λ r. eqb (length r) l) (held a))
    forth t =
        let p = four_parts (leb s l) (leb l 8) (eqb a.height s) (eqb a.width l) t in
        four_hold (leb s l) (leb l 8) _ _ p.one p.two (same_test _ s (held_rows a ∙ eqb→eq a.height s p.three))
        (pass_all (λ r. eqb (length r) l) (λ r. length r ≡ a.width) (λ r e. same_test _ l (e ∙ eqb→eq a.width l p.four)) (held a) (held_columns a))

    back : T (leb s l && leb l 8 && eqb (length (held a)) s && every (λ r. eqb (length r) l) (held a)) → T (leb s l && leb l 8 && eqb a.height s && eqb a.width l)
    back t =
        let p = four_parts (leb s l) (leb l 8) (eqb (length (held a)) s) (every (λ r. eqb (length r) l) (held a)) t in
        let long = eqb→eq (length (held a)) s p.three in
        let there : 0 < length (held a) = omega arith in
        four_hold (leb s l) (leb l 8) _ _ p.one p.two (same_test _ s (sym (held_rows a) ∙ long))
        (same_test _ l (sym (All-get_or (λ r. length r ≡ a.width) (held a) 0 [] there (held_columns a))
        ∙ All-get_or (λ r. length r ≡ l) (held a) 0 [] there (all_pass (λ r. eqb (length r) l) (λ r. length r ≡ l) (λ r e. eqb→eq (length r) l e) (held a) p.four)))

pub rows_length : (l : ℕ) (xs : List ℕ) (n : ℕ) → length (rows_to l xs n) ≡ n
rows_length l xs zero = refl
rows_length l xs (suc n) = length_push (rows_to l xs n) (take l (drop (n * l) xs)) ∙ (let e = rows_length l xs n in omega arith)

rows_are_long : (l : ℕ) (xs : List ℕ) (s n : ℕ) → n ≤ s → length xs ≡ s * l → AllByRecursion (λ r. length r ≡ l) (rows_to l xs n)
rows_are_long l xs s zero h e = tt
rows_are_long l xs s (suc n) h e =
    All-push (λ r. length r ≡ l) (rows_to l xs n) (take l (drop (n * l) xs)) (rows_are_long l xs s n (omega arith) e)
    (length-take l (drop (n * l) xs) ∙ (let d = length-drop (n * l) xs in let f = row_fits n s l h in omega arith))

-- a matrix cut from its entries has the shape exactly if there are s·l of them
pub shape_cut : (s l : ℕ) (xs : List ℕ) → 1 ≤ s → s ≤ 4 → (leb s l && leb l 8 && eqb (length (matrix_of s l xs)) s && every (λ r. eqb (length r) l) (matrix_of s l xs)) ≡ (leb s l && leb l 8 && eqb (length xs) (s * l))
shape_cut s l xs some few = bool_path _ _ forth back
  where
    right : Bool
    right = leb s 4 && leb l 8 && eqb (length xs) (s * l)

    no_rows : (b : Bool) → length (cond b (rows_to l xs s) []) ≡ s → T b
    no_rows true e = tt
    no_rows false e = absurd (omega arith)

    forth : T (leb s l && leb l 8 && eqb (length (matrix_of s l xs)) s && every (λ r. eqb (length r) l) (matrix_of s l xs)) → T (leb s l && leb l 8 && eqb (length xs) (s * l))
    forth t =
        let p = four_parts (leb s l) (leb l 8) (eqb (length (matrix_of s l xs)) s) (every (λ r. eqb (length r) l) (matrix_of s l xs)) t in
        both_hold _ _ (both_hold _ _ p.one p.two)
        (both_right (leb s 4 && leb l 8) (eqb (length xs) (s * l)) (no_rows (leb s 4 && leb l 8 && eqb (length xs) (s * l)) (eqb→eq _ s p.three)))

    back : T (leb s l && leb l 8 && eqb (length xs) (s * l)) → T (leb s l && leb l 8 && eqb (length (matrix_of s l xs)) s && every (λ r. eqb (length r) l) (matrix_of s l xs))
    back t =
        let sl = both_left (leb s l && leb l 8) (eqb (length xs) (s * l)) t in
        let e = both_right (leb s l && leb l 8) (eqb (length xs) (s * l)) t in
        let narrow = both_right (leb s l) (leb l 8) sl in
        let is : matrix_of s l xs ≡ rows_to l xs s
        = cond-true (leb s 4 && leb l 8 && eqb (length xs) (s * l)) (rows_to l xs s) [] (true_is _ (both_hold _ _ (both_hold _ _ (le→leb s 4 few) narrow) e)) in
        four_hold (leb s l) (leb l 8) _ _ (both_left (leb s l) (leb l 8) sl) narrow
        (same_test _ s (ap length is ∙ rows_length l xs s))
        (subst (λ rs. T (every (λ r. eqb (length r) l) rs)) (sym is)
        (pass_all (λ r. eqb (length r) l) (λ r. length r ≡ l) (λ r h. same_test _ l h) (rows_to l xs s) (rows_are_long l xs s s (omega arith) (eqb→eq _ _ e))))

-- the flaw by its tests
pub flaw_by : (M : Meaning) (a b c : Bool) → M.chain.flaw ≡ None → is_shaped M ≡ a → has_symbols M ≡ b → is_nonsingular M ≡ c
    → code_flaw M ≡ option_or (unless a MatrixShape) (option_or (unless b MatrixEntry) (unless c SingularMatrix))
flaw_by M a b c none ea eb ec =
    ap (λ f. option_or f (option_or (unless (is_shaped M) MatrixShape) (option_or (unless (has_symbols M) MatrixEntry) (unless (is_nonsingular M) SingularMatrix)))) none
    ∙ ap (λ x. option_or (unless x MatrixShape) (option_or (unless (has_symbols M) MatrixEntry) (unless (is_nonsingular M) SingularMatrix))) ea
    ∙ ap₂ (λ x y. option_or (unless a MatrixShape) (option_or (unless x MatrixEntry) (unless y SingularMatrix))) eb ec

module _ (C : chains.Meaning) (l : ℕ) (a : Matrix) (some : 1 ≤ C.s) (shaped : is_shaped (holding C l a) ≡ true) where
  parts : Four (leb C.s l) (leb l 8) (eqb a.height C.s) (eqb a.width l)
  parts = four_parts (leb C.s l) (leb l 8) (eqb a.height C.s) (eqb a.width l) (T_is _ (shape_held a C.s l some ∙ shaped))

  pub height_is : a.height ≡ C.s
  height_is = eqb→eq a.height C.s parts.three

  pub width_is : a.width ≡ l
  width_is = eqb→eq a.width l parts.four

  -- the last test decides
  pub flaw_tested : (F : fields.Meaning) (n : Bool) → C.flaw ≡ None → F ≡ C.field → every (symbols F.q) (held a) ≡ true → n ≡ nonsingular F a.height a.width (held a) → code_flaw (holding C l a) ≡ unless n SingularMatrix
  flaw_tested F n none same sy is =
      flaw_by (holding C l a) true true n none shaped (subst (λ G. every (symbols G.q) (held a) ≡ true) same sy)
      (ap₂ (λ h w. nonsingular C.field h w (held a)) (sym height_is) (sym width_is) ∙ ap (λ G. nonsingular G a.height a.width (held a)) (sym same) ∙ sym is)
