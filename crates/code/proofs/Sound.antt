-- What is known of a code without a flaw. Assumes nothing.
use Rattle.std.proofs.Common.{◌≡◌, ℕ, ◌-◌, ◌<◌, ◌≤◌, Bool, true, false, T, eqb, leb, List, [], length, get_or, Some, None, Option, sym, refl, subst, arith, eqb→eq, leb→le}
use native.Mathlib.Decide.{dec_lt}
use Rattle.std.specs.Option.{option_or}
use Rattle.std.specs.List.{AllByRecursion}
use Rattle.std.proofs.ByRecursion.{All-get_or}
use Rattle.std.proofs.lemmas.List.{get_or_past}
use Rattle.refusal.specs.declared.Refusal.{Refusal}
use Rattle.refusal.specs.declared.Refusal.TheVariants.{MatrixShape, MatrixEntry, SingularMatrix}
use Rattle.field.specs.Meaning.{IsField}
use Rattle.field.specs.Meaning as fields
use Rattle.field.specs.Words.{symbols}
use Rattle.field.proofs.Tests.{T_is}
use Rattle.algebra.specs.Matrices.{every}
use Rattle.chain.specs.Answers.{unless}
use Rattle.code.specs.Meaning.{Meaning, entry_at}
use Rattle.code.specs.Numbers.{is_shaped, has_symbols, is_nonsingular, code_flaw}
use Rattle.code.proofs.Clearing.{symbol_any}
use Rattle.code.proofs.Sentence.{all_pass}
use Rattle.code.proofs.Shape.{four_parts}

none_parts : (x y : Option Refusal) → option_or x y ≡ None → (x ≡ None) × (y ≡ None)
none_parts None y e = (refl, e)
none_parts (Some r) y e = absurd (cc)

passed : (b : Bool) (r : Refusal) → unless b r ≡ None → b ≡ true
passed true r e = refl
passed false r e = absurd (cc)

pub record Sound (M : Meaning) : Type 0 where
  pub none : M.chain.flaw ≡ None
  pub shaped : is_shaped M ≡ true
  pub narrow : M.chain.s ≤ M.l
  pub wide : M.l ≤ 8
  pub tall : length M.matrix ≡ M.chain.s
  pub lengths : AllByRecursion (λ r. length r ≡ M.l) M.matrix
  pub words : AllByRecursion (λ r. T (symbols M.chain.field.q r)) M.matrix
  pub columns : T (is_nonsingular M)

pub sound : (M : Meaning) → code_flaw M ≡ None → Sound M
sound M e =
    let a = none_parts M.chain.flaw _ e in
    let b = none_parts (unless (is_shaped M) MatrixShape) _ a.1 in
    let c = none_parts (unless (has_symbols M) MatrixEntry) (unless (is_nonsingular M) SingularMatrix) b.1 in
    let shaped = passed (is_shaped M) MatrixShape b.0 in
    let four = four_parts (leb M.chain.s M.l) (leb M.l 8) (eqb (length M.matrix) M.chain.s) (every (λ r. eqb (length r) M.l) M.matrix) (T_is _ shaped) in
    record {
      none = a.0;
      shaped = shaped;
      narrow = leb→le _ _ four.one;
      wide = leb→le _ _ four.two;
      tall = eqb→eq _ _ four.three;
      lengths = all_pass (λ r. eqb (length r) M.l) (λ r. length r ≡ M.l) (λ r t. eqb→eq (length r) M.l t) M.matrix four.four;
      words = all_pass (symbols M.chain.field.q) (λ r. T (symbols M.chain.field.q r)) (λ r t. t) M.matrix (T_is _ (passed (has_symbols M) MatrixEntry c.0));
      columns = T_is _ (passed (is_nonsingular M) SingularMatrix c.1);
    }

-- every entry is a symbol, and past the matrix there are zeros
pub entry_small : {F : fields.Meaning} (lawful : IsField F) (rows : List (List ℕ)) → AllByRecursion (λ r. T (symbols F.q r)) rows → (i j : ℕ) → entry_at rows i j < F.q
entry_small {F} lawful rows h i j = symbol_any lawful (get_or rows (i - 1) []) (go (dec_lt (i - 1) (length rows))) (j - 1)
  where
    go : Dec (i - 1 < length rows) → T (symbols F.q (get_or rows (i - 1) []))
    go (yes l) = All-get_or (λ r. T (symbols F.q r)) rows (i - 1) [] l h
    go (no l) = subst (λ r. T (symbols F.q r)) (sym (get_or_past rows (i - 1) [] (omega arith))) tt
