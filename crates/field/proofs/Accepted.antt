-- What a call of a field answers once its arguments are known to be symbols. Assumes nothing.
use Rattle.std.proofs.Common.{◌≡◌, ℕ, ◌<◌, Bool, true, false, not, ◌&&◌, T, eqb, ltb, Ok, Result, refl, ap, eqb→eq, lt→ltb}
use lib.Dec.{not_T}
use Rattle.refusal.specs.declared.Refusal.{Refusal}
use Rattle.std.specs.Result.{result_unwrap_or}
use Rattle.field.specs.Answers.{provided}
use Rattle.field.specs.Meaning.{Meaning, opposite_of, inverse_of}
use Rattle.field.specs.Words.{sum_or_0, product_or_0, opposite_or_0, inverse_or_0}

pub both_hold : (a b : Bool) → T a → T b → T (a && b)
both_hold true b s t = t
both_hold false b s t = s

pub passed : (b : Bool) (v w : ℕ) → T b → v ≡ w → ◌≡◌ {A = Result ℕ Refusal} (Ok v) (provided b w)
passed true v w t e = ap Ok e
passed false v w t e = absurd t

pub accepted : (a q v w : ℕ) → a < q → v ≡ w → ◌≡◌ {A = Result ℕ Refusal} (Ok v) (provided (ltb a q) w)
accepted a q v w h e = passed _ v w (lt→ltb a q h) e

pub accepted² : (a b q v w : ℕ) → a < q → b < q → v ≡ w → ◌≡◌ {A = Result ℕ Refusal} (Ok v) (provided (ltb a q && ltb b q) w)
accepted² a b q v w ha hb e = passed _ v w (both_hold _ _ (lt→ltb a q ha) (lt→ltb b q hb)) e

pub accepted_but_0 : (a q v w : ℕ) → a < q → (a ≡ 0 → ⊥) → v ≡ w → ◌≡◌ {A = Result ℕ Refusal} (Ok v) (provided (ltb a q && not (eqb a 0)) w)
accepted_but_0 a q v w h not0 e = passed _ v w (both_hold _ _ (lt→ltb a q h) (not_T (eqb a 0) (λ z. not0 (eqb→eq a 0 z)))) e

-- the total functions, at symbols
pub value_is : (b : Bool) (v : ℕ) → T b → result_unwrap_or (provided b v) 0 ≡ v
value_is true v t = refl
value_is false v t = absurd t

module _ (F : Meaning) where
  pub sum_or_0_is : (a b : ℕ) → a < F.q → b < F.q → sum_or_0 F a b ≡ F.sum a b
  sum_or_0_is a b ha hb = value_is _ _ (both_hold _ _ (lt→ltb a F.q ha) (lt→ltb b F.q hb))

  pub product_or_0_is : (a b : ℕ) → a < F.q → b < F.q → product_or_0 F a b ≡ F.product a b
  product_or_0_is a b ha hb = value_is _ _ (both_hold _ _ (lt→ltb a F.q ha) (lt→ltb b F.q hb))

  pub opposite_or_0_is : (a : ℕ) → a < F.q → opposite_or_0 F a ≡ opposite_of F a
  opposite_or_0_is a h = value_is _ _ (lt→ltb a F.q h)

  pub inverse_or_0_is : (a : ℕ) → a < F.q → (a ≡ 0 → ⊥) → inverse_or_0 F a ≡ inverse_of F a
  inverse_or_0_is a h not0 = value_is _ _ (both_hold _ _ (lt→ltb a F.q h) (not_T (eqb a 0) (λ z. not0 (eqb→eq a 0 z))))
