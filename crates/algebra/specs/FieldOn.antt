-- Arithmetic on a set of elements, and the laws that make it a field. Assumes nothing.
use Rattle.std.specs.Prelude.{◌≡◌, ◌≢◌}

pub record Ops (K : Type 0) : Type 0 where
  pub zero : K
  pub one : K
  pub add : K → K → K
  pub mul : K → K → K
  pub neg : K → K
  pub inv : K → K

-- A field: the laws hold for all elements, and equality can be decided.
pub record FieldOn (K : Type 0) : Type 0 where
  pub ops : Ops K
  pub sum_comm : (a b : K) → ops.add a b ≡ ops.add b a
  pub sum_assoc : (a b c : K) → ops.add (ops.add a b) c ≡ ops.add a (ops.add b c)
  pub sum_zero : (a : K) → ops.add a ops.zero ≡ a
  pub sum_neg : (a : K) → ops.add a (ops.neg a) ≡ ops.zero
  pub product_comm : (a b : K) → ops.mul a b ≡ ops.mul b a
  pub product_assoc : (a b c : K) → ops.mul (ops.mul a b) c ≡ ops.mul a (ops.mul b c)
  pub product_one : (a : K) → ops.mul a ops.one ≡ a
  pub product_inv : (a : K) → (a ≢ ops.zero) → ops.mul a (ops.inv a) ≡ ops.one
  pub distributive : (a b c : K) → ops.mul a (ops.add b c) ≡ ops.add (ops.mul a b) (ops.mul a c)
  pub one_not_zero : ops.one ≡ ops.zero → ⊥
  pub same? : (a b : K) → Dec (a ≡ b)
