-- What a field means, and the laws that make a meaning a field. Assumes nothing.
use Rattle.std.specs.Prelude.{◌≡◌, ℕ, zero, suc, ◌<◌, ◌≤◌, Bool, cond, ◌≢◌, nat_eq}

-- A field has q symbols, the numbers 0 to q − 1, with a sum and a product of two symbols.
pub record Meaning : Type 0 where
  pub q : ℕ
  pub sum : ℕ → ℕ → ℕ
  pub product : ℕ → ℕ → ℕ

-- The laws of a field, owed for symbols alone: what sum and product do to other numbers is open.
pub record IsField (F : Meaning) : Type 0 where
  pub q_least : 2 ≤ F.q
  pub q_most : F.q ≤ 128
  pub sum_closed : (a b : ℕ) → a < F.q → b < F.q → F.sum a b < F.q
  pub product_closed : (a b : ℕ) → a < F.q → b < F.q → F.product a b < F.q
  pub sum_comm : (a b : ℕ) → a < F.q → b < F.q → F.sum a b ≡ F.sum b a
  pub product_comm : (a b : ℕ) → a < F.q → b < F.q → F.product a b ≡ F.product b a
  pub sum_assoc : (a b c : ℕ) → a < F.q → b < F.q → c < F.q → F.sum (F.sum a b) c ≡ F.sum a (F.sum b c)
  pub product_assoc : (a b c : ℕ) → a < F.q → b < F.q → c < F.q → F.product (F.product a b) c ≡ F.product a (F.product b c)
  pub distributive : (a b c : ℕ) → a < F.q → b < F.q → c < F.q → F.product a (F.sum b c) ≡ F.sum (F.product a b) (F.product a c)
  pub sum_zero : (a : ℕ) → a < F.q → F.sum a 0 ≡ a
  pub product_one : (a : ℕ) → a < F.q → F.product a 1 ≡ a
  pub has_opposite : (a : ℕ) → a < F.q → (b : ℕ) × (b < F.q) × (F.sum a b ≡ 0)
  pub has_inverse : (a : ℕ) → a < F.q → (a ≢ 0) → (b : ℕ) × (b < F.q) × (F.product a b ≡ 1)

-- the first of the n numbers from i on that passes the test, 0 if none does
abbrev pub first : (ℕ → Bool) → ℕ → ℕ → ℕ
first test i zero = 0
first test i (suc n) = let later = first test (suc i) n in cond (test i) i later

-- the symbol that adds to 0 with a
abbrev pub opposite_of : Meaning → ℕ → ℕ
opposite_of F a = first (λ b. nat_eq (F.sum a b) 0) 0 F.q

-- the symbol that multiplies to 1 with a
abbrev pub inverse_of : Meaning → ℕ → ℕ
inverse_of F a = first (λ b. nat_eq (F.product a b) 1) 0 F.q

-- b is a symbol with the property, and the only one
pub record Exactly (q : ℕ) (P : ℕ → Type 0) (b : ℕ) : Type 0 where
  pub symbol : b < q
  pub holds : P b
  pub only : (c : ℕ) → c < q → P c → c ≡ b
