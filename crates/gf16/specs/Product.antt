-- GF(16): a symbol's four bits are the coefficients of a polynomial over two elements, the lowest bit that of 1.
-- Assumes nothing.
use Rattle.std.specs.Prelude.{Bool, cond, ℕ, zero, suc, ◌*◌, ◌/◌, ◌%◌, ◌^◌, ◌-◌, eqb}
use Rattle.std.specs.Int.Bits.{bit_xor}
use Rattle.field.specs.Meaning.{Meaning}

-- the coefficient of x^k is not 0
unfoldable pub has_bit : ℕ → ℕ → Bool
has_bit a k = eqb (a / (2 ^ k) % 2) 1

-- a·x^k, if b has the term x^k
unfoldable pub term : ℕ → ℕ → ℕ → ℕ
unfolding has_bit
term a b k = cond (has_bit b k) (a * 2 ^ k) 0

-- the product of two polynomials of degree at most 3: of degree at most 6
unfoldable pub polynomial_product : ℕ → ℕ → ℕ
unfolding term
polynomial_product a b = bit_xor (term a b 0) (bit_xor (term a b 1) (bit_xor (term a b 2) (term a b 3)))

-- one step of the long division by x⁴ + x + 1, whose bits are 10011: a term x^k, k at least 4, is taken away
unfoldable pub step : ℕ → ℕ → ℕ
unfolding has_bit
step k a = cond (has_bit a k) (bit_xor a (19 * 2 ^ (k - 4))) a

-- the product modulo x⁴ + x + 1
unfoldable pub product : ℕ → ℕ → ℕ
unfolding step polynomial_product
product a b = step 4 (step 5 (step 6 (polynomial_product a b)))

-- 2 to the power n, by that product
unfoldable pub power : ℕ → ℕ
unfolding product
power zero = 1
power (suc n) = product 2 (power n)

abbrev pub sixteen : Meaning
sixteen = record { q = 16; sum = bit_xor; product = product }
