-- GF(4): polynomials of degree at most 1 over two elements, modulo x² + x + 1. Assumes nothing.
use Rattle.std.specs.Prelude.{ℕ, ◌*◌, ◌/◌, ◌%◌, cond, bit_xor, nat_lt}
use Rattle.field.specs.Meaning.{Meaning}

-- a·(b₀ + b₁x): of degree at most 2
unfoldable pub polynomial_product : ℕ → ℕ → ℕ
polynomial_product a b = bit_xor (a * (b % 2)) (2 * a * (b / 2))

-- 7 has the bits of x² + x + 1
unfoldable pub product : ℕ → ℕ → ℕ
unfolding polynomial_product
product a b = let p = polynomial_product a b in cond (nat_lt p 4) p (bit_xor p 7)

abbrev pub four : Meaning
four = record { q = 4; sum = bit_xor; product = product }
