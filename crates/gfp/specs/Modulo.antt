-- GF(p): the numbers below a prime p, with sum and product by remainder. Assumes nothing.
use Rattle.std.specs.Prelude.{ℕ, ◌+◌, ◌*◌, ◌%◌, Bool, true, false, ◌||◌, Ok, Err, Result, ◌==◌}
use Rattle.refusal.specs.declared.Refusal.{Refusal}
use Rattle.refusal.specs.declared.Refusal.TheVariants.{UnsupportedPrime}
use Rattle.field.specs.Meaning.{Meaning}

-- the primes that the link supports
abbrev pub supported : ℕ → Bool
supported p = p == 3 || p == 7 || p == 17

abbrev pub modulo : ℕ → Meaning
modulo p = record { q = p; sum = λ a b. (a + b) % p; product = λ a b. a * b % p }

abbrev pub made_if : Bool → ℕ → Result ℕ Refusal
made_if true p = Ok p
made_if false p = Err UnsupportedPrime

-- the p of the field that is made, else refusal 2
abbrev pub made : ℕ → Result ℕ Refusal
made p = made_if (supported p) p
