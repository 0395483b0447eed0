-- What each call of a field answers, for every argument. Assumes nothing.
use Rattle.std.specs.Prelude.{ℕ, Bool, true, false, not, ◌&&◌, Ok, Err, Result, ◌==◌, nat_lt}
use Rattle.refusal.specs.declared.Refusal.{Refusal}
use Rattle.refusal.specs.declared.Refusal.TheVariants.{BadArgument}
use Rattle.field.specs.Meaning.{Meaning, opposite_of, inverse_of}

-- the value where the test passes, else refusal 1
abbrev pub provided : Bool → ℕ → Result ℕ Refusal
provided true v = Ok v
provided false v = Err BadArgument

abbrev pub summed : Meaning → ℕ → ℕ → Result ℕ Refusal
summed F a b = provided (nat_lt a F.q && nat_lt b F.q) (F.sum a b)

abbrev pub multiplied : Meaning → ℕ → ℕ → Result ℕ Refusal
multiplied F a b = provided (nat_lt a F.q && nat_lt b F.q) (F.product a b)

abbrev pub opposed : Meaning → ℕ → Result ℕ Refusal
opposed F a = provided (nat_lt a F.q) (opposite_of F a)

abbrev pub inverted : Meaning → ℕ → Result ℕ Refusal
inverted F a = provided (nat_lt a F.q && not (a == 0)) (inverse_of F a)
