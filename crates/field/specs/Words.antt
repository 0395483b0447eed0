-- Words: lists of symbols, and what is computed of them. Assumes nothing.
use Rattle.std.specs.Prelude.{ℕ, Bool, true, false, ◌&&◌, List, [], ◌∷◌, length, Ok, Err, Result, ◌==◌, nat_lt}
use Rattle.std.specs.List.{list_all}
use Rattle.std.specs.Result.{result_unwrap_or}
use Rattle.refusal.specs.declared.Refusal.{Refusal}
use Rattle.refusal.specs.declared.Refusal.TheVariants.{BadArgument}
use Rattle.field.specs.Meaning.{Meaning}
use Rattle.field.specs.Answers.{summed, multiplied, opposed, inverted, provided}

-- each is below q
abbrev pub symbols : ℕ → List ℕ → Bool
symbols q xs = list_all (λ x. nat_lt x q) xs

-- the field's answers where a call cannot refuse: 0 in the place of a refusal
abbrev pub sum_or_0 : Meaning → ℕ → ℕ → ℕ
sum_or_0 F a b = result_unwrap_or (summed F a b) 0

abbrev pub product_or_0 : Meaning → ℕ → ℕ → ℕ
product_or_0 F a b = result_unwrap_or (multiplied F a b) 0

abbrev pub opposite_or_0 : Meaning → ℕ → ℕ
opposite_or_0 F a = result_unwrap_or (opposed F a) 0

abbrev pub inverse_or_0 : Meaning → ℕ → ℕ
inverse_or_0 F a = result_unwrap_or (inverted F a) 0

-- the sum of all symbols
abbrev pub total : Meaning → List ℕ → ℕ
total F [] = 0
total F (x ∷ xs) = F.sum x (total F xs)

-- the value at x of the polynomial with these coefficients, the lowest first
abbrev pub value_at : Meaning → ℕ → List ℕ → ℕ
value_at F x [] = 0
value_at F x (c ∷ cs) = F.sum c (F.product x (value_at F x cs))

-- the sum of two words of one length, and a multiple of a word, place by place
abbrev pub added : Meaning → List ℕ → List ℕ → List ℕ
added F [] ys = []
added F (x ∷ xs) [] = x ∷ xs
added F (x ∷ xs) (y ∷ ys) = F.sum x y ∷ added F xs ys

abbrev pub scaled : Meaning → ℕ → List ℕ → List ℕ
scaled F a [] = []
scaled F a (x ∷ xs) = F.product a x ∷ scaled F a xs

abbrev pub plus_scaled : Meaning → ℕ → List ℕ → List ℕ → List ℕ
plus_scaled F a xs vs = added F xs (scaled F a vs)

-- the same by the total functions, for words that need not be symbols; a place that only xs has stays
abbrev pub value_or_0 : Meaning → ℕ → List ℕ → ℕ
value_or_0 F x [] = 0
value_or_0 F x (c ∷ cs) = sum_or_0 F c (product_or_0 F x (value_or_0 F x cs))

abbrev pub plus_scaled_or_0 : Meaning → ℕ → List ℕ → List ℕ → List ℕ
plus_scaled_or_0 F a [] vs = []
plus_scaled_or_0 F a (x ∷ xs) [] = x ∷ xs
plus_scaled_or_0 F a (x ∷ xs) (v ∷ vs) = sum_or_0 F x (product_or_0 F a v) ∷ plus_scaled_or_0 F a xs vs

-- What the calls on slices answer, for every argument.

abbrev pub totalled : Meaning → List ℕ → Result ℕ Refusal
totalled F xs = provided (symbols F.q xs) (total F xs)

abbrev pub evaluated : Meaning → ℕ → List ℕ → Result ℕ Refusal
evaluated F x cs = provided (nat_lt x F.q && symbols F.q cs) (value_at F x cs)

-- xs and vs are words of one length, and a is a symbol
abbrev pub addable : Meaning → ℕ → List ℕ → List ℕ → Bool
addable F a xs vs = nat_lt a F.q && symbols F.q xs && symbols F.q vs && length xs == length vs

abbrev pub done_if : Bool → Result (Unit {0}) Refusal
done_if true = Ok tt
done_if false = Err BadArgument
