-- Which words are numbers. Assumes nothing.
use Rattle.std.specs.Prelude.{ℕ, ◌+◌, ◌-◌, ◌*◌, ◌^◌, cond, fold, ◌&&◌, List, [], ◌∷◌, Some, None, Option, nat_lt}
use Rattle.std.specs.List.{list_all}
use Rattle.std.specs.Option.{option_map, option_zip}
use Rattle.std.specs.Char.{is_ascii_digit}

-- the value of decimal digits that follow those of the value v
abbrev pub value_from : ℕ → List ℕ → ℕ
value_from = fold (λ v b. v * 10 + (b - 48))

abbrev pub number_from : ℕ → List ℕ → Option ℕ
number_from v bs = cond (list_all is_ascii_digit bs && nat_lt (value_from v bs) (2 ^ 32)) (Some (value_from v bs)) None

-- one or more decimal digits, of a value below 2^32
abbrev pub number : List ℕ → Option ℕ
number [] = None
number (b ∷ bs) = number_from 0 (b ∷ bs)

-- what the items read as, if each does
abbrev pub each : {X Y : Type 0} → (X → Option Y) → List X → Option (List Y)
each f [] = Some []
each f (x ∷ xs) = option_map (λ p. p.0 ∷ p.1) (option_zip (f x) (each f xs))

-- the numbers that the words are, if each is one
abbrev pub numbers : List (List ℕ) → Option (List ℕ)
numbers = each number
