-- A value that is too large stays so. Assumes nothing.
use Rattle.std.proofs.Common.{◌≡◌, ℕ, ◌+◌, ◌-◌, ◌*◌, ◌^◌, ◌<◌, ◌≤◌, ◌&&◌, ltb, List, [], ◌∷◌, length, get_or, drop, Some, None, ◌∙◌, arith}
use Rattle.std.proofs.lemmas.Bool.{le-ltb, and_right, cond-false}
use Rattle.std.proofs.lemmas.List.{at_drop_more}
use Rattle.std.specs.Char.{is_ascii_digit}
use Rattle.std.specs.List.{list_all}
use Rattle.script.specs.Numbers.{value_from, number_from}

-- a digit more makes a value no smaller
grows : (v : ℕ) (bs : List ℕ) → v ≤ value_from v bs
grows v [] = omega arith
grows v (b ∷ bs) = omega (arith, grows (v * 10 + (b - 48)) bs)

pub too_large : (v : ℕ) (bs : List ℕ) (i : ℕ) → i < length bs → 2 ^ 32 ≤ v * 10 + (get_or bs i 0 - 48) → number_from v (drop i bs) ≡ None
too_large v bs i inside large =
    let b = get_or bs i 0 in
    let rest = drop (i + 1) bs in
    let w = value_from v (b ∷ rest) in
    let beyond = le-ltb w (2 ^ 32) (omega (arith, grows (v * 10 + (b - 48)) rest)) in
    at_drop_more (number_from v) bs i 0 inside
    ∙ cond-false (list_all is_ascii_digit (b ∷ rest) && ltb w (2 ^ 32)) (Some w) None (and_right (list_all is_ascii_digit (b ∷ rest)) (ltb w (2 ^ 32)) beyond)
