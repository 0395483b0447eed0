-- The tables of GF(16) and their rules, each shown by one test that is computed over the whole table. Assumes nothing.
use Rattle.std.specs.Prelude.{◌≡◌, ◌&&◌, List, [], ◌∷◌, ℕ, suc, ◌+◌, ◌-◌, ◌%◌, ◌<◌, T, eqb, ltb, get_or}
use Rattle.std.proofs.Common.{sym, ◌∙◌, ap, mod-lt, arith, eqb→eq, ltb→lt, lit<}
use Rattle.std.specs.Int.Bits.{bit_xor}
use Rattle.field.specs.Meaning.{IsField, inverse_of, opposite_of}
use Rattle.field.proofs.Tests.{each_at, each²_at, both_left, both_right}
use Rattle.field.proofs.Finite.{field_by_tests}
use Rattle.field.proofs.Unique.{opposite_is, inverse_is}
use Rattle.gf16.specs.Product.{product, power, sixteen}

abbrev pub powers : List ℕ
powers = 1 ∷ 2 ∷ 4 ∷ 8 ∷ 3 ∷ 6 ∷ 12 ∷ 11 ∷ 5 ∷ 10 ∷ 7 ∷ 14 ∷ 15 ∷ 13 ∷ 9 ∷ []

abbrev pub logs : List ℕ
logs = 0 ∷ 1 ∷ 4 ∷ 2 ∷ 8 ∷ 5 ∷ 10 ∷ 3 ∷ 14 ∷ 9 ∷ 7 ∷ 6 ∷ 13 ∷ 11 ∷ 12 ∷ []

abbrev pub log : ℕ → ℕ
log a = get_or logs (a - 1) 0

pub is_field : IsField sixteen
unfolding product
is_field =
    field_by_tests (record {
      q_least = tt;
      q_most = tt;
      sum_closed = tt;
      product_closed = tt;
      sum_comm = tt;
      product_comm = tt;
      sum_assoc = tt;
      product_assoc = tt;
      distributive = tt;
      sum_zero = tt;
      product_one = tt;
      has_opposite = tt;
      has_inverse = tt;
    })

-- at n stands 2 to the power n
pub powers_rule : (n : ℕ) → n < 15 → get_or powers n 0 ≡ power n
unfolding power
powers_rule n h = eqb→eq _ _ (each_at (λ n. eqb (get_or powers n 0) (power n)) 15 tt n h)

-- 2 to the power of the log of a is a
logs_test : (n : ℕ) → n < 15 → T (ltb (get_or logs n 0) 15 && eqb (power (get_or logs n 0)) (suc n))
unfolding power
logs_test = each_at (λ n. ltb (get_or logs n 0) 15 && eqb (power (get_or logs n 0)) (suc n)) 15 tt

pub logs_small : (n : ℕ) → n < 15 → get_or logs n 0 < 15
logs_small n h = ltb→lt _ _ (both_left _ _ (logs_test n h))

pub logs_rule : (a : ℕ) → 0 < a → a < 16 → power (log a) ≡ a
logs_rule a pos small =
    let back : suc (a - 1) ≡ a = omega arith in
    eqb→eq _ _ (both_right _ _ (logs_test (a - 1) (omega arith))) ∙ back

-- the logs of two factors add to that of the product, modulo 15
product_rule : (a b : ℕ) → a < 15 → b < 15 → power ((get_or logs a 0 + get_or logs b 0) % 15) ≡ product (suc a) (suc b)
unfolding power
product_rule a b ha hb = eqb→eq _ _ (each²_at (λ a b. eqb (power ((get_or logs a 0 + get_or logs b 0) % 15)) (product (suc a) (suc b))) 15 tt a b ha hb)

pub product_by_logs : (a b : ℕ) → 0 < a → a < 16 → 0 < b → b < 16 → get_or powers ((log a + log b) % 15) 0 ≡ product a b
product_by_logs a b pa ha pb hb =
    let backa : suc (a - 1) ≡ a = omega arith in
    let backb : suc (b - 1) ≡ b = omega arith in
    powers_rule _ (mod-lt (log a + log b) (lit< tt)) ∙ product_rule (a - 1) (b - 1) (omega arith) (omega arith) ∙ ap (λ x. product x (suc (b - 1))) backa ∙ ap (product a) backb

pub times_zero : (a : ℕ) → a < 16 → product a 0 ≡ 0
unfolding product
times_zero a h = eqb→eq _ _ (each_at (λ a. eqb (product a 0) 0) 16 tt a h)

pub zero_times : (b : ℕ) → b < 16 → product 0 b ≡ 0
unfolding product
zero_times b h = eqb→eq _ _ (each_at (λ b. eqb (product 0 b) 0) 16 tt b h)

inverse_test : (n : ℕ) → n < 15 → T (ltb (get_or powers ((15 - get_or logs n 0) % 15) 0) 16 && eqb (product (suc n) (get_or powers ((15 - get_or logs n 0) % 15) 0)) 1)
unfolding product
inverse_test = each_at (λ n. ltb (get_or powers ((15 - get_or logs n 0) % 15) 0) 16 && eqb (product (suc n) (get_or powers ((15 - get_or logs n 0) % 15) 0)) 1) 15 tt

pub inverse_by_logs : (a : ℕ) → 0 < a → a < 16 → get_or powers ((15 - log a) % 15) 0 ≡ inverse_of sixteen a
inverse_by_logs a pos small =
    let back : suc (a - 1) ≡ a = omega arith in
    let passed = inverse_test (a - 1) (omega arith) in
    inverse_is is_field a _ small (omega arith) (ltb→lt _ _ (both_left _ _ passed)) (ap (λ x. product x (get_or powers ((15 - log a) % 15) 0)) (sym back) ∙ eqb→eq _ _ (both_right _ _ passed))

pub own_opposite : (a : ℕ) → a < 16 → a ≡ opposite_of sixteen a
own_opposite a small = opposite_is is_field a a small small (eqb→eq _ _ (each_at (λ a. eqb (bit_xor a a) 0) 16 tt a small))
