-- Sums, least numbers and falling products over the levels: their steps and how large they are. Assumes nothing.
use Rattle.std.proofs.Common.{◌≡◌, ℕ, zero, suc, ◌+◌, ◌-◌, ◌*◌, ◌^◌, ◌<◌, ◌≤◌, min, sym, ap, ap₂, ◌∙◌, subst, mul-le-mul, pow-suc, add-one, arith}
use native.Mathlib.Nat.{pow-le-pow_right}
use native.Mathlib.Decide.{ℕ_discrete}
use Rattle.chain.specs.Meaning.{Meaning, IsChain}
use Rattle.code.specs.Numbers.{sum_to, least_to, falling}

pub sum_most : (f : ℕ → ℕ) (n : ℕ) → ((i : ℕ) → 1 ≤ i → i ≤ n → f i ≤ 32) → sum_to f n ≤ n * 32
sum_most f zero h = omega arith
sum_most f (suc n) h = let a = sum_most f n (λ i l m. h i l (omega arith)) in let b = h (suc n) (omega arith) (omega arith) in omega arith

-- all messages of a chain together are short
pub sizes_small : (C : Meaning) → IsChain C → (n : ℕ) → n ≤ C.s → sum_to C.size n ≤ 128
sizes_small C chain n h =
    let each = sum_most C.size n (λ i l m. omega (arith, chain.size_most i (record { from = l; to = omega arith }), chain.m_most)) in
    omega (arith, each, chain.s_most)

-- one number more
pub sum_more : (f : ℕ → ℕ) (n s x k : ℕ) → 1 ≤ n → s ≡ sum_to f (n - 1) → x ≡ f n → k ≡ n → s + x ≡ sum_to f k
sum_more f zero s x k l e h same = absurd (omega arith)
sum_more f (suc n) s x k l e h same = let back : suc n - 1 ≡ n = omega arith in ap₂ ◌+◌ (e ∙ ap (sum_to f) back) h ∙ ap (sum_to f) (sym same)

-- up to eight factors of at most eight
pub falling_most : (l n : ℕ) → l ≤ 8 → falling l n ≤ 8 ^ n
falling_most l zero h = omega arith
falling_most l (suc n) h = let a : falling l n * (l - n) ≤ 8 ^ n * 8 = mul-le-mul (falling_most l n h) (omega arith) in subst (λ x. falling l n * (l - n) ≤ x) (sym (pow-suc 8 n)) a

pub falling_small : (l n : ℕ) → l ≤ 8 → n < 8 → falling l n * (l - n) ≤ 16777216
falling_small l n h k =
    let a : falling l n * (l - n) ≤ 8 ^ n * 8 = mul-le-mul (falling_most l n h) (omega arith) in
    let b : 8 ^ n ≤ 8 ^ 7 = let p : 0 < 8 = omega arith in let k : n ≤ 7 = omega arith in pow-le-pow_right p k in
    omega arith

pub falling_more : (l n x : ℕ) → x ≡ falling l n → x * (l - n) ≡ falling l (n + 1)
falling_more l n x e = ap (λ z. z * (l - n)) e ∙ sym (ap (falling l) (add-one n))

-- the least is at most each
pub least_below : (f : ℕ → ℕ) (n i : ℕ) → 1 ≤ i → i ≤ n → least_to f n ≤ f i
least_below f zero i l m = absurd (omega arith)
least_below f (suc n) i l m =
    elim (ℕ_discrete i (suc n)) [
      | yes e ↦ subst (λ k. min (least_to f n) (f (suc n)) ≤ f k) (sym e) (omega arith)
      | no k ↦ let a = least_below f n i l (omega arith) in omega arith
    ]

-- and more than 0 if each is
pub least_some : (f : ℕ → ℕ) (n : ℕ) → 0 < f 1 → ((i : ℕ) → 1 ≤ i → i ≤ n → 0 < f i) → 0 < least_to f n
least_some f zero first h = first
least_some f (suc n) first h = let a = least_some f n first (λ i l m. h i l (omega arith)) in let b = h (suc n) (omega arith) (omega arith) in omega arith
