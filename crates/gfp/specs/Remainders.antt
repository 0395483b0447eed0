-- Sum and product by remainder are those of a field at each supported prime. Assumes nothing.
use Rattle.std.specs.Prelude.{◌≡◌, ℕ, ◌+◌, ◌-◌, ◌*◌, ◌/◌, ◌%◌, ◌<◌, ◌≤◌, Bool, true, false, ◌&&◌, ◌||◌, T, ◌⊎◌, ◌==◌, nat_lt}
use Rattle.std.proofs.Common.{sym, ap, subst, ◌∙◌, inl, inr, ⊎_elim, mod-lt, mod-eq_of_lt, mul_comm, mul_assoc, mul-add, add-mul, add_comm, add_assoc, add-zero, mul-one, arith, eqb→eq, ltb→lt, lit<, lit≤}
use Rattle.std.proofs.Math.Nat.{mod_self, div-add-mod, mul-add-mod_self_left, mod-add-mod, add-mod-mod}
use Rattle.field.specs.Meaning.{IsField, inverse_of}
use Rattle.field.proofs.Tests.{each, each_at, both_left, both_right}
use Rattle.gfp.specs.Modulo.{supported, modulo}

one_of : (a b : Bool) → T (a || b) → T a ⊎ T b
one_of true b t = inl tt
one_of false b t = inr t

-- what holds at 3, 7 and 17 holds at every supported p
pub at_supported : (P : ℕ → Type 0) → P 3 → P 7 → P 17 → (p : ℕ) → T (supported p) → P p
at_supported P at3 at7 at17 p t =
    ⊎_elim
    (λ s. ⊎_elim (λ h. subst P (sym (eqb→eq p 3 h)) at3) (λ h. subst P (sym (eqb→eq p 7 h)) at7) (one_of (p == 3) (p == 7) s))
    (λ h. subst P (sym (eqb→eq p 17 h)) at17) (one_of (p == 3 || p == 7) (p == 17) t)

-- a remainder may be taken of a factor first
pub mod_mul_mod : (a b p : ℕ) → (a % p) * b % p ≡ a * b % p
mod_mul_mod a b p =
    let split : a * b ≡ p * (a / p * b) + (a % p) * b = ap (λ x. x * b) (sym (div-add-mod a p)) ∙ add-mul (p * (a / p)) (a % p) b ∙ ap (λ x. x + (a % p) * b) (mul_assoc p (a / p) b) in
    sym (ap (λ x. x % p) split ∙ mul-add-mod_self_left p (a / p * b) ((a % p) * b))

pub mul_mod_mod : (a b p : ℕ) → a * (b % p) % p ≡ a * b % p
mul_mod_mod a b p = ap (λ x. x % p) (mul_comm a (b % p)) ∙ mod_mul_mod b a p ∙ ap (λ x. x % p) (mul_comm b a)

inverse_test : ℕ → ℕ → Bool
inverse_test p a = a == 0 || (nat_lt (inverse_of (modulo p) a) p && a * inverse_of (modulo p) a % p == 1)

unless : (a b : Bool) → T (a || b) → (T a → ⊥) → T b
unless true b t h = absurd (h tt)
unless false b t h = t

-- that every symbol but 0 has an inverse is computed at the three primes
inverses : (p : ℕ) → T (supported p) → T (each p (inverse_test p))
unfolding inverse_test
inverses = at_supported (λ p. T (each p (inverse_test p))) tt tt tt

pub is_field : (p : ℕ) → T (supported p) → IsField (modulo p)
unfolding inverse_test
is_field p t =
    let pos : 0 < p = at_supported (λ p. 0 < p) (lit< tt) (lit< tt) (lit< tt) p t in
    let big : 1 < p = at_supported (λ p. 1 < p) (lit< tt) (lit< tt) (lit< tt) p t in
    record {
      q_least = big;
      q_most = at_supported (λ p. p ≤ 128) (lit≤ tt) (lit≤ tt) (lit≤ tt) p t;
      sum_closed = λ a b _ _. mod-lt (a + b) pos;
      product_closed = λ a b _ _. mod-lt (a * b) pos;
      sum_comm = λ a b _ _. ap (λ x. x % p) (add_comm a b);
      product_comm = λ a b _ _. ap (λ x. x % p) (mul_comm a b);
      sum_assoc = λ a b c _ _ _. mod-add-mod (a + b) p c ∙ ap (λ x. x % p) (add_assoc a b c) ∙ sym (add-mod-mod a (b + c) p);
      product_assoc = λ a b c _ _ _. mod_mul_mod (a * b) c p ∙ ap (λ x. x % p) (mul_assoc a b c) ∙ sym (mul_mod_mod a (b * c) p);
      distributive = λ a b c _ _ _. mul_mod_mod a (b + c) p ∙ ap (λ x. x % p) (mul-add a b c) ∙ sym (mod-add-mod (a * b) p (a * c % p) ∙ add-mod-mod (a * b) (a * c) p);
      sum_zero = λ a h. ap (λ x. x % p) (add-zero a) ∙ mod-eq_of_lt h;
      product_one = λ a h. ap (λ x. x % p) (mul-one a) ∙ mod-eq_of_lt h;
      has_opposite = λ a h.
          let whole : a + (p - a) ≡ p = omega arith in
          ((p - a) % p, mod-lt (p - a) pos, add-mod-mod a (p - a) p ∙ ap (λ x. x % p) whole ∙ mod_self p);
      has_inverse = λ a h not0.
          let passed = unless _ _ (each_at (inverse_test p) p (inverses p t) a h) (λ z. not0 (eqb→eq a 0 z)) in
          (inverse_of (modulo p) a, ltb→lt _ _ (both_left _ _ passed), eqb→eq _ _ (both_right _ _ passed));
    }
