-- A fact about every number below n, shown by a test that is computed at each. Assumes nothing.
use Rattle.std.proofs.Common.{◌≡◌, ℕ, zero, suc, ◌+◌, ◌<◌, ◌≤◌, Bool, true, false, cond, ◌&&◌, T, ◌⊎◌, sym, refl, ap, ◌∙◌, subst, inl, inr, ⊎_elim, arith}
use native.Mathlib.Decide.{dec_lt}
use Rattle.field.specs.Meaning.{first}

pub both_left : (a b : Bool) → T (a && b) → T a
both_left true b t = tt
both_left false b t = t

pub both_right : (a b : Bool) → T (a && b) → T b
both_right true b t = t
both_right false b t = absurd t

pub true_is : (b : Bool) → T b → b ≡ true
true_is true t = refl
true_is false t = absurd t

pub T_is : (b : Bool) → b ≡ true → T b
T_is b e = subst T (sym e) tt

pub is_false : (b : Bool) → (T b → ⊥) → b ≡ false
is_false true h = absurd (h tt)
is_false false h = refl

pub and_true : (a b : Bool) → T a → (a && b) ≡ b
and_true true b t = refl
and_true false b t = absurd t

pub and_false : (a b : Bool) → (T a → ⊥) → (a && b) ≡ false
and_false true b h = absurd (h tt)
and_false false b h = refl

-- the test passes at each number below n
abbrev pub each : ℕ → (ℕ → Bool) → Bool
each zero f = true
each (suc n) f = f n && each n f

order : (k n : ℕ) → k < suc n → (k < n) ⊎ (k ≡ n)
order k n h = elim (dec_lt k n) [ yes l ↦ inl l | no m ↦ inr (omega arith) ]

pub each_at : (f : ℕ → Bool) (n : ℕ) → T (each n f) → (k : ℕ) → k < n → T (f k)
each_at f zero t k h = absurd (omega arith)
each_at f (suc n) t k h =
    ⊎_elim (λ l. each_at f n (both_right (f n) (each n f) t) k l)
    (λ e. subst (λ m. T (f m)) (sym e) (both_left (f n) (each n f) t)) (order k n h)

-- the same of pairs and of triples
abbrev pub each² : ℕ → (ℕ → ℕ → Bool) → Bool
each² n f = each n (λ a. each n (f a))

abbrev pub each³ : ℕ → (ℕ → ℕ → ℕ → Bool) → Bool
each³ n f = each n (λ a. each² n (f a))

pub each²_at : (f : ℕ → ℕ → Bool) (n : ℕ) → T (each² n f) → (a b : ℕ) → a < n → b < n → T (f a b)
each²_at f n t a b ha hb = each_at (f a) n (each_at (λ x. each n (f x)) n t a ha) b hb

pub each³_at : (f : ℕ → ℕ → ℕ → Bool) (n : ℕ) → T (each³ n f) → (a b c : ℕ) → a < n → b < n → c < n → T (f a b c)
each³_at f n t a b c ha hb hc = each²_at (f a) n (each_at (λ x. each² n (f x)) n t a ha) b c hb hc

-- where a number in range passes, the first one does
pub first_passes : (test : ℕ → Bool) (n i b : ℕ) → i ≤ b → b < i + n → T (test b) → T (test (first test i n)) × (first test i n < i + n)
first_passes test zero i b low high t = absurd (omega arith)
first_passes test (suc n) i b low high t = split (test i) refl (λ far. first_passes test n (suc i) b far (omega arith) t)
  where
    later : ℕ
    later = first test (suc i) n

    split : (v : Bool) → test i ≡ v → (suc i ≤ b → T (test later) × (later < suc i + n)) → T (test (cond v i later)) × (cond v i later < i + suc n)
    split true e rest = (T_is (test i) e, omega arith)
    split false e rest =
        let far : suc i ≤ b = elim (dec_lt i b) [ yes l ↦ l | no m ↦ let z : b ≡ i = omega arith in absurd (subst T (ap test z ∙ e) t) ] in
        let found = rest far in
        (found.0, omega (arith, found.1))
