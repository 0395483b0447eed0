-- What `find` gives over a range of numbers. Assumes nothing.
use Rattle.std.proofs.Common.{◌≡◌, ℕ, zero, suc, ◌+◌, ◌<◌, ◌≤◌, Bool, true, false, cond, T, Some, None, Option, refl, sym, ap, ◌∙◌, subst, zero-add, arith}
use native.Mathlib.Decide.{dec_lt}
use Rattle.std.specs.List.{find, range_with_len}
use Rattle.std.specs.Option.{MatchOption}

-- o is a number from i on and below n that passes, or nothing if none does
abbrev pub Finds : (ℕ → Bool) → ℕ → ℕ → Option ℕ → Type 0
Finds test i n o = MatchOption o ((k : ℕ) → i ≤ k → k < n → test k ≡ true → ⊥) (λ b. (i ≤ b) × (b < n) × (test b ≡ true))

false_is_not_true : false ≡ true → ⊥
false_is_not_true e = subst T (sym e) tt

step : (test : ℕ → Bool) (i n : ℕ) (v : Bool) (o : Option ℕ) → test i ≡ v → i < n → Finds test (i + 1) n o → Finds test i n (cond v (Some i) o)
step test i n true o e h later = (omega arith, h, e)
step test i n false (Some b) e h later = (omega (arith, later.0), later.1, later.2)
step test i n false None e h later = λ k low high t.
    elim (dec_lt i k) [
      | yes l ↦ later k (omega (arith, l)) high t
      | no m ↦ let z : k ≡ i = omega arith in absurd (false_is_not_true (sym e ∙ ap test (sym z) ∙ t))
    ]

pub found : (test : ℕ → Bool) (i n : ℕ) → Finds test i (i + n) (find test (range_with_len i n))
found test i zero = λ k low high t. omega arith
found test i (suc n) =
    let whole : i + 1 + n ≡ i + suc n = omega arith in
    step test i (i + suc n) (test i) _ refl (omega arith) (subst (λ m. Finds test (i + 1) m (find test (range_with_len (i + 1) n))) whole (found test (i + 1) n))

pub found_below : (test : ℕ → Bool) (n : ℕ) → Finds test 0 n (find test (range_with_len 0 n))
found_below test n = subst (λ m. Finds test 0 m (find test (range_with_len 0 n))) (zero-add n) (found test 0 n)
