-- The laws of the Reed-Solomon chain. Assumes nothing.
use Rattle.std.specs.Prelude.{◌≡◌, ℕ, zero, suc, ◌+◌, ◌-◌, ◌<◌, ◌≤◌, T, ◌≢◌, List, ◌++◌, length, replicate, Some, None, Option, nat_eq, refl}
use Rattle.std.proofs.Common.{sym, ap, ap₂, subst, ◌∙◌, arith}
use Rattle.std.proofs.Math.Numerals.{unary_clauses}
use Rattle.std.proofs.lemmas.List.{length-append, length-replicate}
use Rattle.refusal.specs.declared.Refusal.{Refusal}
use Rattle.field.specs.Meaning.{Meaning, IsField}
use Rattle.field.specs.Places.{distance as differing}
use Rattle.field.specs.Words.{symbols, added, scaled}
use Rattle.field.proofs.Metric.{eqb_tells, distance_itself, words_same?}
use Rattle.field.proofs.Unique.{zero_small}
use Rattle.field.proofs.Vectors.{symbols_replicate, symbols_append}
use Rattle.algebra.specs.Symbols.{numbers, Symbols}
use Rattle.algebra.specs.Vectors.{plus, times, Zeros}
use Rattle.algebra.specs.Polynomials.{values}
use Rattle.algebra.proofs.OverNumbers.{values_apart_numbers}
use Rattle.algebra.proofs.EvaluationNumbers.{values_symbols, values_plus_numbers, values_times_numbers, values_padded_numbers}
use Rattle.chain.specs.Meaning.{IsChain, Lawful, Level}
use Rattle.reed_solomon.specs.Code.{points, rs_word, flaw, size_of, sound, sound_unless, reed_solomon}
use Rattle.reed_solomon.specs.Words.{all_symbols, symbols_all, added_is, scaled_is}
use Rattle.reed_solomon.specs.Points.{length_points, points_below, points_different, word_is, length_word}
use Rattle.reed_solomon.specs.Sizes.{size_least, size_most, size_falls, Fit, fit}

zeros_are : (F : Meaning) (n : ℕ) → Zeros (numbers F) (replicate n 0)
zeros_are F zero = tt
zeros_are F (suc n) = (refl, zeros_are F n)

module _ (F : Meaning) (laws : IsField F) (m : ℕ) (room : m ≤ F.q) where
  pub points_symbols : Symbols F (points m)
  points_symbols = points_below F.q 0 m (omega arith)

  pub word_symbols : (xs : List ℕ) → T (symbols F.q xs) → T (symbols F.q (rs_word F m xs))
  word_symbols xs t = symbols_all F _ (subst (Symbols F) (sym (word_is F m xs)) (values_symbols F laws xs (points m) (all_symbols F xs t) points_symbols))

  word_added : (xs ys : List ℕ) → length xs ≡ length ys → T (symbols F.q xs) → T (symbols F.q ys) → rs_word F m (added F xs ys) ≡ added F (rs_word F m xs) (rs_word F m ys)
  word_added xs ys e tx ty =
      word_is F m (added F xs ys)
      ∙ ap (λ zs. values (numbers F) zs (points m)) (added_is F xs ys e)
      ∙ values_plus_numbers F laws xs ys (points m) (all_symbols F xs tx) (all_symbols F ys ty) points_symbols
      ∙ sym (ap₂ (plus (numbers F)) (word_is F m xs) (word_is F m ys))
      ∙ sym (added_is F _ _ (length_word F m xs ∙ sym (length_word F m ys)))

  word_scaled : (a : ℕ) (xs : List ℕ) → a < F.q → T (symbols F.q xs) → rs_word F m (scaled F a xs) ≡ scaled F a (rs_word F m xs)
  word_scaled a xs h tx =
      word_is F m (scaled F a xs)
      ∙ ap (λ zs. values (numbers F) zs (points m)) (scaled_is F a xs)
      ∙ values_times_numbers F laws a xs (points m) h (all_symbols F xs tx) points_symbols
      ∙ sym (ap (times (numbers F) a) (word_is F m xs))
      ∙ sym (scaled_is F a _)

  word_padded : (xs : List ℕ) (n : ℕ) → T (symbols F.q xs) → rs_word F m (xs ++ replicate n 0) ≡ rs_word F m xs
  word_padded xs n tx =
      word_is F m (xs ++ replicate n 0)
      ∙ values_padded_numbers F laws xs (replicate n 0) (points m) (all_symbols F xs tx) (all_symbols F _ (symbols_replicate F.q n 0 (zero_small laws))) points_symbols (zeros_are F n)
      ∙ sym (word_is F m xs)

  -- two different messages of one length have words that differ in many places
  words_apart : (xs ys : List ℕ) → length xs ≡ length ys → T (symbols F.q xs) → T (symbols F.q ys) → xs ≢ ys → m + 1 ≤ differing (rs_word F m xs) (rs_word F m ys) + length xs
  words_apart xs ys e tx ty ne =
      let far = values_apart_numbers F laws xs ys (points m) (all_symbols F xs tx) (all_symbols F ys ty) points_symbols (points_different 0 m) e ne in
      let n = length_points 0 m in
      let same = ap₂ differing (word_is F m xs) (word_is F m ys) in
      omega arith

  pub word_injective : (xs ys : List ℕ) → length xs ≡ length ys → length xs ≤ m → T (symbols F.q xs) → T (symbols F.q ys) → rs_word F m xs ≡ rs_word F m ys → xs ≡ ys
  word_injective xs ys e few tx ty same =
      elim (words_same? nat_eq eqb_tells xs ys) [
        | yes p ↦ p
        | no ne ↦
            let far = words_apart xs ys e tx ty ne in
            let none = ap (differing (rs_word F m xs)) (sym same) ∙ distance_itself nat_eq eqb_tells (rs_word F m xs) in
            absurd (omega arith)
      ]

module _ (F : Meaning) (laws : IsField F) (m : ℕ) (ks : List ℕ) (fits : Fit F m ks) where
  size_is : (i : ℕ) → Level (sound F m ks) i → (1 ≤ size_of ks i) × (size_of ks i ≤ m)
  size_is i level =
      let h : i - 1 < length ks = omega (arith, level.from, level.to) in
      (size_least m ks fits.falls (i - 1) h, size_most m ks fits.falls (i - 1) h)

  sizes_fall : (i : ℕ) → Level (sound F m ks) i → Level (sound F m ks) (suc i) → size_of ks (suc i) ≤ size_of ks i
  sizes_fall zero level next = absurd (omega (arith, level.from))
  sizes_fall (suc i) level next = simp unary_clauses (size_falls m ks fits.falls i next.to)

  pub sound_chain : IsChain (sound F m ks)
  sound_chain = record {
    over_field = laws;
    m_least = fits.m_least;
    m_most = fits.m_most;
    s_least = fits.s_least;
    s_most = fits.s_most;
    size_least = λ i level. (size_is i level).0;
    size_most = λ i level. (size_is i level).1;
    distance_least = λ i level. omega arith;
    distance_most = λ i level. let h = size_is i level in omega arith;
    encodes = λ i level xs hx. record { long = length_word F m xs; all = word_symbols F laws m fits.m_points xs hx.all };
    of_sum = λ i level xs ys hx hy. word_added F laws m fits.m_points xs ys (hx.long ∙ sym hy.long) hx.all hy.all;
    of_multiple = λ i level a xs h hx. word_scaled F laws m fits.m_points a xs h hx.all;
    injective = λ i level xs ys hx hy e. word_injective F laws m fits.m_points xs ys (hx.long ∙ sym hy.long) (subst (λ n. n ≤ m) (sym hx.long) (size_is i level).1) hx.all hy.all e;
    nested = λ i level next w (xs, hx, e).
        let n = size_of ks i - size_of ks (suc i) in
        let falls = sizes_fall i level next in
        (xs ++ replicate n 0, record { long = length-append xs (replicate n 0) ∙ ap₂ ◌+◌ hx.long (length-replicate n 0) ∙ omega arith; all = symbols_append F.q xs (replicate n 0) hx.all (symbols_replicate F.q n 0 (zero_small laws)) }, word_padded F laws m fits.m_points xs n hx.all ∙ e);
    apart = λ i level v w (xs, hx, ex) (ys, hy, ey) ne.
        let far = words_apart F laws m fits.m_points xs ys (hx.long ∙ sym hy.long) hx.all hy.all (λ e. ne (sym ex ∙ ap (rs_word F m) e ∙ ey)) in
        let same = ap₂ differing ex ey in
        let long = hx.long in
        let h = size_is i level in
        omega arith;
  }

lawful_unless : (F : Meaning) (laws : IsField F) (m : ℕ) (ks : List ℕ) (f : Option Refusal) → flaw F m ks ≡ f → Lawful (sound_unless f F m ks)
lawful_unless F laws m ks None e none = sound_chain F laws m ks (fit F m ks e)
lawful_unless F laws m ks (Some r) e none = absurd (let z : ◌≡◌ {A = ℕ} 0 1 = cc in omega arith)

pub chain_lawful : (F : Meaning) (laws : IsField F) (m : ℕ) (ks : List ℕ) → Lawful (reed_solomon F m ks)
chain_lawful F laws m ks = lawful_unless F laws m ks (flaw F m ks) refl
