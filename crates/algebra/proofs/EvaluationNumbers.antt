-- Words of values over numbers: symbols again, and linear in the polynomial. Assumes nothing.
use Rattle.std.proofs.Common.{◌≡◌, ℕ, ◌<◌, List, ◌++◌, map, sym, ap, ◌∙◌, subst}
use Rattle.std.proofs.lemmas.List.{map-append}
use Rattle.field.specs.Meaning.{Meaning, IsField}
use Rattle.algebra.specs.FieldOn.{Ops}
use Rattle.algebra.specs.Symbols.{numbers, Symbols, Below, val}
use Rattle.algebra.specs.Vectors.{plus, times, Zeros}
use Rattle.algebra.specs.Polynomials.{value, values}
use Rattle.algebra.proofs.Bridge.{over, vals_below}
use Rattle.algebra.proofs.Crossing.{val_respects, plus_map, times_map, value_map, values_map, zeros_to}
use Rattle.algebra.proofs.OverNumbers.{from_symbols}
use Rattle.algebra.proofs.Polynomials.{values_plus, values_times, values_padded}

module _ (F : Meaning) (laws : IsField F) where
  abbrev A : Ops (Below F.q)
  A = (over F laws).ops

  abbrev N : Ops ℕ
  N = numbers F

  pub plus_symbols : (xs ys : List ℕ) → Symbols F xs → Symbols F ys → Symbols F (plus N xs ys)
  plus_symbols xs ys sx sy =
      from_symbols F laws (λ z. Symbols F (plus N z ys))
      (λ u. from_symbols F laws (λ z. Symbols F (plus N (map val u) z)) (λ v. subst (Symbols F) (plus_map A N val (val_respects F laws) u v) (vals_below F laws (plus A u v))) ys sy) xs sx

  pub times_symbols : (c : ℕ) (xs : List ℕ) → c < F.q → Symbols F xs → Symbols F (times N c xs)
  times_symbols c xs h sx =
      from_symbols F laws (λ z. Symbols F (times N c z)) (λ u. subst (Symbols F) (times_map A N val (val_respects F laws) (c, h) u) (vals_below F laws (times A (c, h) u))) xs sx

  pub value_symbol : (f : List ℕ) (x : ℕ) → Symbols F f → x < F.q → value N f x < F.q
  value_symbol f x sf h =
      from_symbols F laws (λ z. value N z x < F.q) (λ g. subst (λ n. n < F.q) (value_map A N val (val_respects F laws) g (x, h)) (value A g (x, h)).1) f sf

  pub values_symbols : (f points : List ℕ) → Symbols F f → Symbols F points → Symbols F (values N f points)
  values_symbols f points sf sp =
      from_symbols F laws (λ z. Symbols F (values N z points))
      (λ g. from_symbols F laws (λ z. Symbols F (values N (map val g) z)) (λ p. subst (Symbols F) (values_map A N val (val_respects F laws) g p) (vals_below F laws (values A g p))) points sp) f sf

  plus_inside : (f g points : List (Below F.q)) → values N (plus N (map val f) (map val g)) (map val points) ≡ plus N (values N (map val f) (map val points)) (values N (map val g) (map val points))
  plus_inside f g points =
      let r = val_respects F laws in
      ap (λ z. values N z (map val points)) (sym (plus_map A N val r f g))
      ∙ sym (values_map A N val r (plus A f g) points)
      ∙ ap (map val) (values_plus (over F laws) f g points)
      ∙ plus_map A N val r (values A f points) (values A g points)
      ∙ ap (λ z. plus N z (map val (values A g points))) (values_map A N val r f points)
      ∙ ap (plus N (values N (map val f) (map val points))) (values_map A N val r g points)

  -- the word of a sum is the sum of the words
  pub values_plus_numbers : (f g points : List ℕ) → Symbols F f → Symbols F g → Symbols F points → values N (plus N f g) points ≡ plus N (values N f points) (values N g points)
  values_plus_numbers f g points sf sg sp =
      from_symbols F laws (λ z. values N (plus N z g) points ≡ plus N (values N z points) (values N g points))
      (λ u. from_symbols F laws (λ z. values N (plus N (map val u) z) points ≡ plus N (values N (map val u) points) (values N z points))
      (λ v. from_symbols F laws (λ z. values N (plus N (map val u) (map val v)) z ≡ plus N (values N (map val u) z) (values N (map val v) z))
      (λ p. plus_inside u v p) points sp) g sg) f sf

  times_inside : (c : Below F.q) (f points : List (Below F.q)) → values N (times N (val c) (map val f)) (map val points) ≡ times N (val c) (values N (map val f) (map val points))
  times_inside c f points =
      let r = val_respects F laws in
      ap (λ z. values N z (map val points)) (sym (times_map A N val r c f))
      ∙ sym (values_map A N val r (times A c f) points)
      ∙ ap (map val) (values_times (over F laws) c f points)
      ∙ times_map A N val r c (values A f points)
      ∙ ap (times N (val c)) (values_map A N val r f points)

  -- the word of a multiple is the multiple of the word
  pub values_times_numbers : (c : ℕ) (f points : List ℕ) → c < F.q → Symbols F f → Symbols F points → values N (times N c f) points ≡ times N c (values N f points)
  values_times_numbers c f points h sf sp =
      from_symbols F laws (λ z. values N (times N c z) points ≡ times N c (values N z points))
      (λ u. from_symbols F laws (λ z. values N (times N c (map val u)) z ≡ times N c (values N (map val u) z)) (λ p. times_inside (c, h) u p) points sp) f sf

  padded_inside : (f z points : List (Below F.q)) → Zeros N (map val z) → values N (map val f ++ map val z) (map val points) ≡ values N (map val f) (map val points)
  padded_inside f z points h =
      let r = val_respects F laws in
      ap (λ w. values N w (map val points)) (sym (map-append val f z))
      ∙ sym (values_map A N val r (f ++ z) points)
      ∙ ap (map val) (values_padded (over F laws) f z points (zeros_to F laws z h))
      ∙ values_map A N val r f points

  -- zeros above the leading coefficient change no word
  pub values_padded_numbers : (f z points : List ℕ) → Symbols F f → Symbols F z → Symbols F points → Zeros N z → values N (f ++ z) points ≡ values N f points
  values_padded_numbers f z points sf sz sp =
      from_symbols F laws (λ w. Zeros N z → values N (w ++ z) points ≡ values N w points)
      (λ u. from_symbols F laws (λ w. Zeros N w → values N (map val u ++ w) points ≡ values N (map val u) points)
      (λ v. from_symbols F laws (λ w. Zeros N (map val v) → values N (map val u ++ map val v) w ≡ values N (map val u) w)
      (λ p. padded_inside u v p) points sp) z sz) f sf
