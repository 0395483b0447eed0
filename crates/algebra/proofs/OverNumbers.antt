-- The theorems over numbers, from those over the field on the symbols. Assumes nothing.
use Rattle.std.proofs.Common.{◌≡◌, ℕ, ◌+◌, ◌≤◌, T, eqb, ◌≢◌, List, [], ◌∷◌, map, length, sym, ap, ◌∙◌, subst, arith}
use lib.ListN.{length-map}
use Rattle.std.specs.List.{AllByRecursion}
use Rattle.field.specs.Meaning.{Meaning, IsField}
use Rattle.algebra.specs.FieldOn.{FieldOn}
use Rattle.algebra.specs.Symbols.{numbers, Symbols, Below, val}
use Rattle.algebra.specs.Vectors.{Zeros}
use Rattle.algebra.specs.Polynomials.{Different, value, values}
use Rattle.field.specs.Places.{distance}
use Rattle.algebra.specs.Distance.{distance_in}
use Rattle.algebra.specs.Theorems.{RootsBounded, ValuesApart, NearestOnly}
use Rattle.algebra.proofs.Bridge.{over, to, vals_tos, val_injective}
use Rattle.algebra.proofs.Crossing.{val_respects, value_map, values_map, different_from_map, zeros_val, vals_distance}
use Rattle.algebra.proofs.Polynomials.{roots}
use Rattle.algebra.proofs.Evaluation.{values_apart}
use Rattle.field.proofs.Metric.{eqb_tells, nearest_only_half}

module _ (F : Meaning) (laws : IsField F) where
  abbrev G : FieldOn (Below F.q)
  G = over F laws

  -- a statement on all lists of symbols holds if it holds on the numbers of lists over the field
  pub from_symbols : (P : List ℕ → Type 0) → ((xs : List (Below F.q)) → P (map val xs)) → (xs : List ℕ) → Symbols F xs → P xs
  from_symbols P h xs s = subst P (vals_tos F laws xs s) (h (map (to F laws) xs))

  zero_values : (f points : List (Below F.q)) → AllByRecursion (λ x. value (numbers F) (map val f) x ≡ 0) (map val points) → AllByRecursion (λ x. value G.ops f x ≡ G.ops.zero) points
  zero_values f [] h = tt
  zero_values f (x ∷ points) (h, hs) = (val_injective (value_map G.ops (numbers F) val (val_respects F laws) f x ∙ h), zero_values f points hs)

  roots_inside : (f points : List (Below F.q)) → Different (map val points) → length (map val f) ≤ length (map val points) → AllByRecursion (λ x. value (numbers F) (map val f) x ≡ 0) (map val points) → Zeros (numbers F) (map val f)
  roots_inside f points d l h =
      let a = length-map f (val {q = F.q}) in
      let b = length-map points (val {q = F.q}) in
      zeros_val F laws f (roots G points f (different_from_map val points d) (omega arith) (zero_values f points h))

  pub roots_bounded : RootsBounded F
  roots_bounded f points sf sp =
      from_symbols (λ p. Different p → length f ≤ length p → AllByRecursion (λ x. value (numbers F) f x ≡ 0) p → Zeros (numbers F) f)
      (λ p. from_symbols (λ g. Different (map val p) → length g ≤ length (map val p) → AllByRecursion (λ x. value (numbers F) g x ≡ 0) (map val p) → Zeros (numbers F) g)
      (λ g. roots_inside g p) f sf) points sp

  apart_inside : (f g points : List (Below F.q)) → Different (map val points) → length (map val f) ≡ length (map val g) → map val f ≢ map val g → length (map val points) + 1 ≤ distance (values (numbers F) (map val f) (map val points)) (values (numbers F) (map val g) (map val points)) + length (map val f)
  apart_inside f g points d e n =
      let a = length-map f (val {q = F.q}) in
      let b = length-map g (val {q = F.q}) in
      let c = length-map points (val {q = F.q}) in
      let u = values_map G.ops (numbers F) val (val_respects F laws) f points in
      let v = values_map G.ops (numbers F) val (val_respects F laws) g points in
      let w = vals_distance F laws (values G.ops f points) (values G.ops g points) in
      let k = values_apart G f g points (different_from_map val points d) (omega arith) (λ p. n (ap (map val) p)) in
      let s : distance (values (numbers F) (map val f) (map val points)) (values (numbers F) (map val g) (map val points)) ≡ distance_in G (values G.ops f points) (values G.ops g points)
      = ap (λ z. distance z (values (numbers F) (map val g) (map val points))) (sym u) ∙ ap (distance (map val (values G.ops f points))) (sym v) ∙ w in
      omega arith

  pub values_apart_numbers : ValuesApart F
  values_apart_numbers f g points sf sg sp =
      from_symbols (λ p. Different p → length f ≡ length g → f ≢ g → length p + 1 ≤ distance (values (numbers F) f p) (values (numbers F) g p) + length f)
      (λ p. from_symbols (λ h. Different (map val p) → length f ≡ length h → f ≢ h → length (map val p) + 1 ≤ distance (values (numbers F) f (map val p)) (values (numbers F) h (map val p)) + length f)
      (λ h. from_symbols (λ k. Different (map val p) → length k ≡ length (map val h) → k ≢ map val h → length (map val p) + 1 ≤ distance (values (numbers F) k (map val p)) (values (numbers F) (map val h) (map val p)) + length k)
      (λ k. apart_inside k h p) f sf) g sg) points sp

pub nearest_only : NearestOnly
nearest_only code d p apart y u v cu cv a b = nearest_only_half eqb eqb_tells (λ w. T (code w)) d p apart y u v cu cv a b
