-- Locators and agreement over numbers, from those over the field on the symbols. Assumes nothing.
use Rattle.std.proofs.Common.{◌≡◌, ℕ, ◌+◌, ◌≤◌, List, map, length, sym, ap, ◌∙◌, arith}
use lib.ListN.{length-map}
use Rattle.field.specs.Meaning.{Meaning, IsField}
use Rattle.algebra.specs.FieldOn.{FieldOn}
use Rattle.algebra.specs.Symbols.{numbers, Symbols, Below, val}
use Rattle.algebra.specs.Polynomials.{value, values, monic}
use Rattle.field.specs.Places.{distance}
use Rattle.algebra.specs.Distance.{distance_in}
use Rattle.algebra.specs.Correction.{Located, Agrees}
use Rattle.algebra.specs.Theorems.{LocatorExists, LocatorAgreesAt, LocatorAgrees, AgreeingOnlyAt, AgreeingOnly}
use Rattle.algebra.proofs.Bridge.{over, val_injective, vals_below}
use Rattle.algebra.proofs.OverNumbers.{from_symbols}
use Rattle.algebra.proofs.Crossing.{val_respects, value_map, values_map, monic_map, different_from_map, vals_distance, each_over_map, each_under_map}
use Rattle.algebra.proofs.Correction.{located, located_agrees, agreeing_only}

module _ (F : Meaning) (laws : IsField F) where
  abbrev H : FieldOn (Below F.q)
  H = over F laws

  monic_value : (l : List (Below F.q)) (x : Below F.q) → val (value H.ops (monic H.ops l) x) ≡ value (numbers F) (monic (numbers F) (map val l)) (val x)
  monic_value l x =
      value_map H.ops (numbers F) val (val_respects F laws) (monic H.ops l) x
      ∙ ap (λ z. value (numbers F) z (val x)) (monic_map H.ops (numbers F) val (val_respects F laws) l)

  poly_value : (f : List (Below F.q)) (x : Below F.q) → val (value H.ops f x) ≡ value (numbers F) (map val f) (val x)
  poly_value = value_map H.ops (numbers F) val (val_respects F laws)

  -- locator equations and agreement are the same over numbers
  pub located_val : (points ys l N : List (Below F.q)) → Located H.ops points ys l N → Located (numbers F) (map val points) (map val ys) (map val l) (map val N)
  located_val points ys l N =
      each_over_map val (λ x y. H.ops.mul y (value H.ops (monic H.ops l) x) ≡ value H.ops N x)
      (λ x y. F.product y (value (numbers F) (monic (numbers F) (map val l)) x) ≡ value (numbers F) (map val N) x)
      (λ x y h. ap (F.product (val y)) (sym (monic_value l x)) ∙ ap (λ (a : Below F.q). val a) h ∙ poly_value N x)
      points ys

  pub located_to : (points ys l N : List (Below F.q)) → Located (numbers F) (map val points) (map val ys) (map val l) (map val N) → Located H.ops points ys l N
  located_to points ys l N =
      each_under_map val (λ x y. H.ops.mul y (value H.ops (monic H.ops l) x) ≡ value H.ops N x)
      (λ x y. F.product y (value (numbers F) (monic (numbers F) (map val l)) x) ≡ value (numbers F) (map val N) x)
      (λ x y h. val_injective (ap (F.product (val y)) (monic_value l x) ∙ h ∙ sym (poly_value N x)))
      points ys

  pub agrees_val : (points ys l f : List (Below F.q)) → Agrees H.ops points ys l f → Agrees (numbers F) (map val points) (map val ys) (map val l) (map val f)
  agrees_val points ys l f =
      each_over_map val (λ x y. H.ops.mul (value H.ops (monic H.ops l) x) (value H.ops f x) ≡ H.ops.mul (value H.ops (monic H.ops l) x) y)
      (λ x y. F.product (value (numbers F) (monic (numbers F) (map val l)) x) (value (numbers F) (map val f) x) ≡ F.product (value (numbers F) (monic (numbers F) (map val l)) x) y)
      (λ x y h.
      ap (F.product (value (numbers F) (monic (numbers F) (map val l)) (val x))) (sym (poly_value f x))
      ∙ ap (λ z. F.product z (val (value H.ops f x))) (sym (monic_value l x))
      ∙ ap (λ (a : Below F.q). val a) h
      ∙ ap (λ z. F.product z (val y)) (monic_value l x))
      points ys

  pub agrees_to : (points ys l f : List (Below F.q)) → Agrees (numbers F) (map val points) (map val ys) (map val l) (map val f) → Agrees H.ops points ys l f
  agrees_to points ys l f =
      each_under_map val (λ x y. H.ops.mul (value H.ops (monic H.ops l) x) (value H.ops f x) ≡ H.ops.mul (value H.ops (monic H.ops l) x) y)
      (λ x y. F.product (value (numbers F) (monic (numbers F) (map val l)) x) (value (numbers F) (map val f) x) ≡ F.product (value (numbers F) (monic (numbers F) (map val l)) x) y)
      (λ x y h. val_injective
      (ap (λ z. F.product z (val (value H.ops f x))) (monic_value l x)
      ∙ ap (F.product (value (numbers F) (monic (numbers F) (map val l)) (val x))) (poly_value f x)
      ∙ h
      ∙ ap (λ z. F.product z (val y)) (sym (monic_value l x))))
      points ys

  pub values_distance_val : (g points ys : List (Below F.q)) → distance (values (numbers F) (map val g) (map val points)) (map val ys) ≡ distance_in H (values H.ops g points) ys
  values_distance_val g points ys =
      ap (λ z. distance z (map val ys)) (sym (values_map H.ops (numbers F) val (val_respects F laws) g points))
      ∙ vals_distance F laws (values H.ops g points) ys

  abbrev ExistsAt : List ℕ → List ℕ → List ℕ → ℕ → Type 0
  ExistsAt g points ys t =
      length points ≡ length ys → distance (values (numbers F) g points) ys ≤ t
      → (l N : List ℕ) × Symbols F l × Symbols F N × (length l ≡ t) × (length N ≡ length g + t) × Located (numbers F) points ys l N

  exists_inside : (g points ys : List (Below F.q)) (t : ℕ) → ExistsAt (map val g) (map val points) (map val ys) t
  exists_inside g points ys t e h =
      let a = length-map g (val {q = F.q}) in
      let b = length-map points (val {q = F.q}) in
      let c = length-map ys (val {q = F.q}) in
      let near = values_distance_val g points ys in
      let s = located H g points ys t (omega arith) (omega arith) in
      let u = length-map s.0 (val {q = F.q}) in
      let v = length-map s.1 (val {q = F.q}) in
      let eu = s.2 in
      let ev = s.3 in
      (map val s.0, map val s.1, vals_below F laws s.0, vals_below F laws s.1, omega arith, omega arith, located_val points ys s.0 s.1 s.4)

  pub locator_exists : LocatorExists F
  locator_exists g points ys t sg sp sy =
      from_symbols F laws (λ z. ExistsAt z points ys t)
      (λ g. from_symbols F laws (λ z. ExistsAt (map val g) z ys t)
      (λ p. from_symbols F laws (λ z. ExistsAt (map val g) (map val p) z t)
      (λ y. exists_inside g p y t) ys sy) points sp) g sg

  agrees_inside : (g points ys l N : List (Below F.q)) (t : ℕ) → LocatorAgreesAt F (map val g) (map val points) (map val ys) (map val l) (map val N) t
  agrees_inside g points ys l N t d el eN room near loc =
      let a = length-map g (val {q = F.q}) in
      let b = length-map points (val {q = F.q}) in
      let u = length-map l (val {q = F.q}) in
      let v = length-map N (val {q = F.q}) in
      let w = values_distance_val g points ys in
      agrees_val points ys l g
      (located_agrees H g points ys l N t (different_from_map val points d) (omega arith) (omega arith) (omega arith) (omega arith) (located_to points ys l N loc))

  pub locator_agrees : LocatorAgrees F
  locator_agrees g points ys l N t sg sp sy sl sN =
      from_symbols F laws (λ z. LocatorAgreesAt F z points ys l N t)
      (λ g. from_symbols F laws (λ z. LocatorAgreesAt F (map val g) z ys l N t)
      (λ p. from_symbols F laws (λ z. LocatorAgreesAt F (map val g) (map val p) z l N t)
      (λ y. from_symbols F laws (λ z. LocatorAgreesAt F (map val g) (map val p) (map val y) z N t)
      (λ l. from_symbols F laws (λ z. LocatorAgreesAt F (map val g) (map val p) (map val y) (map val l) z t)
      (λ N. agrees_inside g p y l N t) N sN) l sl) ys sy) points sp) g sg

  only_inside : (f g points ys l : List (Below F.q)) → AgreeingOnlyAt F (map val f) (map val g) (map val points) (map val ys) (map val l)
  only_inside f g points ys l d e room p q =
      let a = length-map f (val {q = F.q}) in
      let b = length-map g (val {q = F.q}) in
      let c = length-map points (val {q = F.q}) in
      let u = length-map l (val {q = F.q}) in
      ap (map val) (agreeing_only H f g points ys l (different_from_map val points d) (omega arith) (omega arith) (agrees_to points ys l f p) (agrees_to points ys l g q))

  pub agreeing_only_numbers : AgreeingOnly F
  agreeing_only_numbers f g points ys l sf sg sp sy sl =
      from_symbols F laws (λ z. AgreeingOnlyAt F z g points ys l)
      (λ f. from_symbols F laws (λ z. AgreeingOnlyAt F (map val f) z points ys l)
      (λ g. from_symbols F laws (λ z. AgreeingOnlyAt F (map val f) (map val g) z ys l)
      (λ p. from_symbols F laws (λ z. AgreeingOnlyAt F (map val f) (map val g) (map val p) z l)
      (λ y. from_symbols F laws (λ z. AgreeingOnlyAt F (map val f) (map val g) (map val p) (map val y) z)
      (λ l. only_inside f g p y l) l sl) ys sy) points sp) g sg) f sf
