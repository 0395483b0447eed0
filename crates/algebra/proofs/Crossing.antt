-- A map that respects arithmetic carries every definition across; so from symbols to their numbers. Assumes nothing.
use Rattle.std.proofs.Common.{◌≡◌, eqb, ◌≢◌, List, [], ◌∷◌, map, refl, ap, ◌∙◌}
use Rattle.std.specs.List.{AllZip, AllByRecursion}
use Rattle.field.specs.Meaning.{Meaning, IsField}
use Rattle.algebra.specs.FieldOn.{Ops}
use Rattle.algebra.specs.Symbols.{numbers, Below, val}
use Rattle.algebra.specs.Vectors.{plus, times, opposite, minus, total, dot, combination, Zeros}
use Rattle.algebra.specs.Polynomials.{Different, value, values, convolve, monic}
use Rattle.algebra.specs.Systems.{lead, rest, cleared}
use Rattle.field.specs.Places.{distance}
use Rattle.algebra.specs.Distance.{distance_in, same_in}
use Rattle.algebra.proofs.Bridge.{over, val_injective}
use Rattle.algebra.proofs.Vectors.{cons_path}
use Rattle.field.proofs.Metric.{eqb_tells, distance_map}
use Rattle.algebra.proofs.Distance.{same_tells}

pub record Respects {X Y : Type 0} (A : Ops X) (B : Ops Y) (h : X → Y) : Type 0 where
  pub zeros : h A.zero ≡ B.zero
  pub ones : h A.one ≡ B.one
  pub sums : (a b : X) → h (A.add a b) ≡ B.add (h a) (h b)
  pub products : (a b : X) → h (A.mul a b) ≡ B.mul (h a) (h b)
  pub opposites : (a : X) → h (A.neg a) ≡ B.neg (h a)
  pub inverses : (a : X) → h (A.inv a) ≡ B.inv (h a)

module _ {X Y : Type 0} (A : Ops X) (B : Ops Y) (h : X → Y) (respects : Respects A B h) where
  pub plus_map : (xs ys : List X) → map h (plus A xs ys) ≡ plus B (map h xs) (map h ys)
  plus_map [] ys = refl
  plus_map (x ∷ xs) [] = refl
  plus_map (x ∷ xs) (y ∷ ys) = cons_path (respects.sums x y) (plus_map xs ys)

  pub times_map : (c : X) (xs : List X) → map h (times A c xs) ≡ times B (h c) (map h xs)
  times_map c [] = refl
  times_map c (x ∷ xs) = cons_path (respects.products c x) (times_map c xs)

  pub opposite_map : (xs : List X) → map h (opposite A xs) ≡ opposite B (map h xs)
  opposite_map [] = refl
  opposite_map (x ∷ xs) = cons_path (respects.opposites x) (opposite_map xs)

  pub minus_map : (xs ys : List X) → map h (minus A xs ys) ≡ minus B (map h xs) (map h ys)
  minus_map xs ys = plus_map xs (opposite A ys) ∙ ap (plus B (map h xs)) (opposite_map ys)

  pub total_map : (xs : List X) → h (total A xs) ≡ total B (map h xs)
  total_map [] = respects.zeros
  total_map (x ∷ xs) = respects.sums x (total A xs) ∙ ap (B.add (h x)) (total_map xs)

  pub dot_map : (xs ys : List X) → h (dot A xs ys) ≡ dot B (map h xs) (map h ys)
  dot_map [] ys = respects.zeros
  dot_map (x ∷ xs) [] = respects.zeros
  dot_map (x ∷ xs) (y ∷ ys) =
      respects.sums (A.mul x y) (dot A xs ys)
      ∙ ap (λ w. B.add w (h (dot A xs ys))) (respects.products x y)
      ∙ ap (B.add (B.mul (h x) (h y))) (dot_map xs ys)

  pub combination_map : (cs : List X) (vs : List (List X)) → map h (combination A cs vs) ≡ combination B (map h cs) (map (map h) vs)
  combination_map [] vs = refl
  combination_map (c ∷ cs) [] = refl
  combination_map (c ∷ cs) (v ∷ vs) =
      plus_map (times A c v) (combination A cs vs)
      ∙ ap (λ w. plus B w (map h (combination A cs vs))) (times_map c v)
      ∙ ap (plus B (times B (h c) (map h v))) (combination_map cs vs)

  pub value_map : (f : List X) (x : X) → h (value A f x) ≡ value B (map h f) (h x)
  value_map [] x = respects.zeros
  value_map (c ∷ f) x =
      respects.sums c (A.mul x (value A f x))
      ∙ ap (B.add (h c)) (respects.products x (value A f x) ∙ ap (B.mul (h x)) (value_map f x))

  pub values_map : (f points : List X) → map h (values A f points) ≡ values B (map h f) (map h points)
  values_map f [] = refl
  values_map f (x ∷ points) = cons_path (value_map f x) (values_map f points)

  pub monic_map : (l : List X) → map h (monic A l) ≡ monic B (map h l)
  monic_map [] = cons_path respects.ones refl
  monic_map (c ∷ l) = cons_path refl (monic_map l)

  pub convolve_map : (f g : List X) → map h (convolve A f g) ≡ convolve B (map h f) (map h g)
  convolve_map [] g = refl
  convolve_map (c ∷ f) g =
      plus_map (times A c g) (A.zero ∷ convolve A f g)
      ∙ ap (λ w. plus B w (h A.zero ∷ map h (convolve A f g))) (times_map c g)
      ∙ ap (plus B (times B (h c) (map h g))) (cons_path respects.zeros (convolve_map f g))

  pub lead_map : (r : List X) → h (lead A r) ≡ lead B (map h r)
  lead_map [] = respects.zeros
  lead_map (a ∷ r) = refl

  pub rest_map : (r : List X) → map h (rest A r) ≡ rest B (map h r)
  rest_map [] = refl
  rest_map (a ∷ r) = refl

  pub cleared_map : (p r : List X) → map h (cleared A p r) ≡ cleared B (map h p) (map h r)
  cleared_map p r =
      plus_map r (times A (A.neg (A.mul (lead A r) (A.inv (lead A p)))) p)
      ∙ ap (plus B (map h r)) (times_map (A.neg (A.mul (lead A r) (A.inv (lead A p)))) p
      ∙ ap (λ z. times B z (map h p))
      (respects.opposites (A.mul (lead A r) (A.inv (lead A p)))
      ∙ ap B.neg
      (respects.products (lead A r) (A.inv (lead A p))
      ∙ ap (λ z. B.mul z (h (A.inv (lead A p)))) (lead_map r)
      ∙ ap (B.mul (lead B (map h r))) (respects.inverses (lead A p) ∙ ap B.inv (lead_map p)))))

pub different_map : {X Y : Type 0} (h : X → Y) → ((a b : X) → h a ≡ h b → a ≡ b) → (xs : List X) → Different xs → Different (map h xs)
different_map h injective [] d = tt
different_map h injective (x ∷ xs) (n, d) = (go xs n, different_map h injective xs d)
  where
    go : (ys : List _) → AllByRecursion (λ y. x ≢ y) ys → AllByRecursion (λ z. h x ≢ z) (map h ys)
    go [] k = tt
    go (y ∷ ys) (k, ks) = ((λ e. k (injective x y e)), go ys ks)

-- what holds of pairs, under a map and over it
pub each_over_map : {X Y : Type 0} (h : X → Y) (R : X → X → Type 0) (S : Y → Y → Type 0) → ((x y : X) → R x y → S (h x) (h y)) → (xs ys : List X) → AllZip R xs ys → AllZip S (map h xs) (map h ys)
each_over_map h R S f [] [] e = tt
each_over_map h R S f [] (y ∷ ys) e = e
each_over_map h R S f (x ∷ xs) [] e = e
each_over_map h R S f (x ∷ xs) (y ∷ ys) (e, es) = (f x y e, each_over_map h R S f xs ys es)

pub each_under_map : {X Y : Type 0} (h : X → Y) (R : X → X → Type 0) (S : Y → Y → Type 0) → ((x y : X) → S (h x) (h y) → R x y) → (xs ys : List X) → AllZip S (map h xs) (map h ys) → AllZip R xs ys
each_under_map h R S f [] [] e = tt
each_under_map h R S f [] (y ∷ ys) e = e
each_under_map h R S f (x ∷ xs) [] e = e
each_under_map h R S f (x ∷ xs) (y ∷ ys) (e, es) = (f x y e, each_under_map h R S f xs ys es)

-- different images come from different elements
pub different_from_map : {X Y : Type 0} (h : X → Y) (xs : List X) → Different (map h xs) → Different xs
different_from_map h [] d = tt
different_from_map h (x ∷ xs) (n, d) = (go xs n, different_from_map h xs d)
  where
    go : (ys : List _) → AllByRecursion (λ z. h x ≢ z) (map h ys) → AllByRecursion (λ y. x ≢ y) ys
    go [] k = tt
    go (y ∷ ys) (k, ks) = ((λ e. k (ap h e)), go ys ks)

module _ (F : Meaning) (laws : IsField F) where
  -- reading a symbol's number respects arithmetic
  pub val_respects : Respects (over F laws).ops (numbers F) val
  val_respects = record { zeros = refl; ones = refl; sums = λ a b. refl; products = λ a b. refl; opposites = λ a. refl; inverses = λ a. refl }

  pub vals_distance : (xs ys : List (Below F.q)) → distance (map val xs) (map val ys) ≡ distance_in (over F laws) xs ys
  vals_distance = distance_map (same_in (over F laws)) (same_tells (over F laws)) eqb eqb_tells val (λ a b e. val_injective {a = a} {b = b} e)

  pub zeros_to : (xs : List (Below F.q)) → Zeros (numbers F) (map val xs) → Zeros (over F laws).ops xs
  zeros_to [] z = tt
  zeros_to (x ∷ xs) (z, zs) = (val_injective z, zeros_to xs zs)

  pub zeros_val : (xs : List (Below F.q)) → Zeros (over F laws).ops xs → Zeros (numbers F) (map val xs)
  zeros_val [] z = tt
  zeros_val (x ∷ xs) (z, zs) = (ap (λ (a : Below F.q). val a) z, zeros_val xs zs)
