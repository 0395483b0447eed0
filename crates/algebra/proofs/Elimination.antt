-- The test by elimination, over a list of columns, decides whether a matrix is non-singular by columns; the same over numbers. Assumes nothing.
use Rattle.std.proofs.Common.{◌≡◌, ℕ, zero, suc, ◌+◌, ◌≤◌, Bool, true, false, not, ◌&&◌, T, eqb, ◌≢◌, ◌⊎◌, ◌↔◌, List, [], ◌∷◌, map, length, sym, refl, ap, ◌∙◌, subst, inl, inr, arith, eqb→eq, T_not}
use lib.Dec.{not_T}
use lib.ListN.{length-map}
use Rattle.std.specs.List.{AllByRecursion}
use Rattle.field.specs.Meaning.{Meaning, IsField}
use Rattle.algebra.specs.FieldOn.{Ops, FieldOn}
use Rattle.algebra.specs.Symbols.{numbers, Below, val}
use Rattle.algebra.specs.Vectors.{dot, Zeros}
use Rattle.algebra.specs.Polynomials.{Different}
use Rattle.field.specs.Places.{Tells}
use Rattle.algebra.specs.Distance.{given, passing, is_zero}
use Rattle.algebra.specs.Systems.{lead, rest, cleared}
use Rattle.algebra.specs.Theorems.{TestDecides, FewZeroColumns}
use Rattle.algebra.specs.Matrices.{Nonsingular, NonsingularNumbers, reduced, Reducible, every, kept, without, Among, tested}
use Rattle.algebra.proofs.Bridge.{over, to, vals_tos, val_injective, vals_below}
use Rattle.field.proofs.Metric.{bool_path, eqb_tells}
use Rattle.algebra.proofs.Distance.{told_yes, told_holds}
use Rattle.algebra.proofs.Crossing.{val_respects, dot_map, lead_map, rest_map, cleared_map, zeros_val, zeros_to}
use Rattle.algebra.proofs.Matrices.{nonsingular_reducible, reducible_nonsingular, few_zero_columns}
use Rattle.algebra.proofs.OverNumbers.{from_symbols}

and_parts : (a b : Bool) → T (a && b) → T a × T b
and_parts true true t = (tt, tt)
and_parts true false t = absurd t
and_parts false true t = absurd t
and_parts false false t = absurd t

and_both : (a b : Bool) → T a → T b → T (a && b)
and_both true true s t = tt
and_both true false s t = absurd t
and_both false b s t = absurd s

module _ {X : Type 0} where
  pub every_among : (test : X → Bool) (xs : List X) → T (every test xs) → (x : X) → Among xs x → T (test x)
  every_among test [] t x m = absurd m
  every_among test (y ∷ xs) t x (inl e) = subst (λ z. T (test z)) (sym e) (and_parts (test y) (every test xs) t).0
  every_among test (y ∷ xs) t x (inr m) = every_among test xs (and_parts (test y) (every test xs) t).1 x m

  pub among_every : (test : X → Bool) (xs : List X) → ((x : X) → Among xs x → T (test x)) → T (every test xs)
  among_every test [] h = tt
  among_every test (y ∷ xs) h = and_both (test y) (every test xs) (h y (inl refl)) (among_every test xs (λ x m. h x (inr m)))

  kept_cases : (b : Bool) (x : X) (xs : List X) (j : X) → Among (kept b x xs) j → (T (not b) × (j ≡ x)) ⊎ Among xs j
  kept_cases true x xs j m = inr m
  kept_cases false x xs j (inl e) = inl (tt, e)
  kept_cases false x xs j (inr m) = inr m

  kept_here : (b : Bool) (x : X) (xs : List X) (j : X) → (T b → ⊥) → j ≡ x → Among (kept b x xs) j
  kept_here true x xs j n e = absurd (n tt)
  kept_here false x xs j n e = inl e

  kept_later : (b : Bool) (x : X) (xs : List X) (j : X) → Among xs j → Among (kept b x xs) j
  kept_later true x xs j m = m
  kept_later false x xs j m = inr m

  module _ (same : X → X → Bool) (tells : Tells same) where
    pub without_among : (p : X) (xs : List X) (j : X) → Among (without same p xs) j → Among xs j × (j ≢ p)
    without_among p [] j m = absurd m
    without_among p (x ∷ xs) j m = go (kept_cases (same x p) x (without same p xs) j m) (without_among p xs j)
      where
        go : (T (not (same x p)) × (j ≡ x)) ⊎ Among (without same p xs) j → (Among (without same p xs) j → Among xs j × (j ≢ p)) → Among (x ∷ xs) j × (j ≢ p)
        go (inl (t, e)) ih = (inl e, (λ q. T_not (same x p) t (subst (λ z. T (same x z)) (sym e ∙ q) (tells.itself x))))
        go (inr k) ih = (inr (ih k).0, (ih k).1)

    pub among_without : (p : X) (xs : List X) (j : X) → Among xs j → j ≢ p → Among (without same p xs) j
    among_without p [] j m n = absurd m
    among_without p (x ∷ xs) j (inl e) n = kept_here (same x p) x (without same p xs) j (λ t. n (e ∙ tells.equal x p t)) e
    among_without p (x ∷ xs) j (inr m) n = kept_later (same x p) x (without same p xs) j (among_without p xs j m n)

module _ {K : Type 0} (F : FieldOn K) {I : Type 0} (same : I → I → Bool) (tells : Tells same) where
  abbrev A : Ops K
  A = F.ops

  pub reducible_fewer : (s : ℕ) (column : I → List K) (In On : I → Type 0) → ((j : I) → On j → In j) → Reducible A s column In → Reducible A s column On
  reducible_fewer zero column In On f h = tt
  reducible_fewer (suc s) column In On f h = λ p i.
      ((h p (f p i)).0, reducible_fewer s (reduced A column p) (λ j. In j × (j ≢ p)) (λ j. On j × (j ≢ p)) (λ j k. (f j k.0, k.1)) (h p (f p i)).1)

  tested_reducible : (s : ℕ) (column : I → List K) (js : List I) → T (tested A (is_zero F) same s column js) → Reducible A s column (Among js)
  tested_reducible zero column js t = tt
  tested_reducible (suc s) column js t = λ p i.
      let both = and_parts (not (is_zero F (lead A (column p)))) (tested A (is_zero F) same s (reduced A column p) (without same p js))
      (every_among (λ p. not (is_zero F (lead A (column p))) && tested A (is_zero F) same s (reduced A column p) (without same p js)) js t p i) in (
        (λ e. T_not (is_zero F (lead A (column p))) both.0 (told_holds (F.same? (lead A (column p)) A.zero) e)),
        reducible_fewer s (reduced A column p) (Among (without same p js)) (λ j. Among js j × (j ≢ p)) (λ j k. among_without same tells p js j k.0 k.1)
            (tested_reducible s (reduced A column p) (without same p js) both.1),
      )

  reducible_tested : (s : ℕ) (column : I → List K) (js : List I) → Reducible A s column (Among js) → T (tested A (is_zero F) same s column js)
  reducible_tested zero column js h = tt
  reducible_tested (suc s) column js h =
      among_every (λ p. not (is_zero F (lead A (column p))) && tested A (is_zero F) same s (reduced A column p) (without same p js)) js
      (λ p i. and_both (not (is_zero F (lead A (column p)))) (tested A (is_zero F) same s (reduced A column p) (without same p js))
      (not_T (is_zero F (lead A (column p))) (λ t. (h p i).0 (told_yes (F.same? (lead A (column p)) A.zero) t)))
      (reducible_tested s (reduced A column p) (without same p js)
      (reducible_fewer s (reduced A column p) (λ j. Among js j × (j ≢ p)) (Among (without same p js)) (λ j k. without_among same tells p js j k) (h p i).1)))

  -- The test passes exactly if the matrix is non-singular by columns.
  pub tested_nonsingular : (s : ℕ) (column : I → List K) (js : List I) → T (tested A (is_zero F) same s column js) ↔ Nonsingular A s column (Among js)
  tested_nonsingular s column js = (
    (λ t. reducible_nonsingular F s column (Among js) (tested_reducible s column js t)),
    (λ h. reducible_tested s column js (nonsingular_reducible F s column (Among js) h)),
  )

pub every_same : {X : Type 0} (f g : X → Bool) → ((x : X) → f x ≡ g x) → (xs : List X) → every f xs ≡ every g xs
every_same f g h [] = refl
every_same f g h (x ∷ xs) = ap (λ b. b && every f xs) (h x) ∙ ap (λ b. g x && b) (every_same f g h xs)

module _ (F : Meaning) (laws : IsField F) where
  abbrev G : FieldOn (Below F.q)
  G = over F laws

  abbrev nought : ℕ → Bool
  nought a = eqb a 0

  nought_is : (a : Below F.q) → nought (val a) ≡ is_zero G a
  nought_is a =
      bool_path (nought (val a)) (is_zero G a)
      (λ t. told_holds (G.same? a G.ops.zero) (val_injective (eqb→eq (val a) 0 t)))
      (λ t. subst (λ n. T (eqb n 0)) (sym (ap (λ (x : Below F.q). val x) (told_yes (G.same? a G.ops.zero) t))) tt)

  reduced_val : {I : Type 0} (column : I → List (Below F.q)) (p j : I) → reduced (numbers F) (λ i. map val (column i)) p j ≡ map val (reduced G.ops column p j)
  reduced_val column p j =
      sym (rest_map G.ops (numbers F) val (val_respects F laws) (cleared G.ops (column p) (column j))
      ∙ ap (rest (numbers F)) (cleared_map G.ops (numbers F) val (val_respects F laws) (column p) (column j)))

  pub tested_val : {I : Type 0} (same : I → I → Bool) (s : ℕ) (column : I → List (Below F.q)) (js : List I) → tested (numbers F) nought same s (λ j. map val (column j)) js ≡ tested G.ops (is_zero G) same s column js
  tested_val same zero column js = refl
  tested_val same (suc s) column js =
      every_same
      (λ p. not (nought (lead (numbers F) (map val (column p)))) && tested (numbers F) nought same s (reduced (numbers F) (λ j. map val (column j)) p) (without same p js))
      (λ p. not (is_zero G (lead G.ops (column p))) && tested G.ops (is_zero G) same s (reduced G.ops column p) (without same p js))
      (λ p.
      ap (λ b. not b && tested (numbers F) nought same s (reduced (numbers F) (λ j. map val (column j)) p) (without same p js))
      (ap nought (sym (lead_map G.ops (numbers F) val (val_respects F laws) (column p))) ∙ nought_is (lead G.ops (column p)))
      ∙ ap (λ b. not (is_zero G (lead G.ops (column p))) && b)
      (ap (λ c. tested (numbers F) nought same s c (without same p js)) (λ i j. reduced_val column p j i)
      ∙ tested_val same s (reduced G.ops column p) (without same p js)))
      js

  zero_dots : (cs : List (Below F.q)) (column : ℕ → List (Below F.q)) (js : List ℕ) → AllByRecursion (λ j. dot (numbers F) (map val cs) (map val (column j)) ≡ 0) js → AllByRecursion (λ j. dot G.ops cs (column j) ≡ G.ops.zero) js
  zero_dots cs column [] h = tt
  zero_dots cs column (j ∷ js) (h, hs) = (val_injective (dot_map G.ops (numbers F) val (val_respects F laws) cs (column j) ∙ h), zero_dots cs column js hs)

  dots_zero : (cs : List (Below F.q)) (column : ℕ → List (Below F.q)) (js : List ℕ) → AllByRecursion (λ j. dot G.ops cs (column j) ≡ G.ops.zero) js → AllByRecursion (λ j. dot (numbers F) (map val cs) (map val (column j)) ≡ 0) js
  dots_zero cs column [] h = tt
  dots_zero cs column (j ∷ js) (h, hs) =
      (sym (dot_map G.ops (numbers F) val (val_respects F laws) cs (column j)) ∙ ap (λ (x : Below F.q). val x) h, dots_zero cs column js hs)

  -- the property over numbers is the one over the field on the symbols
  pub nonsingular_val : (s : ℕ) (column : ℕ → List (Below F.q)) (In : ℕ → Type 0) → Nonsingular G.ops s column In ↔ NonsingularNumbers F s (λ j. map val (column j)) In
  nonsingular_val s column In = (forth, back)
    where
      forth : Nonsingular G.ops s column In → NonsingularNumbers F s (λ j. map val (column j)) In
      forth h js cs l e d ins sy z =
          from_symbols F laws
          (λ ds. length ds ≤ s → length js ≡ length ds → AllByRecursion (λ j. dot (numbers F) ds (map val (column j)) ≡ 0) js → Zeros (numbers F) ds)
          (λ ds m k y. let a = length-map ds (val {q = F.q}) in zeros_val F laws ds (h js ds (omega arith) (omega arith) d ins (zero_dots ds column js y)))
          cs sy l e z

      back : NonsingularNumbers F s (λ j. map val (column j)) In → Nonsingular G.ops s column In
      back h js cs l e d ins z =
          let a = length-map cs (val {q = F.q}) in
          zeros_to F laws cs (h js (map val cs) (omega arith) (omega arith) d ins (vals_below F laws cs) (dots_zero cs column js z))

  -- the test over numbers decides the property over numbers
  pub test_decides : TestDecides F
  test_decides s column js sy =
      subst (λ c. T (tested (numbers F) nought eqb s c js) ↔ NonsingularNumbers F s c (Among js))
      (λ i j. vals_tos F laws (column j) (sy j) i) (
        (λ t. (nonsingular_val s inside (Among js)).0 ((tested_nonsingular G eqb eqb_tells s inside js).0 (subst T (tested_val eqb s inside js) t))),
        (λ h. subst T (sym (tested_val eqb s inside js)) ((tested_nonsingular G eqb eqb_tells s inside js).1 ((nonsingular_val s inside (Among js)).1 h))),
      )
    where
      inside : ℕ → List (Below F.q)
      inside j = map (to F laws) (column j)

  passing_same : (f g : ℕ → Bool) → ((j : ℕ) → f j ≡ g j) → (js : List ℕ) → passing f js ≡ passing g js
  passing_same f g h [] = refl
  passing_same f g h (j ∷ js) = ap (λ b. given b (passing f js)) (h j) ∙ ap (given (g j)) (passing_same f g h js)

  all_among : (js ks : List ℕ) → ((j : ℕ) → Among ks j → Among js j) → AllByRecursion (Among js) ks
  all_among js [] f = tt
  all_among js (k ∷ ks) f = (f k (inl refl), all_among js ks (λ j m. f j (inr m)))

  abbrev FewAt : ℕ → (ℕ → List ℕ) → List ℕ → List ℕ → Type 0
  FewAt s column js cs =
      NonsingularNumbers F s column (Among js) → Different js → length cs ≤ s → (Zeros (numbers F) cs → ⊥)
      → passing (λ j. eqb (dot (numbers F) cs (column j)) 0) js + 1 ≤ length cs

  few_inside : (s : ℕ) (column : ℕ → List (Below F.q)) (js : List ℕ) (cs : List (Below F.q)) → FewAt s (λ j. map val (column j)) js (map val cs)
  few_inside s column js cs h d l n =
      let a = length-map cs (val {q = F.q}) in
      let k = few_zero_columns G s column (Among js) ((nonsingular_val s column (Among js)).1 h) js cs (omega arith) d (all_among js js (λ j m. m)) (λ z. n (zeros_val F laws cs z)) in
      let e = passing_same (λ j. eqb (dot (numbers F) (map val cs) (map val (column j))) 0) (λ j. is_zero G (dot G.ops cs (column j)))
      (λ j. ap nought (sym (dot_map G.ops (numbers F) val (val_respects F laws) cs (column j))) ∙ nought_is (dot G.ops cs (column j))) js in
      omega arith

  pub few_zero_columns_numbers : FewZeroColumns F
  few_zero_columns_numbers s column js cs sy sc =
      subst (λ c. FewAt s c js cs) (λ i j. vals_tos F laws (column j) (sy j) i)
      (from_symbols F laws (λ z. FewAt s (λ j. map val (map (to F laws) (column j))) js z) (few_inside s (λ j. map (to F laws) (column j)) js) cs sc)
