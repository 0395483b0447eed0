-- The two systems of the corrector over numbers say what they should. Assumes nothing.
use Rattle.std.proofs.Common.{◌≡◌, ℕ, zero, suc, ◌+◌, ◌↔◌, List, [], ◌∷◌, ◌++◌, map, length, take, drop, sym, refl, ap, ◌∙◌, subst, arith, length-drop, take-append-drop, length-take}
use lib.ListN.{length-map}
use Rattle.std.proofs.lemmas.List.{map-append}
use Rattle.std.proofs.ByRecursion.{All-take, All-drop}
use Rattle.field.specs.Meaning.{Meaning, IsField}
use Rattle.algebra.specs.FieldOn.{Ops, FieldOn}
use Rattle.algebra.specs.Symbols.{numbers, Symbols, Below, val}
use Rattle.algebra.specs.Vectors.{times, opposite}
use Rattle.algebra.specs.Polynomials.{value, monic}
use Rattle.algebra.specs.Systems.{Solves}
use Rattle.algebra.specs.Correction.{Located, Agrees, power, powers_from, powers, locator_row, message_row, rows_of, locator_rows, message_rows}
use Rattle.algebra.proofs.Bridge.{over}
use Rattle.algebra.proofs.Crossing.{Respects, val_respects, times_map, opposite_map, value_map, monic_map}
use Rattle.algebra.proofs.Vectors.{cons_path}
use Rattle.algebra.proofs.OverNumbers.{from_symbols}
use Rattle.algebra.proofs.CorrectionNumbers.{located_val, located_to, agrees_val, agrees_to}
use Rattle.algebra.proofs.Equations.{solves_locator, solves_message}
use Rattle.algebra.proofs.SystemsNumbers.{solves_val}

module _ {X Y : Type 0} (A : Ops X) (B : Ops Y) (h : X → Y) (respects : Respects A B h) where
  pub power_map : (x : X) (n : ℕ) → h (power A x n) ≡ power B (h x) n
  power_map x zero = respects.ones
  power_map x (suc n) = respects.products x (power A x n) ∙ ap (B.mul (h x)) (power_map x n)

  powers_from_map : (p x : X) (n : ℕ) → map h (powers_from A p x n) ≡ powers_from B (h p) (h x) n
  powers_from_map p x zero = refl
  powers_from_map p x (suc n) = cons_path refl (powers_from_map (A.mul p x) x n ∙ ap (λ z. powers_from B z (h x) n) (respects.products p x))

  pub powers_map : (x : X) (n : ℕ) → map h (powers A x n) ≡ powers B (h x) n
  powers_map x n = powers_from_map A.one x n ∙ ap (λ z. powers_from B z (h x) n) respects.ones

  pub locator_row_map : (t n : ℕ) (x y : X) → map h (locator_row A t n x y) ≡ locator_row B t n (h x) (h y)
  locator_row_map t n x y =
      map-append h (times A y (powers A x t) ++ opposite A (powers A x n)) (A.neg (A.mul y (power A x t)) ∷ [])
      ∙ ap (λ z. z ++ (h (A.neg (A.mul y (power A x t))) ∷ []))
      (map-append h (times A y (powers A x t)) (opposite A (powers A x n))
      ∙ ap (λ z. z ++ map h (opposite A (powers A x n))) (times_map A B h respects y (powers A x t) ∙ ap (times B (h y)) (powers_map x t))
      ∙ ap (λ z. times B (h y) (powers B (h x) t) ++ z) (opposite_map A B h respects (powers A x n) ∙ ap (opposite B) (powers_map x n)))
      ∙ ap (λ z. (times B (h y) (powers B (h x) t) ++ opposite B (powers B (h x) n)) ++ (z ∷ []))
      (respects.opposites (A.mul y (power A x t)) ∙ ap B.neg (respects.products y (power A x t) ∙ ap (B.mul (h y)) (power_map x t)))

  pub message_row_map : (k : ℕ) (e x y : X) → map h (message_row A k e x y) ≡ message_row B k (h e) (h x) (h y)
  message_row_map k e x y =
      map-append h (times A e (powers A x k)) (A.mul e y ∷ [])
      ∙ ap (λ z. z ++ (h (A.mul e y) ∷ [])) (times_map A B h respects e (powers A x k) ∙ ap (times B (h e)) (powers_map x k))
      ∙ ap (λ z. times B (h e) (powers B (h x) k) ++ (z ∷ [])) (respects.products e y)

  rows_of_map : (row : X → X → List X) (also : Y → Y → List Y) → ((x y : X) → map h (row x y) ≡ also (h x) (h y)) → (points ys : List X) → map (λ r. map h r) (rows_of A row points ys) ≡ rows_of B also (map h points) (map h ys)
  rows_of_map row also f [] ys = refl
  rows_of_map row also f (x ∷ points) [] = refl
  rows_of_map row also f (x ∷ points) (y ∷ ys) = cons_path (f x y) (rows_of_map row also f points ys)

  pub locator_rows_map : (t n : ℕ) (points ys : List X) → map (λ r. map h r) (locator_rows A t n points ys) ≡ locator_rows B t n (map h points) (map h ys)
  locator_rows_map t n = rows_of_map (locator_row A t n) (locator_row B t n) (locator_row_map t n)

  pub message_rows_map : (k : ℕ) (l points ys : List X) → map (λ r. map h r) (message_rows A k l points ys) ≡ message_rows B k (map h l) (map h points) (map h ys)
  message_rows_map k l =
      rows_of_map (λ x y. message_row A k (value A (monic A l) x) x y) (λ x y. message_row B k (value B (monic B (map h l)) x) x y)
      (λ x y. message_row_map k (value A (monic A l) x) x y
      ∙ ap (λ z. message_row B k z (h x) (h y)) (value_map A B h respects (monic A l) x ∙ ap (λ z. value B z (h x)) (monic_map A B h respects l)))

module _ (F : Meaning) (laws : IsField F) where
  abbrev G : FieldOn (Below F.q)
  G = over F laws

  abbrev A : Ops (Below F.q)
  A = G.ops

  abbrev N : Ops ℕ
  N = numbers F

  abbrev LocatorAt : ℕ → ℕ → List ℕ → List ℕ → List ℕ → List ℕ → Type 0
  LocatorAt t n points ys l M =
      length points ≡ length ys → length l ≡ t → length M ≡ n → Solves N (locator_rows N t n points ys) (l ++ M) ↔ Located N points ys l M

  locator_inside : (t n : ℕ) (points ys l M : List (Below F.q)) → LocatorAt t n (map val points) (map val ys) (map val l) (map val M)
  locator_inside t n points ys l M e el eM =
      let a = length-map points (val {q = F.q}) in
      let b = length-map ys (val {q = F.q}) in
      let c = length-map l (val {q = F.q}) in
      let d = length-map M (val {q = F.q}) in
      let k = solves_locator G t n points ys l M (omega arith) (omega arith) (omega arith) in
      let v = solves_val F laws (locator_rows A t n points ys) (l ++ M) in
      let rows = locator_rows_map A N val (val_respects F laws) t n points ys in
      let joined = map-append (val {q = F.q}) l M in (
        (λ h. located_val F laws points ys l M (k.0 (v.1 (subst (λ z. Solves N z (map val (l ++ M))) (sym rows) (subst (λ z. Solves N (locator_rows N t n (map val points) (map val ys)) z) (sym joined) h))))),
        (λ h. subst (λ z. Solves N (locator_rows N t n (map val points) (map val ys)) z) joined (subst (λ z. Solves N z (map val (l ++ M))) rows (v.0 (k.1 (located_to F laws points ys l M h))))),
      )

  -- the first system: its solutions are the pairs E, N
  pub solves_locator_numbers : (t n : ℕ) (points ys l M : List ℕ) → Symbols F points → Symbols F ys → Symbols F l → Symbols F M → length points ≡ length ys → length l ≡ t → length M ≡ n → Solves N (locator_rows N t n points ys) (l ++ M) ↔ Located N points ys l M
  solves_locator_numbers t n points ys l M sp sy sl sM =
      from_symbols F laws (λ z. LocatorAt t n z ys l M)
      (λ p. from_symbols F laws (λ z. LocatorAt t n (map val p) z l M)
      (λ y. from_symbols F laws (λ z. LocatorAt t n (map val p) (map val y) z M)
      (λ l. from_symbols F laws (λ z. LocatorAt t n (map val p) (map val y) (map val l) z)
      (λ M. locator_inside t n p y l M) M sM) l sl) ys sy) points sp

  -- the same of one list of t + n unknowns
  pub solves_locator_parts_numbers : (t n : ℕ) (points ys xs : List ℕ) → Symbols F points → Symbols F ys → Symbols F xs → length points ≡ length ys → length xs ≡ t + n → Solves N (locator_rows N t n points ys) xs ↔ Located N points ys (take t xs) (drop t xs)
  solves_locator_parts_numbers t n points ys xs sp sy sx e ex =
      let a = length-take t xs in
      let b = length-drop t xs in
      subst (λ z. Solves N (locator_rows N t n points ys) z ↔ Located N points ys (take t xs) (drop t xs)) (take-append-drop t xs)
      (solves_locator_numbers t n points ys (take t xs) (drop t xs) sp sy (All-take _ t xs sx) (All-drop _ t xs sx) e (omega arith) (omega arith))

  abbrev MessageAt : ℕ → List ℕ → List ℕ → List ℕ → List ℕ → Type 0
  MessageAt k points ys l f = length points ≡ length ys → length f ≡ k → Solves N (message_rows N k l points ys) f ↔ Agrees N points ys l f

  message_inside : (k : ℕ) (points ys l f : List (Below F.q)) → MessageAt k (map val points) (map val ys) (map val l) (map val f)
  message_inside k points ys l f e ef =
      let a = length-map points (val {q = F.q}) in
      let b = length-map ys (val {q = F.q}) in
      let c = length-map f (val {q = F.q}) in
      let m = solves_message G k points ys l f (omega arith) (omega arith) in
      let v = solves_val F laws (message_rows A k l points ys) f in
      let rows = message_rows_map A N val (val_respects F laws) k l points ys in (
        (λ h. agrees_val F laws points ys l f (m.0 (v.1 (subst (λ z. Solves N z (map val f)) (sym rows) h)))),
        (λ h. subst (λ z. Solves N z (map val f)) rows (v.0 (m.1 (agrees_to F laws points ys l f h)))),
      )

  -- the second system: its solutions are the polynomials that agree with the word where E is not 0
  pub solves_message_numbers : (k : ℕ) (points ys l f : List ℕ) → Symbols F points → Symbols F ys → Symbols F l → Symbols F f → length points ≡ length ys → length f ≡ k → Solves N (message_rows N k l points ys) f ↔ Agrees N points ys l f
  solves_message_numbers k points ys l f sp sy sl sf =
      from_symbols F laws (λ z. MessageAt k z ys l f)
      (λ p. from_symbols F laws (λ z. MessageAt k (map val p) z l f)
      (λ y. from_symbols F laws (λ z. MessageAt k (map val p) (map val y) z f)
      (λ l. from_symbols F laws (λ z. MessageAt k (map val p) (map val y) (map val l) z)
      (λ f. message_inside k p y l f) f sf) l sl) ys sy) points sp
