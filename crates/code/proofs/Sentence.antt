-- The test by elimination decides the sentence that a matrix is non-singular by columns. Assumes nothing.
use Rattle.std.proofs.Common.{◌≡◌, ℕ, zero, suc, ◌+◌, ◌<◌, ◌≤◌, Bool, true, false, not, T, eqb, ltb, ◌≢◌, List, [], ◌∷◌, ◌++◌, length, replicate, sym, refl, ap, ◌∙◌, subst, inl, inr, arith, eqb→eq, ltb→lt, lt→ltb, T_not}
use native.Mathlib.Decide.{dec_le, ℕ_discrete}
use lib.Dec.{eqb_refl, not_T}
use Rattle.std.specs.List.{AllByRecursion}
use Rattle.field.specs.Meaning.{Meaning, IsField}
use Rattle.field.specs.Words.{symbols}
use Rattle.field.proofs.Accepted.{both_hold}
use Rattle.field.proofs.Metric.{bool_path}
use Rattle.field.proofs.Tests.{both_left, both_right}
use Rattle.algebra.specs.Matrices.{every, Among, NonsingularNumbers, tested}
use Rattle.algebra.specs.Polynomials.{Different}
use Rattle.algebra.specs.Symbols.{numbers, Symbols}
use Rattle.algebra.specs.Vectors.{dot}
use Rattle.algebra.proofs.Blocks.{range}
use Rattle.algebra.proofs.Elimination.{test_decides, every_among, among_every}
use Rattle.algebra.proofs.Everywhere.{all_each}
use Rattle.chain.specs.Search.{all_words}
use Rattle.chain.proofs.Searching.{In, all_words_has, all_words_are}
use Rattle.code.specs.Columns.{column, all_different, implies, vanishes, all_zero, up_to, nonsingular}
use Rattle.code.specs.Elimination.{free_from, passes}
use Rattle.code.proofs.Clearing.{symbol_any}

pub symbols_all : (q : ℕ) (xs : List ℕ) → T (symbols q xs) → AllByRecursion (λ x. x < q) xs
symbols_all q [] t = tt
symbols_all q (x ∷ xs) t = (ltb→lt x q (both_left (ltb x q) (symbols q xs) t), symbols_all q xs (both_right (ltb x q) (symbols q xs) t))

pub all_symbols : (q : ℕ) (xs : List ℕ) → AllByRecursion (λ x. x < q) xs → T (symbols q xs)
all_symbols q [] h = tt
all_symbols q (x ∷ xs) (h, hs) = both_hold _ _ (lt→ltb x q h) (all_symbols q xs hs)

implied : (a b : Bool) → (T a → T b) → T (implies a b)
implied true b h = h tt
implied false b h = tt

implies_holds : (a b : Bool) → T (implies a b) → T a → T b
implies_holds true b t s = t
implies_holds false b t s = absurd s

-- tests of all elements
pub all_pass : {X : Type 0} (test : X → Bool) (P : X → Type 0) → ((x : X) → T (test x) → P x) → (xs : List X) → T (every test xs) → AllByRecursion P xs
all_pass test P f [] t = tt
all_pass test P f (x ∷ xs) t = (f x (both_left (test x) (every test xs) t), all_pass test P f xs (both_right (test x) (every test xs) t))

pub pass_all : {X : Type 0} (test : X → Bool) (P : X → Type 0) → ((x : X) → P x → T (test x)) → (xs : List X) → AllByRecursion P xs → T (every test xs)
pass_all test P f [] h = tt
pass_all test P f (x ∷ xs) (h, hs) = both_hold _ _ (f x h) (pass_all test P f xs hs)

among_in : (w : List ℕ) (ws : List (List ℕ)) → Among ws w → In w ws
among_in w [] h = h
among_in w (v ∷ ws) (inl e) = inl e
among_in w (v ∷ ws) (inr h) = inr (among_in w ws h)

in_among : (w : List ℕ) (ws : List (List ℕ)) → In w ws → Among ws w
in_among w [] h = h
in_among w (v ∷ ws) (inl e) = inl e
in_among w (v ∷ ws) (inr h) = inr (in_among w ws h)

different_yes : (js : List ℕ) → T (all_different js) → Different js
different_yes [] t = tt
different_yes (j ∷ js) t = (
  all_pass (λ i. not (eqb j i)) (λ i. j ≢ i) (λ i u e. T_not (eqb j i) u (subst (λ k. T (eqb j k)) e (eqb_refl j))) js (both_left (every (λ i. not (eqb j i)) js) (all_different js) t),
  different_yes js (both_right (every (λ i. not (eqb j i)) js) (all_different js) t),
)

yes_different : (js : List ℕ) → Different js → T (all_different js)
yes_different [] d = tt
yes_different (j ∷ js) (n, d) =
    both_hold _ _ (pass_all (λ i. not (eqb j i)) (λ i. j ≢ i) (λ i u. not_T (eqb j i) (λ e. u (eqb→eq j i e))) js n) (yes_different js d)

up_to_all : (n : ℕ) (test : ℕ → Bool) → ((t : ℕ) → t ≤ n → T (test t)) → T (up_to n test)
up_to_all zero test h = tt
up_to_all (suc n) test h = both_hold _ _ (up_to_all n test (λ t l. h t (omega arith))) (h (suc n) (omega arith))

up_to_at : (n : ℕ) (test : ℕ → Bool) → T (up_to n test) → (t : ℕ) → 1 ≤ t → t ≤ n → T (test t)
up_to_at zero test p t l m = absurd (omega arith)
up_to_at (suc n) test p t l m =
    elim (dec_le t n) [
      | yes h ↦ up_to_at n test (both_left (up_to n test) (test (suc n)) p) t l h
      | no h ↦ let e : suc n ≡ t = omega arith in subst (λ k. T (test k)) e (both_right (up_to n test) (test (suc n)) p)
    ]

-- the columns of a code's matrix
among_below : (a n j : ℕ) → Among (range a n) j → j < a + n
among_below a zero j h = absurd h
among_below a (suc n) j (inl e) = omega arith
among_below a (suc n) j (inr h) = let k = among_below (suc a) n j h in omega arith

below_among : (a n j : ℕ) → a ≤ j → j < a + n → Among (range a n) j
below_among a zero j l h = absurd (omega arith)
below_among a (suc n) j l h = elim (ℕ_discrete j a) [ yes e ↦ inl e | no m ↦ inr (below_among (suc a) n j (omega arith) (omega arith)) ]

free_none : (a n : ℕ) → free_from a (replicate n true) ≡ []
free_none a zero = refl
free_none a (suc n) = free_none (suc a) n

free_range : (a w n : ℕ) → free_from a (replicate w false ++ replicate n true) ≡ range a w
free_range a zero n = free_none a n
free_range a (suc w) n = ap (λ l. a ∷ l) (free_range (suc a) w n)

module _ {F : Meaning} (lawful : IsField F) (s w : ℕ) (rows : List (List ℕ)) where
  to_sentence : NonsingularNumbers F s (column rows) (λ j. j < w) → T (nonsingular F s w rows)
  unfolding nonsingular
  to_sentence h =
      up_to_all s _ (λ t l. among_every _ (all_words w t) (λ js ij. implied (all_different js) _ (λ d. among_every _ (all_words F.q t) (λ cs ic. implied (vanishes F rows js cs) (all_zero cs) (λ v.
      let aj = all_words_are w t js (among_in js (all_words w t) ij) in
      let ac = all_words_are F.q t cs (among_in cs (all_words F.q t) ic) in
      let lc : length cs ≤ s = omega (arith, ac.0) in
      pass_all (λ c. eqb c 0) (λ c. c ≡ 0) (λ c e. subst (λ n. T (eqb n 0)) (sym e) tt) cs
      (h js cs lc (aj.0 ∙ sym ac.0) (different_yes js d) (symbols_all w js aj.1) (symbols_all F.q cs ac.1)
      (all_pass (λ j. eqb (dot (numbers F) cs (column rows j)) 0) (λ j. dot (numbers F) cs (column rows j) ≡ 0) (λ j e. eqb→eq _ 0 e) js v)))))))

  from_sentence : T (nonsingular F s w rows) → NonsingularNumbers F s (column rows) (λ j. j < w)
  unfolding nonsingular
  from_sentence n js [] l e d ins sy z = tt
  from_sentence n js (c ∷ cs) l e d ins sy z =
      let t = suc (length cs) in
      let at_t = up_to_at s (λ t. every (λ js. implies (all_different js) (every (λ cs. implies (vanishes F rows js cs) (all_zero cs)) (all_words F.q t))) (all_words w t)) n t (omega arith) l in
      let at_js = implies_holds (all_different js) _ (every_among _ (all_words w t) at_t js (in_among js (all_words w t) (subst (λ k. In js (all_words w k)) e (all_words_has w js (all_symbols w js ins))))) (yes_different js d) in
      let at_cs = implies_holds (vanishes F rows js (c ∷ cs)) (all_zero (c ∷ cs)) (every_among _ (all_words F.q t) at_js (c ∷ cs) (in_among (c ∷ cs) (all_words F.q t) (all_words_has F.q (c ∷ cs) (all_symbols F.q (c ∷ cs) sy))))
      (pass_all (λ j. eqb (dot (numbers F) (c ∷ cs) (column rows j)) 0) (λ j. dot (numbers F) (c ∷ cs) (column rows j) ≡ 0) (λ j x. subst (λ k. T (eqb k 0)) (sym x) tt) js z) in
      all_pass (λ x. eqb x 0) (λ x. x ≡ 0) (λ x u. eqb→eq x 0 u) (c ∷ cs) at_cs

  pub column_symbols : (rs : List (List ℕ)) → AllByRecursion (λ r. T (symbols F.q r)) rs → (j : ℕ) → Symbols F (column rs j)
  column_symbols [] h j = tt
  column_symbols (r ∷ rs) (h, hs) j = (symbol_any lawful r h j, column_symbols rs hs j)

  fewer : (In On : ℕ → Type 0) → ((j : ℕ) → On j → In j) → NonsingularNumbers F s (column rows) In → NonsingularNumbers F s (column rows) On
  fewer In On f h js cs l e d ins sy z = h js cs l e d (all_each On In f js ins) sy z

  -- what a matrix without a flaw gives
  pub nonsingular_columns : T (nonsingular F s w rows) → NonsingularNumbers F s (column rows) (Among (range 0 w))
  nonsingular_columns t = fewer (λ j. j < w) (Among (range 0 w)) (λ j a. let h = among_below 0 w j a in omega arith) (from_sentence t)

  pub passes_decides : (n : ℕ) → length rows ≡ s → AllByRecursion (λ r. T (symbols F.q r)) rows → passes F rows (replicate w false ++ replicate n true) ≡ nonsingular F s w rows
  passes_decides n long sy =
      ap (λ js. tested (numbers F) (λ a. eqb a 0) eqb (length rows) (column rows) js) (free_range 0 w n)
      ∙ ap (λ k. tested (numbers F) (λ a. eqb a 0) eqb k (column rows) (range 0 w)) long
      ∙ bool_path _ (nonsingular F s w rows)
      (λ t. to_sentence (fewer (Among (range 0 w)) (λ j. j < w) (λ j l. below_among 0 w j (omega arith) (omega arith)) ((test_decides F lawful s (column rows) (range 0 w) (column_symbols rows sy)).0 t)))
      (λ t. (test_decides F lawful s (column rows) (range 0 w) (column_symbols rows sy)).1 (nonsingular_columns t))
