-- Why the decoder's answers are right. Assumes nothing.
use Rattle.std.proofs.Common.{◌≡◌, ℕ, ◌+◌, ◌<◌, ◌≤◌, Some, None, Option, T, eqb, List, [], ◌∷◌, ◌++◌, length, take, drop, set, sym, refl, ap, ◌∙◌, subst, ap₂, arith, length-drop, length-take}
use Rattle.std.proofs.lemmas.List.{take_more_set, length-append}
use Rattle.std.proofs.ByRecursion.{All-take, All-drop, All-append}
use Rattle.field.specs.Meaning.{Meaning, IsField}
use Rattle.field.specs.Places.{distance}
use Rattle.field.specs.Words.{symbols}
use Rattle.field.proofs.Laws.{product_zero, one_product}
use Rattle.field.proofs.Metric.{eqb_tells, distance_zero}
use Rattle.field.proofs.Unique.{one_small}
use Rattle.algebra.specs.Correction.{Agrees, locator_rows, message_rows}
use Rattle.algebra.specs.FieldOn.{Ops}
use Rattle.algebra.specs.Polynomials.{value, values, monic}
use Rattle.algebra.specs.Symbols.{numbers, Symbols}
use Rattle.algebra.proofs.CorrectionNumbers.{locator_exists, locator_agrees, agreeing_only_numbers}
use Rattle.algebra.proofs.EquationsNumbers.{solves_locator_numbers, solves_locator_parts_numbers, solves_message_numbers}
use Rattle.algebra.proofs.EvaluationNumbers.{value_symbol}
use Rattle.reed_solomon.specs.Code.{points, rs_word}
use Rattle.reed_solomon.specs.Decoding.{Read, Near, LocatedOrFar, Nearest}
use Rattle.reed_solomon.specs.Rows.{Outcome, rows_with}
use Rattle.reed_solomon.specs.Points.{length_points, points_below, points_different, word_is}
use Rattle.reed_solomon.specs.Words.{all_symbols, symbols_all}

-- the locator with its leading 1 in place
pub with_one : (F : Meaning) (xs : List ℕ) (t : ℕ) → t < length xs → take (t + 1) (set xs t 1) ≡ monic (numbers F) (take t xs)
with_one F xs t h = take_more_set xs t 1 h

pub monic_symbols : (F : Meaning) (laws : IsField F) (xs : List ℕ) → Symbols F xs → Symbols F (monic (numbers F) xs)
monic_symbols F laws xs s = All-append (λ x. x < F.q) xs (1 ∷ []) s (one_small laws, tt)

module _ (F : Meaning) (laws : IsField F) where
  abbrev N : Ops ℕ
  N = numbers F

  -- a polynomial agrees with its own word, and agreement where E = 1 is equality
  agrees_itself : (l g ps : List ℕ) → Agrees N ps (values N g ps) l g
  agrees_itself l g [] = tt
  agrees_itself l g (p ∷ ps) = (refl, agrees_itself l g ps)

  one_value : (x : ℕ) → x < F.q → value N (1 ∷ []) x ≡ 1
  one_value x h = ap (F.sum 1) (product_zero laws x h) ∙ laws.sum_zero 1 (one_small laws)

  agrees_one : (g ps ys : List ℕ) → Symbols F g → Symbols F ps → Symbols F ys → Agrees N ps ys [] g → values N g ps ≡ ys
  agrees_one g [] [] sg sp sy h = refl
  agrees_one g [] (y ∷ ys) sg sp sy h = absurd h
  agrees_one g (p ∷ ps) [] sg sp sy h = absurd h
  agrees_one g (p ∷ ps) (y ∷ ys) sg (hp, sp) (hy, sy) (h, hs) =
      let e = one_value p hp in
      let same : value N g p ≡ y
      = sym (one_product laws (value N g p) (value_symbol F laws g p sg hp)) ∙ ap (λ z. F.product z (value N g p)) (sym e) ∙ h ∙ ap (λ z. F.product z y) e ∙ one_product laws y hy in
      ap₂ (λ (a : ℕ) as'. a ∷ as') same (agrees_one g ps ys sg sp sy hs)

  module _ (b : List ℕ) (room : length b ≤ F.q) (sb : Symbols F b) where
    abbrev P : List ℕ
    P = points (length b)

    sP : Symbols F P
    sP = points_below F.q 0 (length b) (omega arith)

    long : length P ≡ length b
    long = length_points 0 (length b)

    near_values : (t : ℕ) (g : List ℕ) → distance (rs_word F (length b) g) b ≤ t → distance (values N g P) b ≤ t
    near_values t g h = subst (λ z. distance z b ≤ t) (word_is F (length b) g) h

    -- the second system
    pub message_agrees : (k : ℕ) (l f : List ℕ) → Symbols F l → length f ≡ k → Outcome F (message_rows N k l P b) k (Some tt) f → Agrees N P b l f
    message_agrees k l f sl lf (s, h) = (solves_message_numbers F laws k P b l f sP sb sl s long lf).0 h

    pub message_missing : (k : ℕ) (l f g : List ℕ) → Symbols F l → Symbols F g → length g ≡ k → Outcome F (message_rows N k l P b) k None f → Agrees N P b l g → ⊥
    message_missing k l f g sl sg lg h agrees = h (g, lg, sg, (solves_message_numbers F laws k P b l g sP sb sl sg long lg).1 agrees)

    -- reading a word
    pub read_yes : (out xs out' : List ℕ) → length xs ≡ length out → out' ≡ xs → Outcome F (rows_with F (length out) (1 ∷ []) P b) (length out) (Some tt) xs → Read F b out (Some tt) out'
    read_yes out xs out' lx is h =
        let word = word_is F (length b) xs ∙ agrees_one xs P b h.0 sP sb (message_agrees (length out) [] xs tt lx h) in
        ((ap length is ∙ lx, subst (λ z. T (symbols F.q z)) (sym is) (symbols_all F xs h.0)), ap (rs_word F (length b)) is ∙ word)

    pub read_no : (out f : List ℕ) → Outcome F (rows_with F (length out) (1 ∷ []) P b) (length out) None f → Read F b out None out
    read_no out f h = (
      refl,
      (λ xs (lx, tx) e. message_missing (length out) [] f xs tt (all_symbols F xs tx) lx h (subst (λ z. Agrees N P z [] xs) (sym (word_is F (length b) xs) ∙ e) (agrees_itself [] xs P))),
    )

    -- the first system
    pub located_free : (k t : ℕ) (xs : List ℕ) → t ≡ 0 → Symbols F xs → LocatedOrFar F k t b (Some tt) xs
    located_free k t xs none s = (
      s,
      (λ g ((lg, tg), near).
          let same : rs_word F (length b) g ≡ b = distance_zero eqb eqb_tells _ b (omega arith) in
          subst (λ z. Agrees N P z (take t xs) g) (sym (word_is F (length b) g) ∙ same) (agrees_itself (take t xs) g P)),
    )

    pub located_found : (k t : ℕ) (xs : List ℕ) (r : Option (Unit {0})) (n : ℕ) → length xs ≡ t + (k + t) → n ≡ k + t → t + (k + t) ≤ length b → Outcome F (locator_rows N t n P b) (length xs) r xs → LocatedOrFar F k t b r xs
    located_found k t xs (Some u) n lx en fits (s, h) =
        let a = length-take t xs in
        let d = length-drop t xs in
        let located = (solves_locator_parts_numbers F laws t n P b xs sP sb s long (omega arith)).0 h in (
          s,
          (λ g ((lg, tg), near).
              locator_agrees F laws g P b (take t xs) (drop t xs) t (all_symbols F g tg) sP sb (All-take (λ x. x < F.q) t xs s) (All-drop (λ x. x < F.q) t xs s) (points_different 0 (length b)) (omega arith) (omega arith) (omega (arith, long)) (near_values t g near) located),
        )
    located_found k t xs None n lx en fits h = λ g ((lg, tg), near).
        let (l, M, sl, sM, ll, lM, located) = locator_exists F laws g P b t (all_symbols F g tg) sP sb long (near_values t g near) in
        let e : length (l ++ M) ≡ length xs = length-append l M ∙ omega arith in
        h (l ++ M, e, All-append (λ x. x < F.q) l M sl sM, (solves_locator_numbers F laws t n P b l M sP sb sl sM long ll (omega arith)).1 located)

    -- correcting: l are the lower coefficients of E
    module _ (k t : ℕ) (l : List ℕ) (sl : Symbols F l) (ll : length l ≡ t) (fits : t + (k + t) ≤ length b) (agrees : (g : List ℕ) → Near F k t b g → Agrees N P b l g) where
      pub nearest_none : (f w : List ℕ) → Outcome F (message_rows N k l P b) k None f → Nearest F k t b None w
      nearest_none f w h = λ g ((lg, tg), near). message_missing k l f g sl (all_symbols F g tg) lg h (agrees g ((lg, tg), near))

      pub nearest_far : (f w : List ℕ) → length f ≡ k → Outcome F (message_rows N k l P b) k (Some tt) f → (distance (rs_word F (length b) f) b ≤ t → ⊥) → Nearest F k t b None w
      nearest_far f w lf h far = λ g ((lg, tg), near).
          let same : f ≡ g = agreeing_only_numbers F laws f g P b l h.0 (all_symbols F g tg) sP sb sl (points_different 0 (length b)) (lf ∙ sym lg) (omega (arith, long)) (message_agrees k l f sl lf h) (agrees g ((lg, tg), near)) in
          far (subst (λ z. distance (rs_word F (length b) z) b ≤ t) (sym same) near)

      pub nearest_found : (f w : List ℕ) → length f ≡ k → Symbols F f → distance (rs_word F (length b) f) b ≤ t → w ≡ rs_word F (length b) f → Nearest F k t b (Some tt) w
      nearest_found f w lf sf near is = (f, ((lf, symbols_all F f sf), near), is)
