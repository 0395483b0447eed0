-- What a chain of iterators computes, as the recursion of a definition. Assumes nothing.
use Rattle.std.proofs.Common.{◌≡◌, ℕ, ◌+◌, ◌<◌, ◌≤◌, Bool, true, false, cond, not, eqb, eqb→eq, T, subst, add-zero, List, [], ◌∷◌, ◌++◌, length, reverse, get_or, set, take, drop, sym, ap, ◌∙◌, ap₂, arith, zip, min, take-append-drop}
use native.Mathlib.Decide.{dec_lt}
use lib.Dec.{eqb_refl}
use mathlib.Core.List.{reverse-cons}
use Rattle.std.specs.Int.{abs_diff}
use Rattle.std.specs.List.{count_by, fold}
use Rattle.std.proofs.lemmas.List.{append_assoc, drop_all, drop_more, drop-set-lt, take_all, take_more_set}
use Rattle.std.proofs.lemmas.List.Sums.{fold-append, sum_by-cons, sum_by_more, count_by-le-length}
use Rattle.std.proofs.lemmas.Slice.Zip.{length-zip, get_or-zip}
use Rattle.field.specs.Places.{unless, distance}
use Rattle.field.proofs.Tests.{true_is, is_false}

-- from the last item on
pub fold_back : {X Y : Type 0} (F : List X → Y) (h : X → Y → Y) (a : Y) → F [] ≡ a → ((x : X) (xs : List X) → F (x ∷ xs) ≡ h x (F xs)) → (xs : List X) → fold (λ v x. h x v) a (reverse xs) ≡ F xs
fold_back F h a none step [] = sym none
fold_back F h a none step (x ∷ xs) =
    ap (fold (λ v y. h y v) a) (reverse-cons x xs) ∙ fold-append (λ v y. h y v) a (reverse xs) (x ∷ []) ∙ ap (h x) (fold_back F h a none step xs) ∙ sym (step x xs)

one_more : (b : Bool) (n : ℕ) → unless b n ≡ cond (not b) 1 0 + n
one_more true n = omega arith
one_more false n = omega arith

-- the places that both words have, and those that only one has
pub distance_counted : (xs ys : List ℕ) → distance xs ys ≡ count_by (λ p. not (eqb p.0 p.1)) (zip xs ys) + abs_diff (length xs) (length ys)
distance_counted [] ys = omega arith
distance_counted (x ∷ xs) [] = omega arith
distance_counted (x ∷ xs) (y ∷ ys) = omega (arith, one_more (eqb x y) (distance xs ys), distance_counted xs ys, sum_by-cons (λ p. cond (not (eqb p.0 p.1)) 1 0) (x, y) (zip xs ys))

-- a loop that writes a word place by place, as far as another word goes
module _ (G : List ℕ → List ℕ → List ℕ) (h : ℕ → ℕ → ℕ) (out vs : List ℕ) (i : ℕ) where
  pub place_written : ((x v : ℕ) (xs us : List ℕ) → G (x ∷ xs) (v ∷ us) ≡ h x v ∷ G xs us) → i < length out → i < length vs → (w : ℕ) → w ≡ h (get_or out i 0) (get_or vs i 0)
      → take (i + 1) (set out i w) ++ G (drop (i + 1) (set out i w)) (drop (i + 1) vs) ≡ take i out ++ G (drop i out) (drop i vs)
  place_written step ho hv w is =
      ap₂ (λ t d. t ++ G d (drop (i + 1) vs)) (take_more_set out i w ho) (drop-set-lt (i + 1) out i w (omega arith))
      ∙ append_assoc (take i out) (w ∷ []) (G (drop (i + 1) out) (drop (i + 1) vs))
      ∙ ap (λ x. take i out ++ x) (ap (λ y. y ∷ G (drop (i + 1) out) (drop (i + 1) vs)) is ∙ sym (step _ _ _ _) ∙ sym (ap₂ G (drop_more out i 0 ho) (drop_more vs i 0 hv)))

  pub rest_stays : ((xs : List ℕ) → G xs [] ≡ xs) → length vs ≤ i → take i out ++ G (drop i out) (drop i vs) ≡ out
  rest_stays nil past = ap (λ d. take i out ++ G (drop i out) d) (drop_all i vs past) ∙ ap (λ d. take i out ++ d) (nil (drop i out)) ∙ take-append-drop i out

  pub rest_done : ((xs : List ℕ) → G xs [] ≡ xs) → ((us : List ℕ) → G [] us ≡ []) → min (length out) (length vs) ≤ i → take i out ++ G (drop i out) (drop i vs) ≡ out
  rest_done nil none past =
      elim (dec_lt i (length vs)) [
        | yes l ↦
            let e : drop i out ≡ [] = drop_all i out (omega (arith, l, past)) in
            ap (λ d. take i out ++ d) (ap (λ d. G d (drop i vs)) e ∙ none (drop i vs) ∙ sym e) ∙ take-append-drop i out
        | no m ↦ rest_stays nil (omega (arith, m))
      ]

-- one place more of both words, where they differ or not, and all of them
module _ (xs ys : List ℕ) (i : ℕ) (hx : i < length xs) (hy : i < length ys) where
  counted_more : count_by (λ p. not (eqb p.0 p.1)) (take (i + 1) (zip xs ys)) ≡ count_by (λ p. not (eqb p.0 p.1)) (take i (zip xs ys)) + cond (not (eqb (get_or xs i 0) (get_or ys i 0))) 1 0
  counted_more =
      sum_by_more (λ p. cond (not (eqb p.0 p.1)) 1 0) (zip xs ys) i (0, 0) (omega (arith, length-zip xs ys))
      ∙ ap (λ p. count_by (λ p. not (eqb p.0 p.1)) (take i (zip xs ys)) + cond (not (eqb p.0 p.1)) 1 0) (get_or-zip xs ys i (0, 0) hx hy)

  pub counted_other : (get_or xs i 0 ≡ get_or ys i 0 → ⊥) → count_by (λ p. not (eqb p.0 p.1)) (take (i + 1) (zip xs ys)) ≡ count_by (λ p. not (eqb p.0 p.1)) (take i (zip xs ys)) + 1
  counted_other other =
      counted_more ∙ ap (λ b. count_by (λ p. not (eqb p.0 p.1)) (take i (zip xs ys)) + cond (not b) 1 0) (is_false _ (λ t. other (eqb→eq _ _ t)))

  pub counted_same : get_or xs i 0 ≡ get_or ys i 0 → count_by (λ p. not (eqb p.0 p.1)) (take (i + 1) (zip xs ys)) ≡ count_by (λ p. not (eqb p.0 p.1)) (take i (zip xs ys))
  counted_same same =
      counted_more
      ∙ ap (λ b. count_by (λ p. not (eqb p.0 p.1)) (take i (zip xs ys)) + cond (not b) 1 0) (true_is _ (subst (λ z. T (eqb (get_or xs i 0) z)) same (eqb_refl (get_or xs i 0))))
      ∙ add-zero _

pub counted_all : (xs ys : List ℕ) (i : ℕ) → min (length xs) (length ys) ≤ i → count_by (λ p. not (eqb p.0 p.1)) (take i (zip xs ys)) ≡ count_by (λ p. not (eqb p.0 p.1)) (zip xs ys)
counted_all xs ys i past = ap (count_by (λ (p : ℕ × ℕ). not (eqb p.0 p.1))) (take_all i (zip xs ys) (omega (arith, length-zip xs ys)))

-- both words' lengths bound what is counted
pub counted_most : (xs ys : List ℕ) → count_by (λ p. not (eqb p.0 p.1)) (zip xs ys) ≤ min (length xs) (length ys)
counted_most xs ys = omega (arith, count_by-le-length (λ p. not (eqb p.0 p.1)) (zip xs ys), length_zip xs ys)
  where
    length_zip : (us vs : List ℕ) → length (zip us vs) ≤ min (length us) (length vs)
    length_zip [] vs = omega arith
    length_zip (u ∷ us) [] = omega arith
    length_zip (u ∷ us) (v ∷ vs) = omega (arith, length_zip us vs)
