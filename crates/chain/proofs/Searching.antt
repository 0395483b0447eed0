-- What a search through all messages finds. Assumes nothing.
use Rattle.std.proofs.Common.{◌≡◌, ℕ, zero, suc, ◌<◌, Bool, true, false, cond, T, ltb, ◌⊎◌, List, [], ◌∷◌, ◌++◌, map, length, Some, None, sym, refl, ap, ◌∙◌, subst, inl, inr, ⊎_elim, arith, ltb→lt, lt→ltb}
use native.Mathlib.Decide.{dec_lt}
use Rattle.field.specs.Words.{symbols}
use Rattle.field.proofs.Accepted.{both_hold}
use Rattle.field.proofs.Tests.{both_left, both_right}
use Rattle.chain.specs.Search.{led_by, all_words, first_that}

abbrev pub In : List ℕ → List (List ℕ) → Type 0
In w [] = ⊥
In w (v ∷ vs) = (w ≡ v) ⊎ In w vs

in_left : (w : List ℕ) (us vs : List (List ℕ)) → In w us → In w (us ++ vs)
in_left w [] vs h = absurd h
in_left w (u ∷ us) vs (inl e) = inl e
in_left w (u ∷ us) vs (inr h) = inr (in_left w us vs h)

in_right : (w : List ℕ) (us vs : List (List ℕ)) → In w vs → In w (us ++ vs)
in_right w [] vs h = h
in_right w (u ∷ us) vs h = inr (in_right w us vs h)

in_either : (w : List ℕ) (us vs : List (List ℕ)) → In w (us ++ vs) → In w us ⊎ In w vs
in_either w [] vs h = inr h
in_either w (u ∷ us) vs (inl e) = inl (inl e)
in_either w (u ∷ us) vs (inr h) = ⊎_elim (λ l. inl (inr l)) (λ r. inr r) (in_either w us vs h)

in_map : (n : ℕ) (w : List ℕ) (ws : List (List ℕ)) → In w ws → In (n ∷ w) (map (λ v. n ∷ v) ws)
in_map n w [] h = absurd h
in_map n w (v ∷ vs) (inl e) = inl (ap (λ x. n ∷ x) e)
in_map n w (v ∷ vs) (inr h) = inr (in_map n w vs h)

-- a word that is led by n has the rest from the list
from_map : (n : ℕ) (w : List ℕ) (ws : List (List ℕ)) → In w (map (λ v. n ∷ v) ws) → (v : List ℕ) × (w ≡ n ∷ v) × In v ws
from_map n w [] h = absurd h
from_map n w (v ∷ vs) (inl e) = (v, e, inl refl)
from_map n w (v ∷ vs) (inr h) = let r = from_map n w vs h in (r.0, r.1, inr r.2)

order : (k n : ℕ) → k < suc n → (k < n) ⊎ (k ≡ n)
order k n h = elim (dec_lt k n) [ yes l ↦ inl l | no m ↦ inr (omega arith) ]

in_led : (n x : ℕ) (w : List ℕ) (ws : List (List ℕ)) → x < n → In w ws → In (x ∷ w) (led_by n ws)
unfolding led_by
in_led zero x w ws h i = absurd (omega arith)
in_led (suc n) x w ws h i =
    ⊎_elim (λ l. in_left _ (led_by n ws) _ (in_led n x w ws l i))
    (λ e. in_right _ (led_by n ws) _ (subst (λ y. In (x ∷ w) (map (λ v. y ∷ v) ws)) e (in_map x w ws i))) (order x n h)

from_led : (n : ℕ) (w : List ℕ) (ws : List (List ℕ)) → In w (led_by n ws) → (x : ℕ) × (v : List ℕ) × (w ≡ x ∷ v) × (x < n) × In v ws
unfolding led_by
from_led zero w ws h = absurd h
from_led (suc n) w ws h =
    ⊎_elim (λ l. let r = from_led n w ws l in (r.0, r.1, r.2, omega (arith, r.3), r.4))
    (λ m. let r = from_map n w ws m in (n, r.0, r.1, omega arith, r.2)) (in_either w (led_by n ws) _ h)

pub all_words_has : (q : ℕ) (xs : List ℕ) → T (symbols q xs) → In xs (all_words q (length xs))
unfolding all_words
all_words_has q [] t = inl refl
all_words_has q (x ∷ xs) t =
    in_led q x xs (all_words q (length xs)) (ltb→lt x q (both_left (ltb x q) (symbols q xs) t)) (all_words_has q xs (both_right (ltb x q) (symbols q xs) t))

pub all_words_are : (q k : ℕ) (xs : List ℕ) → In xs (all_words q k) → (length xs ≡ k) × T (symbols q xs)
unfolding all_words
all_words_are q zero xs (inl e) = (ap length e, subst (λ w. T (symbols q w)) (sym e) tt)
all_words_are q zero xs (inr h) = absurd h
all_words_are q (suc k) xs h =
    let r = from_led q xs (all_words q k) h in
    let rest = all_words_are q k r.1 r.4 in
    (ap length r.2 ∙ ap suc rest.0, subst (λ w. T (symbols q w)) (sym r.2) (both_hold _ _ (lt→ltb _ q r.3) rest.1))

-- what is found passes; what passes makes something found
pub record Found (test : List ℕ → Bool) (ws : List (List ℕ)) : Type 0 where
  pub word : List ℕ
  pub is : first_that test ws ≡ Some word
  pub listed : In word ws
  pub passes : T (test word)

pub first_that_some : (test : List ℕ → Bool) (ws : List (List ℕ)) (w : List ℕ) → In w ws → T (test w) → Found test ws
unfolding first_that
first_that_some test [] w h t = absurd h
first_that_some test (v ∷ vs) w h t = split (test v) refl (λ l. first_that_some test vs w l t) h
  where
    split : (b : Bool) → test v ≡ b → (In w vs → Found test vs) → (w ≡ v) ⊎ In w vs → Found test (v ∷ vs)
    split true e later k = record { word = v; is = ap (λ b. cond b (Some v) (first_that test vs)) e; listed = inl refl; passes = subst T (sym e) tt }
    split false e later (inl same) = absurd (subst T (ap test same ∙ e) t)
    split false e later (inr k) =
        let r = later k in
        record { word = r.word; is = ap (λ b. cond b (Some v) (first_that test vs)) e ∙ r.is; listed = inr r.listed; passes = r.passes }

pub first_that_none : (test : List ℕ → Bool) (ws : List (List ℕ)) → ((w : List ℕ) → In w ws → T (test w) → ⊥) → first_that test ws ≡ None
unfolding first_that
first_that_none test [] h = refl
first_that_none test (v ∷ vs) h = split (test v) refl (first_that_none test vs (λ w i t. h w (inr i) t))
  where
    split : (b : Bool) → test v ≡ b → first_that test vs ≡ None → first_that test (v ∷ vs) ≡ None
    split true e rest = absurd (h v (inl refl) (subst T (sym e) tt))
    split false e rest = ap (λ b. cond b (Some v) (first_that test vs)) e ∙ rest
