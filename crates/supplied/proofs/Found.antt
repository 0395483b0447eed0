-- What a call answers, by what the search among the words found. Assumes nothing.
use Rattle.std.proofs.Common.{◌≡◌, ℕ, ◌<◌, ◌≤◌, T, true, eqb, List, [], ◌∷◌, length, get_or, set, Some, None, Ok, Err, Option, Result, MatchOption, sym, refl, ap, ◌∙◌, subst, arith}
use Rattle.refusal.specs.declared.Refusal.{Refusal}
use Rattle.refusal.specs.declared.Refusal.TheVariants.{NoLevelWord}
use Rattle.field.specs.Places.{distance}
use Rattle.field.specs.Words.{symbols}
use Rattle.field.proofs.Metric.{eqb_tells, distance_zero, distance_itself}
use Rattle.chain.specs.Calls.{Corrects, Strips}
use Rattle.chain.specs.Meaning.{Word}
use Rattle.chain.proofs.Causes.{correct_none, correct_done, strip_none, strip_done}
use Rattle.chain.proofs.Facts.{message_near_is, message_near_none, message_of_is, message_of_none}
use Rattle.supplied.specs.Quadratic.{four}
use Rattle.supplied.specs.Triples.{triples, word}
use Rattle.supplied.specs.Lawful.{is_chain, one_symbol, message, first_level, only_place}

abbrev Finds : List ℕ → ℕ → Option ℕ → Type 0
Finds b most r = MatchOption r ((x : ℕ) → x < 4 → distance (word x) b ≤ most → ⊥) (λ x. (x < 4) × (distance (word x) b ≤ most))

module _ (i : ℕ) (b : List ℕ) (first : i ≡ 1) (long : length b ≡ 3) (all : true ≡ symbols 4 b) where
  block : Word four 3 b
  block = record { long = long; all = subst T all tt }

  pub corrects_none : {r : Option ℕ} {a : Result (Unit {0}) Refusal} (scratch : List ℕ) → 4096 ≤ length scratch → Finds b 1 r → r ≡ None → a ≡ Err NoLevelWord → Corrects triples i b scratch a b scratch
  corrects_none scratch room found is answer =
      let h = subst (Finds b 1) is found in
      let level = first_level i first in
      subst (λ a. Corrects triples i b scratch a b scratch) (sym answer)
      (correct_none triples i b scratch scratch refl level block room (message_near_none is_chain i level b (λ xs hx near. h (get_or xs 0 0) (one_symbol xs hx).0 near)))

  pub corrects_some : {r : Option ℕ} {w : List ℕ} (x : ℕ) (scratch : List ℕ) → 4096 ≤ length scratch → Finds b 1 r → r ≡ Some x → w ≡ word x → Corrects triples i b scratch (Ok tt) w scratch
  corrects_some x scratch room found is after =
      let h = subst (Finds b 1) is found in
      let level = first_level i first in
      subst (λ w. Corrects triples i b scratch (Ok tt) w scratch) (sym after)
      (correct_done triples i b scratch scratch (x ∷ []) refl level block room (message_near_is is_chain i level b (x ∷ []) (message x h.0) h.1))

  pub strips_none : {r : Option ℕ} {a : Result (Unit {0}) Refusal} (out : List ℕ) → length out ≡ 1 → Finds b 0 r → r ≡ None → a ≡ Err NoLevelWord → Strips triples i b out a out
  strips_none out room found is answer =
      let h = subst (Finds b 0) is found in
      let level = first_level i first in
      subst (λ a. Strips triples i b out a out) (sym answer)
      (strip_none triples i b out refl level block room (message_of_none is_chain i level b (λ xs hx e. h (get_or xs 0 0) (one_symbol xs hx).0 (omega (arith, ap (λ w. distance w b) e ∙ distance_itself eqb eqb_tells b)))))

  pub strips_some : {r : Option ℕ} (x : ℕ) (out : List ℕ) → length out ≡ 1 → Finds b 0 r → r ≡ Some x → Strips triples i b out (Ok tt) (set out 0 x)
  strips_some x out room found is =
      let h = subst (Finds b 0) is found in
      let level = first_level i first in
      subst (λ w. Strips triples i b out (Ok tt) w) (sym (only_place out x room))
      (strip_done triples i b out (x ∷ []) refl level block room (message_of_is is_chain i level b (x ∷ []) (message x h.0) (distance_zero eqb eqb_tells (word x) b (omega (arith, h.1)))))
