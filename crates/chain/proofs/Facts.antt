-- What follows of a chain from its laws, and what its definitions by search find. Assumes nothing.
use Rattle.std.proofs.Common.{◌≡◌, ℕ, ◌<◌, ◌≤◌, T, eqb, leb, List, replicate, Some, None, sym, refl, ap, ◌∙◌, subst, ap₂, le→leb, eqb→eq, leb→le}
use Rattle.field.specs.Places.{distance as differing}
use Rattle.field.specs.Words.{added, scaled}
use Rattle.field.proofs.Metric.{eqb_tells, distance_zero, distance_itself, nearest_only_half}
use Rattle.field.proofs.Unique.{zero_small}
use Rattle.field.proofs.Vectors.{length_added, length_scaled, added_closed, scaled_closed, scaled_zero, symbols_replicate}
use Rattle.chain.specs.Answers.{message_of, message_near, words_equal}
use Rattle.chain.specs.Follows.{LevelFacts}
use Rattle.chain.specs.Meaning.{Meaning, IsChain, Level, Message, OfLevel, radius}
use Rattle.chain.specs.Search.{all_words}
use Rattle.chain.proofs.Searching.{In, all_words_has, all_words_are, first_that_some, first_that_none}

module _ {C : Meaning} (lawful : IsChain C) (i : ℕ) (level : Level C i) where
  pub one_near : (b v w : List ℕ) → OfLevel C i v → OfLevel C i w → differing v b ≤ radius (C.distance i) → differing w b ≤ radius (C.distance i) → v ≡ w
  one_near b v w hv hw near_v near_w = nearest_only_half eqb eqb_tells (OfLevel C i) (C.distance i) (lawful.distance_least i level) (lawful.apart i level) b v w hv hw near_v near_w

  pub message_added : (xs ys : List ℕ) → Message C i xs → Message C i ys → Message C i (added C.field xs ys)
  message_added xs ys hx hy = record { long = length_added C.field xs ys ∙ hx.long; all = added_closed lawful.over_field xs ys hx.all hy.all }

  pub message_scaled : (a : ℕ) (xs : List ℕ) → a < C.field.q → Message C i xs → Message C i (scaled C.field a xs)
  message_scaled a xs h hx = record { long = length_scaled C.field a xs ∙ hx.long; all = scaled_closed lawful.over_field a h xs hx.all }

  pub sums : (v w : List ℕ) → OfLevel C i v → OfLevel C i w → OfLevel C i (added C.field v w)
  sums v w hv hw =
      (added C.field hv.0 hw.0, message_added _ _ hv.1 hw.1, lawful.of_sum i level _ _ hv.1 hw.1 ∙ ap₂ (added C.field) hv.2 hw.2)

  pub multiples : (a : ℕ) (w : List ℕ) → a < C.field.q → OfLevel C i w → OfLevel C i (scaled C.field a w)
  multiples a w h hw = (scaled C.field a hw.0, message_scaled a _ h hw.1, lawful.of_multiple i level a _ h hw.1 ∙ ap (scaled C.field a) hw.2)

  zeros_message : Message C i (replicate (C.size i) 0)
  zeros_message = record { long = lib.ListN.length-replicate (C.size i) 0; all = symbols_replicate C.field.q (C.size i) 0 (zero_small lawful.over_field) }

  pub zeros : OfLevel C i (replicate C.m 0)
  zeros =
      let word = lawful.encodes i level _ zeros_message in
      subst (OfLevel C i) (scaled_zero lawful.over_field _ word.all ∙ ap (λ n. replicate n 0) word.long)
      (multiples 0 _ (zero_small lawful.over_field) (replicate (C.size i) 0, zeros_message, refl))

  pub level_facts : LevelFacts C i
  level_facts = record {
    one_near = one_near;
    one_message = λ w xs ys hx hy ex ey. lawful.injective i level xs ys hx hy (ex ∙ sym ey);
    sums = sums;
    multiples = multiples;
    zeros = zeros;
  }

  -- what the search for a near word finds
  message_listed : (xs : List ℕ) → Message C i xs → In xs (all_words C.field.q (C.size i))
  message_listed xs h = subst (λ k. In xs (all_words C.field.q k)) h.long (all_words_has C.field.q xs h.all)

  listed_message : (xs : List ℕ) → In xs (all_words C.field.q (C.size i)) → Message C i xs
  listed_message xs h = let r = all_words_are C.field.q (C.size i) xs h in record { long = r.0; all = r.1 }

  pub message_near_is : (b xs : List ℕ) → Message C i xs → differing (C.encoding i xs) b ≤ radius (C.distance i) → message_near C i b ≡ Some xs
  unfolding message_near
  message_near_is b xs hx near =
      let r = first_that_some (λ ys. leb (differing (C.encoding i ys) b) (radius (C.distance i))) (all_words C.field.q (C.size i)) xs (message_listed xs hx) (le→leb _ _ near) in
      let hr = listed_message r.word r.listed in
      let same = one_near b _ _ (r.word, hr, refl) (xs, hx, refl) (leb→le _ _ r.passes) near in
      r.is ∙ ap Some (lawful.injective i level r.word xs hr hx same)

  pub message_near_none : (b : List ℕ) → ((xs : List ℕ) → Message C i xs → differing (C.encoding i xs) b ≤ radius (C.distance i) → ⊥) → message_near C i b ≡ None
  unfolding message_near
  message_near_none b h = first_that_none _ _ (λ xs listed t. h xs (listed_message xs listed) (leb→le _ _ t))

  pub message_of_is : (w xs : List ℕ) → Message C i xs → C.encoding i xs ≡ w → message_of C i w ≡ Some xs
  unfolding message_of
  message_of_is w xs hx e =
      let r = first_that_some (λ ys. words_equal (C.encoding i ys) w) (all_words C.field.q (C.size i)) xs (message_listed xs hx) (subst (λ d. T (eqb d 0)) (sym (ap (λ v. differing v w) e ∙ distance_itself eqb eqb_tells w)) tt) in
      let hr = listed_message r.word r.listed in
      r.is ∙ ap Some (lawful.injective i level r.word xs hr hx (distance_zero eqb eqb_tells _ w (eqb→eq _ 0 r.passes) ∙ sym e))

  pub message_of_none : (w : List ℕ) → ((xs : List ℕ) → Message C i xs → C.encoding i xs ≡ w → ⊥) → message_of C i w ≡ None
  unfolding message_of
  message_of_none w h = first_that_none _ _ (λ xs listed t. h xs (listed_message xs listed) (distance_zero eqb eqb_tells _ w (eqb→eq _ 0 t)))
