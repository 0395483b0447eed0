-- The laws of the three kinds of level. Assumes nothing.
use Rattle.std.specs.Prelude.{◌≡◌, ℕ, zero, suc, ◌+◌, ◌-◌, ◌<◌, ◌≤◌, T, List, [], ◌∷◌, ◌++◌, length, take, replicate, ◌==◌, ◌≢◌, nat_eq, slice_index, slice_index_or, refl}
use Rattle.std.proofs.Common.{sym, ap, ap₂, subst, ◌∙◌, arith, eqb→eq, lt→ltb, take-append-drop, take_all, length-take-le}
use Rattle.std.proofs.Math.Decide.{dec_le}
use Rattle.std.proofs.lemmas.List.{get_or-replicate, get_or-take, drop_more, drop_all, same_from_push, length_push, length-replicate}
use Rattle.field.specs.Meaning.{IsField, opposite_of}
use Rattle.field.specs.Meaning as fields
use Rattle.field.specs.Places.{distance, unless}
use Rattle.field.specs.Words.{symbols, added, scaled, total}
use Rattle.field.proofs.Accepted.{both_hold}
use Rattle.field.proofs.Laws.{opposite_small, sum_opposite, opposite_of_sum, opposite_of_multiple}
use Rattle.field.proofs.Metric.{eqb_tells, distance_zero, distance_itself}
use Rattle.field.proofs.Tests.{is_false}
use Rattle.field.proofs.Unique.{opposite_is}
use Rattle.field.proofs.Vectors.{added_append, scaled_append, added_replicate, scaled_replicate, symbols_take, symbols_append, symbols_replicate, total_append, total_added, total_scaled, one_total}
use Rattle.field.proofs.WordLaws.{symbol_at, total_closed}
use Rattle.chain.specs.Meaning.{Word}
use Rattle.plain.specs.Kinds.{kind_size, kind_distance, kind_word}
use Rattle.plain.specs.Words.{fits, others}
use Rattle.plain.specs.declared.kinds.Kind.{Kind}
use Rattle.plain.specs.declared.kinds.Kind.TheVariants.{Every, ZeroSum, Repeated}

-- two different symbols, repeated, differ everywhere
replicate_apart : (n a b : ℕ) → (a ≢ b) → distance (replicate n a) (replicate n b) ≡ n
replicate_apart zero a b ne = refl
replicate_apart (suc n) a b ne = ap (λ t. unless t (distance (replicate n a) (replicate n b))) (is_false _ (λ t. ne (eqb→eq a b t))) ∙ ap suc (replicate_apart n a b ne)

-- a list of one symbol
single : (xs : List ℕ) → length xs ≡ 1 → xs ≡ slice_index xs 0 ∷ []
single [] e = absurd (omega arith)
single (x ∷ []) e = refl
single (x ∷ y ∷ xs) e = absurd (omega arith)

module _ {F : fields.Meaning} (lawful : IsField F) (m : ℕ) (two : 2 ≤ m) where
  pub size_least : (k : Kind) → 1 ≤ kind_size m k
  size_least Every = omega arith
  size_least ZeroSum = omega arith
  size_least Repeated = omega arith

  pub size_most : (k : Kind) → kind_size m k ≤ m
  size_most Every = omega arith
  size_most ZeroSum = omega arith
  size_most Repeated = omega arith

  pub distance_least : (k : Kind) → 1 ≤ kind_distance m k
  distance_least Every = omega arith
  distance_least ZeroSum = omega arith
  distance_least Repeated = omega arith

  pub distance_most : (k : Kind) → kind_distance m k ≤ m
  distance_most Every = omega arith
  distance_most ZeroSum = omega arith
  distance_most Repeated = omega arith

  last_small : (xs : List ℕ) → T (symbols F.q xs) → opposite_of F (total F xs) < F.q
  last_small xs t = opposite_small lawful _ (total_closed lawful xs t)

  last_symbols : (x : ℕ) → x < F.q → T (symbols F.q (x ∷ []))
  last_symbols x h = both_hold _ _ (lt→ltb x F.q h) tt

  head_small : (xs : List ℕ) → Word F 1 xs → slice_index xs 0 < F.q
  head_small xs h = symbol_at F.q xs h.all 0 (omega (arith, h.long))

  pub encodes : (k : Kind) (xs : List ℕ) → Word F (kind_size m k) xs → Word F m (kind_word F m k xs)
  encodes Every xs h = h
  encodes ZeroSum xs h = record {
    long = length_push xs _ ∙ (let e = h.long in omega arith);
    all = symbols_append F.q xs _ h.all (last_symbols _ (last_small xs h.all));
  }
  encodes Repeated xs h = record { long = length-replicate m _; all = symbols_replicate F.q m _ (head_small xs h) }

  pub of_sum : (k : Kind) (xs ys : List ℕ) → Word F (kind_size m k) xs → Word F (kind_size m k) ys → kind_word F m k (added F xs ys) ≡ added F (kind_word F m k xs) (kind_word F m k ys)
  of_sum Every xs ys hx hy = refl
  of_sum ZeroSum xs ys hx hy =
      let same = hx.long ∙ sym hy.long in
      let tx = total_closed lawful xs hx.all in
      let ty = total_closed lawful ys hy.all in
      ap (λ o. added F xs ys ++ o ∷ []) (ap (opposite_of F) (total_added lawful xs ys same hx.all hy.all) ∙ opposite_of_sum lawful _ _ tx ty)
      ∙ sym (added_append F xs ys _ _ same)
  of_sum Repeated xs ys hx hy =
      ap (replicate m) (ap₂ (λ u v. slice_index (added F u v) 0) (single xs hx.long) (single ys hy.long)) ∙ sym (added_replicate F m _ _)

  pub of_multiple : (k : Kind) (a : ℕ) (xs : List ℕ) → a < F.q → Word F (kind_size m k) xs → kind_word F m k (scaled F a xs) ≡ scaled F a (kind_word F m k xs)
  of_multiple Every a xs ha hx = refl
  of_multiple ZeroSum a xs ha hx =
      ap (λ o. scaled F a xs ++ o ∷ []) (ap (opposite_of F) (total_scaled lawful a ha xs hx.all) ∙ opposite_of_multiple lawful a _ ha (total_closed lawful xs hx.all))
      ∙ sym (scaled_append F a xs _)
  of_multiple Repeated a xs ha hx = ap (replicate m) (ap (λ u. slice_index (scaled F a u) 0) (single xs hx.long)) ∙ sym (scaled_replicate F m a _)

  -- the symbol that is repeated stands at the front
  front : (x : ℕ) → slice_index (replicate m x) 0 ≡ x
  front x = get_or-replicate m 0 x 0 (omega arith)

  pub injective : (k : Kind) (xs ys : List ℕ) → Word F (kind_size m k) xs → Word F (kind_size m k) ys → kind_word F m k xs ≡ kind_word F m k ys → xs ≡ ys
  injective Every xs ys hx hy e = e
  injective ZeroSum xs ys hx hy e = (same_from_push xs ys _ _ e).0
  injective Repeated xs ys hx hy e =
      single xs hx.long ∙ ap (λ x. x ∷ []) (sym (front _) ∙ ap (λ w. slice_index w 0) e ∙ front _) ∙ sym (single ys hy.long)

  -- the symbols of a word of kind 1 add to 0
  zero_total : (xs : List ℕ) → T (symbols F.q xs) → total F (xs ++ opposite_of F (total F xs) ∷ []) ≡ 0
  zero_total xs t =
      total_append lawful xs _ t (last_symbols _ (last_small xs t))
      ∙ ap (F.sum (total F xs)) (lawful.sum_zero _ (last_small xs t)) ∙ sum_opposite lawful _ (total_closed lawful xs t)

  pub apart : (k : Kind) (xs ys : List ℕ) → Word F (kind_size m k) xs → Word F (kind_size m k) ys → (kind_word F m k xs ≢ kind_word F m k ys) → kind_distance m k ≤ distance (kind_word F m k xs) (kind_word F m k ys)
  apart Every xs ys hx hy ne =
      elim (dec_le 1 (distance xs ys)) [ yes h ↦ h | no h ↦ absurd (ne (distance_zero nat_eq eqb_tells xs ys (omega arith))) ]
  apart ZeroSum xs ys hx hy ne =
      let v = kind_word F m ZeroSum xs in
      let w = kind_word F m ZeroSum ys in
      let hv = encodes ZeroSum xs hx in
      let hw = encodes ZeroSum ys hy in
      elim (dec_le 2 (distance v w)) [
        | yes h ↦ h
        | no h ↦ absurd (ne (one_total lawful v w (hv.long ∙ sym hw.long) hv.all hw.all (omega arith) (zero_total xs hx.all ∙ sym (zero_total ys hy.all))))
      ]
  apart Repeated xs ys hx hy ne =
      let far = replicate_apart m (slice_index xs 0) (slice_index ys 0) (λ e. ne (ap (replicate m) e)) in
      omega arith

  -- a word of a kind fits it, and a block that fits is a word
  pub word_fits : (k : Kind) (xs : List ℕ) → Word F (kind_size m k) xs → T (fits F k (kind_word F m k xs))
  word_fits Every xs h = tt
  word_fits ZeroSum xs h = subst (λ n. T (n == 0)) (sym (zero_total xs h.all)) tt
  word_fits Repeated xs h =
      let x = slice_index_or xs 0 0 in
      let same : others (slice_index (replicate m x) 0) (replicate m x) ≡ 0 = ap₂ (λ n y. distance (replicate n y) (replicate m x)) (length-replicate m x) (front x) ∙ distance_itself nat_eq eqb_tells (replicate m x) in
      subst (λ n. T (n == 0)) (sym same) tt

  pub taken : (k : Kind) (b : List ℕ) → Word F m b → Word F (kind_size m k) (take (kind_size m k) b)
  taken k b h = record { long = length-take-le (kind_size m k) b (let s = size_most k in omega (arith, h.long)); all = symbols_take F.q (kind_size m k) b h.all }

  pub fits_word : (k : Kind) (b : List ℕ) → Word F m b → T (fits F k b) → kind_word F m k (take (kind_size m k) b) ≡ b
  fits_word Every b h t = take_all m b (omega (arith, h.long))
  fits_word ZeroSum b h t =
      let n = m - 1 in
      let xs = take n b in
      let y = slice_index_or b n 0 in
      let whole : xs ++ y ∷ [] ≡ b = ap (λ l. xs ++ l) (sym (drop_more b n 0 (omega (arith, h.long)) ∙ ap (λ l. y ∷ l) (drop_all (n + 1) b (omega (arith, h.long))))) ∙ take-append-drop n b in
      let hx = symbols_take F.q n b h.all in
      let hy = symbol_at F.q b h.all n (omega (arith, h.long)) in
      let zero_sum : F.sum (total F xs) y ≡ 0 = ap (F.sum (total F xs)) (sym (lawful.sum_zero y hy)) ∙ sym (total_append lawful xs (y ∷ []) hx (last_symbols y hy)) ∙ ap (total F) whole ∙ eqb→eq _ 0 t in
      ap (λ o. xs ++ o ∷ []) (sym (opposite_is lawful (total F xs) y (total_closed lawful xs hx) hy zero_sum)) ∙ whole
  fits_word Repeated b h t =
      let first = get_or-take 1 b 0 0 (omega arith) in
      ap (replicate m) first ∙ ap (λ n. replicate n (slice_index b 0)) (sym h.long) ∙ distance_zero nat_eq eqb_tells _ b (eqb→eq _ 0 t)
