-- The steps of the solver: what it computes, by the field's total functions. Assumes nothing.
use Rattle.std.proofs.Common.{◌≡◌, ℕ, ◌-◌, ◌<◌, ◌≤◌, List, [], ◌∷◌, length, get_or, take, drop, sym, refl, ap, ◌∙◌, subst, ap₂, arith, zip}
use borrow.Rule.Slice.PartMut.{put_mid}
use Rattle.std.proofs.lemmas.List.{length-drop, take_rest, drop_more}
use Rattle.field.specs.Meaning.{Meaning, IsField, opposite_of, inverse_of}
use Rattle.field.specs.Words.{plus_scaled, scaled, sum_or_0, product_or_0, opposite_or_0}
use Rattle.field.proofs.Accepted.{sum_or_0_is, product_or_0_is, opposite_or_0_is}
use Rattle.field.proofs.Laws.{opposite_small, zero_product, zero_sum}
use Rattle.field.proofs.Unique.{zero_small, opposite_is}
use Rattle.field.proofs.Vectors.{length_scaled}
use Rattle.std.specs.List.{fold}
use Rattle.algebra.specs.Symbols.{numbers, Symbols}
use Rattle.algebra.specs.Vectors.{plus, times, dot}
use Rattle.algebra.specs.Systems.{cleared, lead}
use Rattle.algebra.proofs.Bridge.{inverse_below}
use Rattle.algebra.proofs.Systems.{lead_drop}
use Rattle.reed_solomon.specs.Words.{added_is, scaled_is}
use Rattle.reed_solomon.proofs.Rowwise.{drop_part}

-- the entry in column c is a symbol if all entries from there on are
pub drop_symbol : (F : Meaning) (r : List ℕ) (c : ℕ) → c < length r → Symbols F (drop c r) → get_or r c 0 < F.q
drop_symbol F r c h s = (subst (Symbols F) (drop_more r c 0 h) s).0

module _ {F : Meaning} (laws : IsField F) where
  pub dot_symbol : (a xs : List ℕ) → Symbols F a → Symbols F xs → dot (numbers F) a xs < F.q
  dot_symbol [] xs sa sx = zero_small laws
  dot_symbol (a ∷ vs) [] sa sx = zero_small laws
  dot_symbol (a ∷ vs) (x ∷ xs) (ha, sa) (hx, sx) = laws.sum_closed _ _ (laws.product_closed a x ha hx) (dot_symbol vs xs sa sx)

  -- the products are added from the first on
  pub dot_folded : (a xs : List ℕ) (v : ℕ) → v < F.q → Symbols F a → Symbols F xs → fold (λ s p. sum_or_0 F s (product_or_0 F p.0 p.1)) v (zip a xs) ≡ F.sum v (dot (numbers F) a xs)
  dot_folded [] xs v hv sa sx = sym (laws.sum_zero v hv)
  dot_folded (a ∷ vs) [] v hv sa sx = sym (laws.sum_zero v hv)
  dot_folded (a ∷ vs) (x ∷ xs) v hv (ha, sa) (hx, sx) =
      let small = laws.product_closed a x ha hx in
      let next : sum_or_0 F v (product_or_0 F a x) ≡ F.sum v (F.product a x) = ap (sum_or_0 F v) (product_or_0_is F a x ha hx) ∙ sum_or_0_is F v _ hv small in
      ap (λ n. fold (λ s p. sum_or_0 F s (product_or_0 F p.0 p.1)) n (zip vs xs)) next
      ∙ dot_folded vs xs _ (laws.sum_closed v _ hv small) sa sx
      ∙ laws.sum_assoc v _ _ hv small (dot_symbol vs xs sa sx)

  pub dot_is : (a xs : List ℕ) → Symbols F a → Symbols F xs → fold (λ s p. sum_or_0 F s (product_or_0 F p.0 p.1)) 0 (zip a xs) ≡ dot (numbers F) a xs
  dot_is a xs sa sx = dot_folded a xs 0 (zero_small laws) sa sx ∙ zero_sum laws _ (dot_symbol a xs sa sx)

  -- the factor of the pivot row
  pub factor_is : (e i p m f : ℕ) → e < F.q → i ≡ inverse_of F p → m ≡ product_or_0 F e i → f ≡ opposite_or_0 F m → (f ≡ opposite_of F (F.product e (inverse_of F p))) × (f < F.q)
  factor_is e i p m f he ei em ef =
      let small_i : i < F.q = subst (λ n. n < F.q) (sym ei) (inverse_below F laws p) in
      let is : m ≡ F.product e i = em ∙ product_or_0_is F e i he small_i in
      let small : m < F.q = subst (λ n. n < F.q) (sym is) (laws.product_closed e i he small_i) in
      let f_is : f ≡ opposite_of F m = ef ∙ opposite_or_0_is F m small in
      (f_is ∙ ap (opposite_of F) (is ∙ ap (F.product e) ei), subst (λ n. n < F.q) (sym f_is) (opposite_small laws m small))

  pub cleared_row : (pivot row out : List ℕ) (c f : ℕ) → f ≡ opposite_of F (F.product (get_or row c 0) (inverse_of F (get_or pivot c 0))) → length row ≡ length pivot → c ≤ length row → out ≡ plus_scaled F f (take (length row - c) (drop c row)) (take (length pivot - c) (drop c pivot)) → drop c (put_mid c (length row - c) row out) ≡ cleared (numbers F) (drop c pivot) (drop c row)
  cleared_row pivot row out c f is long within e =
      let lp = length-drop c pivot in
      let lr = length-drop c row in
      let ls = length_scaled F f (drop c pivot) in
      drop_part c (length row - c) row out within (omega arith)
      ∙ e
      ∙ ap₂ (plus_scaled F f) (take_rest row c) (take_rest pivot c)
      ∙ added_is F (drop c row) (scaled F f (drop c pivot)) (omega arith)
      ∙ ap (plus (numbers F) (drop c row)) (scaled_is F f (drop c pivot))
      ∙ ap (λ z. plus (numbers F) (drop c row) (times (numbers F) z (drop c pivot))) (is ∙ sym (ap₂ (λ r p. opposite_of F (F.product r (inverse_of F p))) (lead_drop (numbers F) row c) (lead_drop (numbers F) pivot c)))

  -- a row whose entry is 0 already is its own clearing
  plus_nothing : (r p : List ℕ) → length r ≡ length p → Symbols F r → Symbols F p → plus (numbers F) r (times (numbers F) 0 p) ≡ r
  plus_nothing [] [] e sr sp = refl
  plus_nothing [] (y ∷ p) e sr sp = absurd (omega arith)
  plus_nothing (x ∷ r) [] e sr sp = absurd (omega arith)
  plus_nothing (x ∷ r) (y ∷ p) e (hx, sr) (hy, sp) =
      ap₂ ◌∷◌ (ap (F.sum x) (zero_product laws y hy) ∙ laws.sum_zero x hx) (plus_nothing r p (omega arith) sr sp)

  pub cleared_already : (pivot row : List ℕ) (c : ℕ) → length row ≡ length pivot → Symbols F (drop c pivot) → Symbols F (drop c row) → get_or row c 0 ≡ 0 → drop c row ≡ cleared (numbers F) (drop c pivot) (drop c row)
  cleared_already pivot row c long sp sr e =
      let z = zero_small laws in
      let lead_zero : lead (numbers F) (drop c row) ≡ 0 = lead_drop (numbers F) row c ∙ e in
      let inverse = inverse_of F (lead (numbers F) (drop c pivot)) in
      let factor : opposite_of F (F.product (lead (numbers F) (drop c row)) inverse) ≡ 0
      = ap (λ x. opposite_of F (F.product x inverse)) lead_zero ∙ ap (opposite_of F) (zero_product laws inverse (inverse_below F laws _)) ∙ sym (opposite_is laws 0 0 z z (laws.sum_zero 0 z)) in
      let same : length (drop c row) ≡ length (drop c pivot) = length-drop c row ∙ ap (λ n. n - c) long ∙ sym (length-drop c pivot) in
      sym (ap (λ x. plus (numbers F) (drop c row) (times (numbers F) x (drop c pivot))) factor ∙ plus_nothing (drop c row) (drop c pivot) same sr sp)

  -- the unknown of the pivot row
  pub unknown_is : (inverse b d n s r : ℕ) → inverse < F.q → b < F.q → d < F.q → n ≡ opposite_or_0 F d → s ≡ sum_or_0 F b n → r ≡ product_or_0 F inverse s → r ≡ F.product inverse (F.sum b (opposite_of F d))
  unknown_is inverse b d n s r hi hb hd en es er =
      let n_is : n ≡ opposite_of F d = en ∙ opposite_or_0_is F d hd in
      let small_n : n < F.q = subst (λ x. x < F.q) (sym n_is) (opposite_small laws d hd) in
      let s_is : s ≡ F.sum b n = es ∙ sum_or_0_is F b n hb small_n in
      let small_s : s < F.q = subst (λ x. x < F.q) (sym s_is) (laws.sum_closed b n hb small_n) in
      er ∙ product_or_0_is F inverse s hi small_s ∙ ap (F.product inverse) (s_is ∙ ap (F.sum b) n_is)
