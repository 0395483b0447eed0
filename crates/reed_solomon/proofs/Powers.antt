-- The powers of a point, as the rows of the systems have them. Assumes nothing.
use Rattle.std.proofs.Common.{◌≡◌, ℕ, zero, suc, ◌+◌, ◌-◌, ◌<◌, ◌≤◌, min, List, [], ◌∷◌, ◌++◌, length, take, drop, set, sym, refl, ap, ◌∙◌, subst, ap₂, arith}
use borrow.Rule.Slice.PartMut.{put_mid}
use Rattle.std.proofs.lemmas.List.{length-drop, length-append, take_more_set, take_all, append-nil, append_assoc, take_at, drop_at, set-append_right, length-take}
use Rattle.std.proofs.ByRecursion.{All-append}
use Rattle.field.specs.Meaning.{Meaning, IsField, opposite_of}
use Rattle.field.specs.Words.{product_or_0, opposite_or_0}
use Rattle.field.proofs.Accepted.{product_or_0_is, opposite_or_0_is}
use Rattle.field.proofs.Laws.{opposite_small, opposite_of_multiple}
use Rattle.field.proofs.Unique.{one_small}
use Rattle.algebra.specs.Correction.{power, powers_from, powers, locator_row, message_row}
use Rattle.algebra.specs.FieldOn.{Ops}
use Rattle.algebra.specs.Symbols.{numbers, Symbols}
use Rattle.algebra.specs.Vectors.{times, opposite}

module _ {F : Meaning} (laws : IsField F) where
  abbrev N : Ops ℕ
  N = numbers F

  pub power_symbol : (x n : ℕ) → x < F.q → power N x n < F.q
  power_symbol x zero h = one_small laws
  power_symbol x (suc n) h = laws.product_closed x (power N x n) h (power_symbol x n h)

  -- the loop's invariant: what is written and what is still to come; the last power
  pub record Written (out : List ℕ) (total a x i p : ℕ) : Type 0 where
    pub listed : take i out ++ powers_from N p x (total - i) ≡ powers_from N a x total
    pub next : F.product p (power N x (total - i)) ≡ F.product a (power N x total)
    pub symbol : p < F.q

  pub written_more : (out : List ℕ) (total a x i p r : ℕ) → i < length out → length out ≡ total → x < F.q → r ≡ product_or_0 F p x → Written out total a x i p → Written (set out i p) total a x (i + 1) r
  written_more out total a x i p r h long hx e w =
      let left : total - i ≡ suc (total - (i + 1)) = omega arith in
      let is : r ≡ F.product p x = e ∙ product_or_0_is F p x w.symbol hx in
      record {
        listed = ap₂ (λ t (y : ℕ). t ++ powers_from N y x (total - (i + 1))) (take_more_set out i p h) is
            ∙ append_assoc (take i out) (p ∷ []) (powers_from N (F.product p x) x (total - (i + 1)))
            ∙ ap (λ k. take i out ++ powers_from N p x k) (sym left) ∙ w.listed;
        next = ap (λ y. F.product y (power N x (total - (i + 1)))) is ∙ laws.product_assoc p x _ w.symbol hx (power_symbol x _ hx) ∙ ap (λ k. F.product p (power N x k)) (sym left) ∙ w.next;
        symbol = subst (λ y. y < F.q) (sym is) (laws.product_closed p x w.symbol hx);
      }

  pub written_all : (out : List ℕ) (total a x i p : ℕ) → total ≤ i → length out ≡ total → Written out total a x i p → (out ≡ powers_from N a x total) × (p ≡ F.product a (power N x total))
  written_all out total a x i p past long w =
      let none : total - i ≡ 0 = omega arith in (
        sym (append-nil out) ∙ ap₂ (λ t k. t ++ powers_from N p x k) (sym (take_all i out (omega arith))) (sym none) ∙ w.listed,
        sym (laws.product_one p w.symbol) ∙ ap (λ k. F.product p (power N x k)) (sym none) ∙ w.next,
      )

  pub length_powers : (a x n : ℕ) → length (powers_from N a x n) ≡ n
  length_powers a x zero = refl
  length_powers a x (suc n) = ap suc (length_powers (F.product a x) x n)

  -- multiples and opposites of powers are powers with another start
  times_powers : (a p x n : ℕ) → a < F.q → p < F.q → x < F.q → times N a (powers_from N p x n) ≡ powers_from N (F.product a p) x n
  times_powers a p x zero ha hp hx = refl
  times_powers a p x (suc n) ha hp hx =
      ap (λ zs. F.product a p ∷ zs) (times_powers a (F.product p x) x n ha (laws.product_closed p x hp hx) hx ∙ ap (λ z. powers_from N z x n) (sym (laws.product_assoc a p x ha hp hx)))

  pub multiples : (a x n : ℕ) → a < F.q → x < F.q → times N a (powers N x n) ≡ powers_from N a x n
  multiples a x n ha hx = times_powers a 1 x n ha (one_small laws) hx ∙ ap (λ z. powers_from N z x n) (laws.product_one a ha)

  pub opposites : (p x n : ℕ) → p < F.q → x < F.q → opposite N (powers_from N p x n) ≡ powers_from N (opposite_of F p) x n
  opposites p x zero hp hx = refl
  opposites p x (suc n) hp hx =
      ap (λ zs. opposite_of F p ∷ zs)
      (opposites (F.product p x) x n (laws.product_closed p x hp hx) hx
      ∙ ap (λ z. powers_from N z x n) (ap (opposite_of F) (laws.product_comm p x hp hx) ∙ opposite_of_multiple laws x p hx hp ∙ laws.product_comm x (opposite_of F p) hx (opposite_small laws p hp)))

  pub powers_symbols : (a x n : ℕ) → a < F.q → x < F.q → Symbols F (powers_from N a x n)
  powers_symbols a x zero ha hx = tt
  powers_symbols a x (suc n) ha hx = (ha, powers_symbols (F.product a x) x n (laws.product_closed a x ha hx) hx)

  pub locator_row_symbols : (t n x y : ℕ) → x < F.q → y < F.q → Symbols F (locator_row N t n x y)
  locator_row_symbols t n x y hx hy =
      All-append (λ z. z < F.q) (times N y (powers N x t) ++ opposite N (powers N x n)) _
      (All-append (λ z. z < F.q) (times N y (powers N x t)) (opposite N (powers N x n))
      (subst (Symbols F) (sym (multiples y x t hy hx)) (powers_symbols y x t hy hx))
      (subst (Symbols F) (sym (opposites 1 x n (one_small laws) hx)) (powers_symbols (opposite_of F 1) x n (opposite_small laws 1 (one_small laws)) hx)))
      (opposite_small laws _ (laws.product_closed y _ hy (power_symbol x t hx)), tt)

  pub message_row_symbols : (k e x y : ℕ) → e < F.q → x < F.q → y < F.q → Symbols F (message_row N k e x y)
  message_row_symbols k e x y he hx hy =
      All-append (λ z. z < F.q) (times N e (powers N x k)) _ (subst (Symbols F) (sym (multiples e x k he hx)) (powers_symbols e x k he hx)) (laws.product_closed e y he hy, tt)

-- a row written in three parts, and in two
only : (z : List ℕ) (v : ℕ) → length z ≡ 1 → set z 0 v ≡ v ∷ []
only [] v h = absurd (omega arith)
only (x ∷ []) v h = refl
only (x ∷ (y ∷ z)) v h = absurd (omega arith)

three_parts : (row a b : List ℕ) (t n v : ℕ) → length row ≡ t + n + 1 → length a ≡ t → length b ≡ n → set (put_mid t n (a ++ drop t row) b) (t + n) v ≡ (a ++ b) ++ (v ∷ [])
three_parts row a b t n v long la lb =
    let lab = length-append a b in
    let e = drop_at a (drop t row) t la in
    let post = drop n (drop t row) in
    ap₂ (λ (p : List ℕ) (q : List ℕ). set (p ++ (b ++ q)) (t + n) v) (take_at a (drop t row) t la) (ap (drop n) e)
    ∙ ap (λ z. set z (t + n) v) (sym (append_assoc a b post))
    ∙ set-append_right (a ++ b) post (t + n) (t + n) v (omega arith) (omega arith)
    ∙ ap (λ z. (a ++ b) ++ z) (ap (λ k. set post k v) (omega arith) ∙ only post v (length-drop n (drop t row) ∙ ap (λ k. k - n) (length-drop t row) ∙ omega arith))

two_parts : (row a : List ℕ) (k v : ℕ) → length row ≡ k + 1 → length a ≡ k → set (a ++ drop k row) k v ≡ a ++ (v ∷ [])
two_parts row a k v long la =
    set-append_right a (drop k row) k k v la (omega arith)
    ∙ ap (λ z. a ++ z) (ap (λ j. set (drop k row) j v) (omega arith) ∙ only (drop k row) v (length-drop k row ∙ omega arith))

pub middle_long : (row a : List ℕ) (t n : ℕ) → length row ≡ t + n + 1 → length a ≡ t → length (take (t + n - t) (drop t (a ++ drop t row))) ≡ n
middle_long row a t n long la =
    let e = drop_at a (drop t row) t la in
    let l = length-drop t row in
    length-take (t + n - t) (drop t (a ++ drop t row)) ∙ ap (λ z. min (t + n - t) (length z)) e ∙ omega arith

module _ {F : Meaning} (laws : IsField F) where
  pub locator_row_is : (row a b : List ℕ) (t n x y la lb m top v : ℕ) → x < F.q → y < F.q → length row ≡ t + n + 1 → la ≡ t → lb ≡ n → a ≡ powers_from (numbers F) y x la → top ≡ F.product y (power (numbers F) x la) → m ≡ opposite_or_0 F 1 → b ≡ powers_from (numbers F) m x lb → v ≡ opposite_or_0 F top → set (put_mid t (t + n - t) (a ++ drop t row) b) (t + n) v ≡ locator_row (numbers F) t n x y
  locator_row_is row a b t n x y la lb m top v hx hy long ela elb ea etop em eb ev =
      let len_a : length a ≡ t = ap length ea ∙ length_powers laws y x la ∙ ela in
      let len_b : length b ≡ n = ap length eb ∙ length_powers laws m x lb ∙ elb in
      let same : t + n - t ≡ n = omega arith in
      let top_is : top ≡ F.product y (power (numbers F) x t) = etop ∙ ap (λ k. F.product y (power (numbers F) x k)) ela in
      let small : top < F.q = subst (λ z. z < F.q) (sym top_is) (laws.product_closed y _ hy (power_symbol laws x t hx)) in
      let m_is : m ≡ opposite_of F 1 = em ∙ opposite_or_0_is F 1 (one_small laws) in
      ap (λ k. set (put_mid t k (a ++ drop t row) b) (t + n) v) same
      ∙ three_parts row a b t n v long len_a len_b
      ∙ ap₂ (λ (p : List ℕ) (q : List ℕ). (p ++ q) ++ (v ∷ [])) (ea ∙ ap (powers_from (numbers F) y x) ela ∙ sym (multiples laws y x t hy hx)) (eb ∙ ap₂ (λ z k. powers_from (numbers F) z x k) m_is elb ∙ sym (opposites laws 1 x n (one_small laws) hx))
      ∙ ap (λ z. (times (numbers F) y (powers (numbers F) x t) ++ opposite (numbers F) (powers (numbers F) x n)) ++ (z ∷ [])) (ev ∙ opposite_or_0_is F top small ∙ ap (opposite_of F) top_is)

  pub message_row_is : (row a : List ℕ) (k e x y la v : ℕ) → e < F.q → x < F.q → y < F.q → length row ≡ k + 1 → la ≡ k → a ≡ powers_from (numbers F) e x la → v ≡ product_or_0 F e y → set (a ++ drop k row) k v ≡ message_row (numbers F) k e x y
  message_row_is row a k e x y la v he hx hy long ela ea ev =
      two_parts row a k v long (ap length ea ∙ length_powers laws e x la ∙ ela)
      ∙ ap₂ (λ (p : List ℕ) (z : ℕ). p ++ (z ∷ [])) (ea ∙ ap (powers_from (numbers F) e x) ela ∙ sym (multiples laws e x k he hx)) (ev ∙ product_or_0_is F e y he hy)
