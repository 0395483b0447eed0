-- What follows from the laws of a field alone, and the set of identities that brings sums of products into one form. Assumes nothing.
use Rattle.std.proofs.Common.{◌≡◌, ◌≢◌, ◌⊎◌, sym, ap, ◌∙◌, inl, inr}
use mathlib.Core.HLevel.{hedberg}
use Rattle.algebra.specs.FieldOn.{FieldOn}

module _ {K : Type 0} (F : FieldOn K) where
  infixl 65 ◌⊕◌
  infixl 70 ◌⊙◌
  open F.ops use {zero as 𝟘, one as 𝟙, add as ◌⊕◌, mul as ◌⊙◌, neg as ⊖, inv}

  pub ⊕_comm : (a b : K) → a ⊕ b ≡ b ⊕ a
  ⊕_comm = F.sum_comm

  pub ⊕_assoc : (a b c : K) → a ⊕ b ⊕ c ≡ a ⊕ (b ⊕ c)
  ⊕_assoc = F.sum_assoc

  pub ⊕_left : (a b c : K) → a ⊕ (b ⊕ c) ≡ b ⊕ (a ⊕ c)
  ⊕_left a b c = sym (⊕_assoc a b c) ∙ ap (λ z. z ⊕ c) (⊕_comm a b) ∙ ⊕_assoc b a c

  pub ⊕-zero : (a : K) → a ⊕ 𝟘 ≡ a
  ⊕-zero = F.sum_zero

  pub zero-⊕ : (a : K) → 𝟘 ⊕ a ≡ a
  zero-⊕ a = ⊕_comm 𝟘 a ∙ ⊕-zero a

  pub ⊕-neg : (a : K) → a ⊕ ⊖ a ≡ 𝟘
  ⊕-neg = F.sum_neg

  pub ⊕-neg_left : (a b : K) → a ⊕ (⊖ a ⊕ b) ≡ b
  ⊕-neg_left a b = sym (⊕_assoc a (⊖ a) b) ∙ ap (λ z. z ⊕ b) (⊕-neg a) ∙ zero-⊕ b

  pub ⊕-neg_left2 : (a b c : K) → a ⊕ (b ⊕ (⊖ a ⊕ c)) ≡ b ⊕ c
  ⊕-neg_left2 a b c = ⊕_left a b (⊖ a ⊕ c) ∙ ap (λ z. b ⊕ z) (⊕-neg_left a c)

  pub ⊕-neg_right2 : (a b : K) → a ⊕ (b ⊕ ⊖ a) ≡ b
  ⊕-neg_right2 a b = ⊕_left a b (⊖ a) ∙ ap (λ z. b ⊕ z) (⊕-neg a) ∙ ⊕-zero b

  pub ⊕-neg_left3 : (a b c d : K) → a ⊕ (b ⊕ (c ⊕ (⊖ a ⊕ d))) ≡ b ⊕ (c ⊕ d)
  ⊕-neg_left3 a b c d = ⊕_left a b _ ∙ ap (λ z. b ⊕ z) (⊕-neg_left2 a c d)

  pub ⊕-neg_right3 : (a b c : K) → a ⊕ (b ⊕ (c ⊕ ⊖ a)) ≡ b ⊕ c
  ⊕-neg_right3 a b c = ⊕_left a b _ ∙ ap (λ z. b ⊕ z) (⊕-neg_right2 a c)

  pub neg-⊕_left : (a b : K) → ⊖ a ⊕ (a ⊕ b) ≡ b
  neg-⊕_left a b = ⊕_left (⊖ a) a b ∙ ⊕-neg_left a b

  pub neg-⊕ : (a : K) → ⊖ a ⊕ a ≡ 𝟘
  neg-⊕ a = ⊕_comm (⊖ a) a ∙ ⊕-neg a

  pub neg-⊕_left2 : (a b c : K) → ⊖ a ⊕ (b ⊕ (a ⊕ c)) ≡ b ⊕ c
  neg-⊕_left2 a b c = ⊕_left (⊖ a) b (a ⊕ c) ∙ ap (λ z. b ⊕ z) (neg-⊕_left a c)

  pub neg-⊕_right2 : (a b : K) → ⊖ a ⊕ (b ⊕ a) ≡ b
  neg-⊕_right2 a b = ⊕_left (⊖ a) b a ∙ ap (λ z. b ⊕ z) (neg-⊕ a) ∙ ⊕-zero b

  pub neg-⊕_left3 : (a b c d : K) → ⊖ a ⊕ (b ⊕ (c ⊕ (a ⊕ d))) ≡ b ⊕ (c ⊕ d)
  neg-⊕_left3 a b c d = ⊕_left (⊖ a) b _ ∙ ap (λ z. b ⊕ z) (neg-⊕_left2 a c d)

  pub neg-⊕_right3 : (a b c : K) → ⊖ a ⊕ (b ⊕ (c ⊕ a)) ≡ b ⊕ c
  neg-⊕_right3 a b c = ⊕_left (⊖ a) b _ ∙ ap (λ z. b ⊕ z) (neg-⊕_right2 a c)

  -- what is added on the left can be taken off
  pub ⊕_cancel : {a b c : K} → a ⊕ b ≡ a ⊕ c → b ≡ c
  ⊕_cancel {a} {b} {c} e = sym (neg-⊕_left a b) ∙ ap (λ z. ⊖ a ⊕ z) e ∙ neg-⊕_left a c

  -- the opposite is the only one
  pub neg_only : {a b : K} → a ⊕ b ≡ 𝟘 → b ≡ ⊖ a
  neg_only {a} {b} e = ⊕_cancel (e ∙ sym (⊕-neg a))

  pub neg_neg : (a : K) → ⊖ (⊖ a) ≡ a
  neg_neg a = sym (neg_only (neg-⊕ a))

  pub neg_zero : ⊖ 𝟘 ≡ 𝟘
  neg_zero = sym (neg_only (⊕-zero 𝟘))

  pub neg_sum : (a b : K) → ⊖ (a ⊕ b) ≡ ⊖ a ⊕ ⊖ b
  neg_sum a b = sym (neg_only (⊕_assoc a b _ ∙ ap (λ z. a ⊕ z) (⊕_left b (⊖ a) (⊖ b) ∙ ap (λ z. ⊖ a ⊕ z) (⊕-neg b) ∙ ⊕-zero (⊖ a)) ∙ ⊕-neg a))

  pub ⊙_comm : (a b : K) → a ⊙ b ≡ b ⊙ a
  ⊙_comm = F.product_comm

  pub ⊙_assoc : (a b c : K) → a ⊙ b ⊙ c ≡ a ⊙ (b ⊙ c)
  ⊙_assoc = F.product_assoc

  pub ⊙_left : (a b c : K) → a ⊙ (b ⊙ c) ≡ b ⊙ (a ⊙ c)
  ⊙_left a b c = sym (⊙_assoc a b c) ∙ ap (λ z. z ⊙ c) (⊙_comm a b) ∙ ⊙_assoc b a c

  pub ⊙-one : (a : K) → a ⊙ 𝟙 ≡ a
  ⊙-one = F.product_one

  pub one-⊙ : (a : K) → 𝟙 ⊙ a ≡ a
  one-⊙ a = ⊙_comm 𝟙 a ∙ ⊙-one a

  pub ⊙-⊕ : (a b c : K) → a ⊙ (b ⊕ c) ≡ a ⊙ b ⊕ a ⊙ c
  ⊙-⊕ = F.distributive

  pub ⊕-⊙ : (a b c : K) → (a ⊕ b) ⊙ c ≡ a ⊙ c ⊕ b ⊙ c
  ⊕-⊙ a b c = ⊙_comm (a ⊕ b) c ∙ ⊙-⊕ c a b ∙ ap (λ z. z ⊕ c ⊙ b) (⊙_comm c a) ∙ ap (λ z. a ⊙ c ⊕ z) (⊙_comm c b)

  pub ⊙-zero : (a : K) → a ⊙ 𝟘 ≡ 𝟘
  ⊙-zero a = ⊕_cancel (sym (⊙-⊕ a 𝟘 𝟘) ∙ ap (λ z. a ⊙ z) (⊕-zero 𝟘) ∙ sym (⊕-zero (a ⊙ 𝟘)))

  pub zero-⊙ : (a : K) → 𝟘 ⊙ a ≡ 𝟘
  zero-⊙ a = ⊙_comm 𝟘 a ∙ ⊙-zero a

  pub ⊙-neg : (a b : K) → a ⊙ ⊖ b ≡ ⊖ (a ⊙ b)
  ⊙-neg a b = neg_only (sym (⊙-⊕ a b (⊖ b)) ∙ ap (λ z. a ⊙ z) (⊕-neg b) ∙ ⊙-zero a)

  pub neg-⊙ : (a b : K) → ⊖ a ⊙ b ≡ ⊖ (a ⊙ b)
  neg-⊙ a b = ⊙_comm (⊖ a) b ∙ ⊙-neg b a ∙ ap ⊖ (⊙_comm b a)

pub ruleset ring = (⊕_assoc, ⊕_comm, ⊕_left, ⊕-zero, zero-⊕, ⊙_assoc, ⊙_comm, ⊙_left, ⊙-one, one-⊙, ⊙-zero, zero-⊙, ⊙-⊕, ⊕-⊙, ⊙-neg, neg-⊙, neg_sum, neg_neg, neg_zero, ⊕-neg, ⊕-neg_left, ⊕-neg_left2, ⊕-neg_right2, ⊕-neg_left3, ⊕-neg_right3, neg-⊕, neg-⊕_left, neg-⊕_left2, neg-⊕_right2, neg-⊕_left3, neg-⊕_right3)

module _ {K : Type 0} (F : FieldOn K) where
  infixl 65 ◌⊕◌
  infixl 70 ◌⊙◌
  open F.ops use {zero as 𝟘, one as 𝟙, add as ◌⊕◌, mul as ◌⊙◌, neg as ⊖, inv}

  pub set : IsSet K
  set = hedberg F.same?

  -- a difference is 0 exactly for equal elements
  pub equal_from_difference : {a b : K} → a ⊕ ⊖ b ≡ 𝟘 → a ≡ b
  equal_from_difference {a} {b} e = (simp ring) ∙ ap (λ z. z ⊕ b) e ∙ (simp ring)

  pub difference_zero : {a b : K} → a ≡ b → a ⊕ ⊖ b ≡ 𝟘
  difference_zero {a} {b} e = ap (λ z. z ⊕ ⊖ b) e ∙ ⊕-neg F b

  pub inv-⊙ : (a : K) → a ≢ 𝟘 → inv a ⊙ a ≡ 𝟙
  inv-⊙ a n = ⊙_comm F (inv a) a ∙ F.product_inv a n

  -- a times its inverse drops out of a product
  pub ⊙-inv_left : (a b : K) → a ≢ 𝟘 → a ⊙ (inv a ⊙ b) ≡ b
  ⊙-inv_left a b n = sym (⊙_assoc F a (inv a) b) ∙ ap (λ z. z ⊙ b) (F.product_inv a n) ∙ one-⊙ F b

  pub inv-⊙_left : (a b : K) → a ≢ 𝟘 → inv a ⊙ (a ⊙ b) ≡ b
  inv-⊙_left a b n = ⊙_left F (inv a) a b ∙ ⊙-inv_left a b n

  pub ⊙_cancel : {a b c : K} → a ≢ 𝟘 → a ⊙ b ≡ a ⊙ c → b ≡ c
  ⊙_cancel {a} {b} {c} n e = sym (inv-⊙_left a b n) ∙ ap (λ z. inv a ⊙ z) e ∙ inv-⊙_left a c n

  -- no zero divisors
  pub product_zero : {a b : K} → a ≢ 𝟘 → a ⊙ b ≡ 𝟘 → b ≡ 𝟘
  product_zero {a} n e = ⊙_cancel n (e ∙ sym (⊙-zero F a))

  pub zero_factor : {a b : K} → a ⊙ b ≡ 𝟘 → (a ≡ 𝟘) ⊎ (b ≡ 𝟘)
  zero_factor {a} {b} e = go (F.same? a 𝟘)
    where
      go : Dec (a ≡ 𝟘) → (a ≡ 𝟘) ⊎ (b ≡ 𝟘)
      go (yes z) = inl z
      go (no n) = inr (product_zero n e)

  pub product_not_zero : {a b : K} → a ≢ 𝟘 → b ≢ 𝟘 → a ⊙ b ≢ 𝟘
  product_not_zero n m e = m (product_zero n e)

  pub inv_not_zero : {a : K} → a ≢ 𝟘 → inv a ≢ 𝟘
  inv_not_zero {a} n e = F.one_not_zero (sym (F.product_inv a n) ∙ ap (λ z. a ⊙ z) e ∙ ⊙-zero F a)

  pub neg_not_zero : {a : K} → a ≢ 𝟘 → ⊖ a ≢ 𝟘
  neg_not_zero {a} n e = n (sym (neg_neg F a) ∙ ap ⊖ e ∙ neg_zero F)

  -- the inverse is the only one
  pub inv_only : {a b : K} → a ⊙ b ≡ 𝟙 → b ≡ inv a
  inv_only {a} {b} e = ⊙_cancel n (e ∙ sym (F.product_inv a n))
    where
      n : a ≢ 𝟘
      n z = F.one_not_zero (sym e ∙ ap (λ y. y ⊙ b) z ∙ zero-⊙ F b)

  -- a linear equation has one solution
  pub solved : {a b x : K} → a ≢ 𝟘 → a ⊙ x ≡ b → x ≡ inv a ⊙ b
  solved {a} {b} {x} n e = sym (inv-⊙_left a x n) ∙ ap (λ z. inv a ⊙ z) e
