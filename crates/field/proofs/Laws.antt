-- What follows of symbols from the laws of a field. Assumes nothing.
use Rattle.std.proofs.Common.{◌≡◌, ℕ, ◌<◌, sym, ap, ◌∙◌, ap₂}
use Rattle.field.specs.Meaning.{Meaning, IsField, opposite_of}
use Rattle.field.proofs.Unique.{zero_small, one_small, opposite_exact, opposite_is}

module _ {F : Meaning} (lawful : IsField F) where
  pub zero_sum : (a : ℕ) → a < F.q → F.sum 0 a ≡ a
  zero_sum a h = lawful.sum_comm 0 a (zero_small lawful) h ∙ lawful.sum_zero a h

  pub opposite_small : (a : ℕ) → a < F.q → opposite_of F a < F.q
  opposite_small a h = (opposite_exact lawful a h).symbol

  pub sum_opposite : (a : ℕ) → a < F.q → F.sum a (opposite_of F a) ≡ 0
  sum_opposite a h = (opposite_exact lawful a h).holds

  pub opposite_sum : (a : ℕ) → a < F.q → F.sum (opposite_of F a) a ≡ 0
  opposite_sum a h = lawful.sum_comm _ a (opposite_small a h) h ∙ sum_opposite a h

  pub cancel : (a b c : ℕ) → a < F.q → b < F.q → c < F.q → F.sum a b ≡ F.sum a c → b ≡ c
  cancel a b c ha hb hc e =
      let back : (x : ℕ) → x < F.q → F.sum (opposite_of F a) (F.sum a x) ≡ x = λ x hx. sym (lawful.sum_assoc (opposite_of F a) a x (opposite_small a ha) ha hx) ∙ ap (λ y. F.sum y x) (opposite_sum a ha) ∙ zero_sum x hx in
      sym (back b hb) ∙ ap (F.sum (opposite_of F a)) e ∙ back c hc

  pub product_zero : (a : ℕ) → a < F.q → F.product a 0 ≡ 0
  product_zero a h =
      let z = zero_small lawful in
      let p = lawful.product_closed a 0 h z in
      cancel (F.product a 0) (F.product a 0) 0 p p z
      (sym (lawful.distributive a 0 0 h z z) ∙ ap (F.product a) (lawful.sum_zero 0 z) ∙ sym (lawful.sum_zero _ p))

  pub zero_product : (a : ℕ) → a < F.q → F.product 0 a ≡ 0
  zero_product a h = lawful.product_comm 0 a (zero_small lawful) h ∙ product_zero a h

  pub one_product : (a : ℕ) → a < F.q → F.product 1 a ≡ a
  one_product a h = lawful.product_comm 1 a (one_small lawful) h ∙ lawful.product_one a h

  -- (a + b) + (c + d) = (a + c) + (b + d)
  pub exchange : (a b c d : ℕ) → a < F.q → b < F.q → c < F.q → d < F.q → F.sum (F.sum a b) (F.sum c d) ≡ F.sum (F.sum a c) (F.sum b d)
  exchange a b c d ha hb hc hd =
      lawful.sum_assoc a b _ ha hb (lawful.sum_closed c d hc hd)
      ∙ ap (F.sum a) (sym (lawful.sum_assoc b c d hb hc hd) ∙ ap (λ x. F.sum x d) (lawful.sum_comm b c hb hc) ∙ lawful.sum_assoc c b d hc hb hd)
      ∙ sym (lawful.sum_assoc a c _ ha hc (lawful.sum_closed b d hb hd))

  -- the opposite of a sum and of a multiple
  pub opposite_of_sum : (a b : ℕ) → a < F.q → b < F.q → opposite_of F (F.sum a b) ≡ F.sum (opposite_of F a) (opposite_of F b)
  opposite_of_sum a b ha hb =
      let oa = opposite_small a ha in
      let ob = opposite_small b hb in
      sym (opposite_is lawful _ _ (lawful.sum_closed a b ha hb) (lawful.sum_closed _ _ oa ob)
      (exchange a b _ _ ha hb oa ob ∙ ap₂ F.sum (sum_opposite a ha) (sum_opposite b hb) ∙ lawful.sum_zero 0 (zero_small lawful)))

  pub opposite_of_multiple : (a b : ℕ) → a < F.q → b < F.q → opposite_of F (F.product a b) ≡ F.product a (opposite_of F b)
  opposite_of_multiple a b ha hb =
      let ob = opposite_small b hb in
      sym (opposite_is lawful _ _ (lawful.product_closed a b ha hb) (lawful.product_closed a _ ha ob)
      (sym (lawful.distributive a b _ ha hb ob) ∙ ap (F.product a) (sum_opposite b hb) ∙ product_zero a ha))
