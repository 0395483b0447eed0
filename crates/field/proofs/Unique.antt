-- A symbol has exactly one opposite, and every symbol but 0 exactly one inverse. Assumes nothing.
use Rattle.std.proofs.Common.{◌≡◌, ℕ, ◌<◌, T, eqb, sym, ap, ◌∙◌, subst, arith, eqb→eq}
use lib.Dec.{eqb_refl}
use Rattle.field.specs.Meaning.{Meaning, IsField, first, opposite_of, inverse_of, Exactly}
use Rattle.field.proofs.Tests.{first_passes}

-- Of a commutative and associative operation with a neutral element: what is opposite to a is unique.
module _ (q e : ℕ) (op : ℕ → ℕ → ℕ) (comm : (a b : ℕ) → a < q → b < q → op a b ≡ op b a)
    (assoc : (a b c : ℕ) → a < q → b < q → c < q → op (op a b) c ≡ op a (op b c)) (neutral : (a : ℕ) → a < q → op a e ≡ a) (small : e < q) where
  opposites_agree : (a b c : ℕ) → a < q → b < q → c < q → op a b ≡ e → op a c ≡ e → b ≡ c
  opposites_agree a b c ha hb hc eb ec =
      sym (neutral b hb) ∙ ap (op b) (sym ec) ∙ sym (assoc b a c hb ha hc) ∙ ap (λ x. op x c) (comm b a hb ha ∙ eb)
      ∙ comm e c small hc ∙ neutral c hc

  -- where there is an opposite, the first one found is the only one
  pub first_is_only : (a b : ℕ) → a < q → b < q → op a b ≡ e → Exactly q (λ c. op a c ≡ e) (first (λ c. eqb (op a c) e) 0 q)
  first_is_only a b ha hb is =
      let found = first_passes (λ c. eqb (op a c) e) q 0 b (omega arith) (omega arith) (subst (λ x. T (eqb x e)) (sym is) (eqb_refl e)) in
      let within : first (λ c. eqb (op a c) e) 0 q < q = omega (arith, found.1) in
      record {
        symbol = within;
        holds = eqb→eq _ e found.0;
        only = λ c hc ec. opposites_agree a c _ ha hc within ec (eqb→eq _ e found.0);
      }

module _ {F : Meaning} (lawful : IsField F) where
  pub zero_small : 0 < F.q
  zero_small = omega (arith, lawful.q_least)

  pub one_small : 1 < F.q
  one_small = lawful.q_least

  pub opposite_exact : (a : ℕ) → a < F.q → Exactly F.q (λ b. F.sum a b ≡ 0) (opposite_of F a)
  opposite_exact a ha =
      let some = lawful.has_opposite a ha in
      first_is_only F.q 0 F.sum lawful.sum_comm lawful.sum_assoc lawful.sum_zero zero_small a some.0 ha some.1 some.2

  pub inverse_exact : (a : ℕ) → a < F.q → (a ≡ 0 → ⊥) → Exactly F.q (λ b. F.product a b ≡ 1) (inverse_of F a)
  inverse_exact a ha not0 =
      let some = lawful.has_inverse a ha not0 in
      first_is_only F.q 1 F.product lawful.product_comm lawful.product_assoc lawful.product_one one_small a some.0 ha some.1 some.2

  -- so a symbol that fits is the one
  pub opposite_is : (a b : ℕ) → a < F.q → b < F.q → F.sum a b ≡ 0 → b ≡ opposite_of F a
  opposite_is a b ha hb = (opposite_exact a ha).only b hb

  pub inverse_is : (a b : ℕ) → a < F.q → (a ≡ 0 → ⊥) → b < F.q → F.product a b ≡ 1 → b ≡ inverse_of F a
  inverse_is a b ha not0 hb = (inverse_exact a ha not0).only b hb
