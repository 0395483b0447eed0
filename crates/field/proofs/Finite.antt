-- A meaning that passes a computed test of each law is a field. Assumes nothing.
use Rattle.std.proofs.Common.{Bool, true, false, ◌&&◌, ◌||◌, T, eqb, ltb, leb, eqb→eq, ltb→lt, leb→le}
use Rattle.field.specs.Meaning.{Meaning, IsField, opposite_of, inverse_of}
use Rattle.field.proofs.Tests.{both_left, both_right, each, each², each³, each_at, each²_at, each³_at}

-- the tests, one for each law, over all symbols
pub record Tested (F : Meaning) : Type 0 where
  pub q_least : T (leb 2 F.q)
  pub q_most : T (leb F.q 128)
  pub sum_closed : T (each² F.q (λ a b. ltb (F.sum a b) F.q))
  pub product_closed : T (each² F.q (λ a b. ltb (F.product a b) F.q))
  pub sum_comm : T (each² F.q (λ a b. eqb (F.sum a b) (F.sum b a)))
  pub product_comm : T (each² F.q (λ a b. eqb (F.product a b) (F.product b a)))
  pub sum_assoc : T (each³ F.q (λ a b c. eqb (F.sum (F.sum a b) c) (F.sum a (F.sum b c))))
  pub product_assoc : T (each³ F.q (λ a b c. eqb (F.product (F.product a b) c) (F.product a (F.product b c))))
  pub distributive : T (each³ F.q (λ a b c. eqb (F.product a (F.sum b c)) (F.sum (F.product a b) (F.product a c))))
  pub sum_zero : T (each F.q (λ a. eqb (F.sum a 0) a))
  pub product_one : T (each F.q (λ a. eqb (F.product a 1) a))
  pub has_opposite : T (each F.q (λ a. ltb (opposite_of F a) F.q && eqb (F.sum a (opposite_of F a)) 0))
  pub has_inverse : T (each F.q (λ a. eqb a 0 || (ltb (inverse_of F a) F.q && eqb (F.product a (inverse_of F a)) 1)))

passed_unless : (a b : Bool) → T (a || b) → (T a → ⊥) → T b
passed_unless true b t h = absurd (h tt)
passed_unless false b t h = t

pub field_by_tests : {F : Meaning} → Tested F → IsField F
field_by_tests {F} t =
    record {
      q_least = leb→le 2 F.q t.q_least;
      q_most = leb→le F.q 128 t.q_most;
      sum_closed = λ a b ha hb. ltb→lt _ _ (each²_at (λ a b. ltb (F.sum a b) F.q) F.q t.sum_closed a b ha hb);
      product_closed = λ a b ha hb. ltb→lt _ _ (each²_at (λ a b. ltb (F.product a b) F.q) F.q t.product_closed a b ha hb);
      sum_comm = λ a b ha hb. eqb→eq _ _ (each²_at (λ a b. eqb (F.sum a b) (F.sum b a)) F.q t.sum_comm a b ha hb);
      product_comm = λ a b ha hb. eqb→eq _ _ (each²_at (λ a b. eqb (F.product a b) (F.product b a)) F.q t.product_comm a b ha hb);
      sum_assoc = λ a b c ha hb hc. eqb→eq _ _ (each³_at (λ a b c. eqb (F.sum (F.sum a b) c) (F.sum a (F.sum b c))) F.q t.sum_assoc a b c ha hb hc);
      product_assoc = λ a b c ha hb hc. eqb→eq _ _ (each³_at (λ a b c. eqb (F.product (F.product a b) c) (F.product a (F.product b c))) F.q t.product_assoc a b c ha hb hc);
      distributive = λ a b c ha hb hc. eqb→eq _ _ (each³_at (λ a b c. eqb (F.product a (F.sum b c)) (F.sum (F.product a b) (F.product a c))) F.q t.distributive a b c ha hb hc);
      sum_zero = λ a ha. eqb→eq _ _ (each_at (λ a. eqb (F.sum a 0) a) F.q t.sum_zero a ha);
      product_one = λ a ha. eqb→eq _ _ (each_at (λ a. eqb (F.product a 1) a) F.q t.product_one a ha);
      has_opposite = λ a ha.
          let passed = each_at (λ a. ltb (opposite_of F a) F.q && eqb (F.sum a (opposite_of F a)) 0) F.q t.has_opposite a ha in
          (opposite_of F a, ltb→lt _ _ (both_left _ _ passed), eqb→eq _ _ (both_right _ _ passed));
      has_inverse = λ a ha not0.
          let passed = passed_unless _ _ (each_at (λ a. eqb a 0 || (ltb (inverse_of F a) F.q && eqb (F.product a (inverse_of F a)) 1)) F.q t.has_inverse a ha) (λ z. not0 (eqb→eq a 0 z)) in
          (inverse_of F a, ltb→lt _ _ (both_left _ _ passed), eqb→eq _ _ (both_right _ _ passed));
    }
