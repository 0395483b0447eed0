-- The laws of GF(4) and the rule of its table, by computed tests. Assumes nothing.
use Rattle.std.specs.Prelude.{◌≡◌, ℕ, ◌<◌, [], nat_eq, slice_index, slice_index_or}
use Rattle.std.proofs.Common.{eqb→eq}
use Rattle.field.specs.Meaning.{IsField, inverse_of, opposite_of}
use Rattle.field.proofs.Tests.{each_at, each²_at}
use Rattle.field.proofs.Finite.{field_by_tests}
use Rattle.supplied.specs.declared.TheConstants.{PRODUCTS}
use Rattle.supplied.specs.Quadratic.{product, four}

pub is_field : IsField four
unfolding product
is_field =
    field_by_tests (record {
      q_least = tt;
      q_most = tt;
      sum_closed = tt;
      product_closed = tt;
      sum_comm = tt;
      product_comm = tt;
      sum_assoc = tt;
      product_assoc = tt;
      distributive = tt;
      sum_zero = tt;
      product_one = tt;
      has_opposite = tt;
      has_inverse = tt;
    })

pub product_rule : (a b : ℕ) → a < 4 → b < 4 → slice_index (slice_index_or PRODUCTS a []) b ≡ product a b
unfolding product
product_rule a b ha hb = eqb→eq _ _ (each²_at (λ a b. nat_eq (slice_index (slice_index_or PRODUCTS a []) b) (product a b)) 4 tt a b ha hb)

pub inverse_rule : (a : ℕ) → a < 4 → slice_index (slice_index_or PRODUCTS a []) a ≡ inverse_of four a
unfolding product
inverse_rule a h = eqb→eq _ _ (each_at (λ a. nat_eq (slice_index (slice_index_or PRODUCTS a []) a) (inverse_of four a)) 4 tt a h)

pub opposite_rule : (a : ℕ) → a < 4 → a ≡ opposite_of four a
opposite_rule a h = eqb→eq _ _ (each_at (λ a. nat_eq a (opposite_of four a)) 4 tt a h)
