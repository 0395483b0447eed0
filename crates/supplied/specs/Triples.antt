-- A chain of one level over GF(4): x becomes x times 1 2 3. Assumes nothing.
use Rattle.std.specs.Prelude.{ℕ, List, [], ◌∷◌, None, slice_index}
use Rattle.field.specs.Words.{scaled}
use Rattle.chain.specs.Meaning.{Meaning}
use Rattle.supplied.specs.Quadratic.{four, product}

unfoldable pub word : ℕ → List ℕ
unfolding product
word x = scaled four x (1 ∷ 2 ∷ 3 ∷ [])

abbrev pub triples : Meaning
triples = record {
  flaw = None;
  field = four;
  m = 3;
  s = 1;
  size = λ _. 1;
  distance = λ _. 3;
  encoding = λ _ xs. word (slice_index xs 0);
}
