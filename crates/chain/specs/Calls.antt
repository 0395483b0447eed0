-- What a call of a chain answers and leaves, as one statement each. Assumes nothing.
use Rattle.std.specs.Prelude.{◌≡◌, ℕ, true, List, length, is_some, Result}
use Rattle.refusal.specs.declared.Refusal.{Refusal}
use Rattle.chain.specs.Answers.{answer, encode_cause, early_cause, correct_cause, strip_cause, encoded, corrected, stripped}
use Rattle.chain.specs.Meaning.{Meaning}

-- out is what the output held before, and kept what it holds after
pub record Encodes (C : Meaning) (i : ℕ) (xs out : List ℕ) (r : Result (Unit {0}) Refusal) (kept : List ℕ) : Type 0 where
  pub result : r ≡ answer (encode_cause C i xs (length out))
  pub after : kept ≡ encoded C i xs out

-- b is what the block held before, and kept what it holds after; so for the scratch
pub record Corrects (C : Meaning) (i : ℕ) (b scratch : List ℕ) (r : Result (Unit {0}) Refusal) (kept used : List ℕ) : Type 0 where
  pub result : r ≡ answer (correct_cause C i b (length scratch))
  pub after : kept ≡ corrected C i b (length scratch)
  -- what a search leaves in the scratch is open
  pub untouched : is_some (early_cause C i b (length scratch)) ≡ true → used ≡ scratch

pub record Strips (C : Meaning) (i : ℕ) (b out : List ℕ) (r : Result (Unit {0}) Refusal) (kept : List ℕ) : Type 0 where
  pub result : r ≡ answer (strip_cause C i b (length out))
  pub after : kept ≡ stripped C i b out
