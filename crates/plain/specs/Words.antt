-- When a block is a word of a kind. Assumes nothing.
use Rattle.std.specs.Prelude.{◌≡◌, ℕ, ◌<◌, ◌≤◌, Bool, true, T, List, length, take, replicate, Ok, Err, Result, ◌==◌, slice_index, slice_index_or}
use Rattle.refusal.specs.declared.Refusal.{Refusal}
use Rattle.refusal.specs.declared.Refusal.TheVariants.{NoLevelWord}
use Rattle.field.specs.Meaning as fields
use Rattle.field.specs.Places.{distance}
use Rattle.field.specs.Words.{total}
use Rattle.chain.specs.Meaning.{Word, radius}
use Rattle.plain.specs.Kinds.{kind_size, kind_distance, kind_word}
use Rattle.plain.specs.declared.kinds.Kind.{Kind}
use Rattle.plain.specs.declared.kinds.Kind.TheVariants.{Every, ZeroSum, Repeated}

-- the number of places that do not hold x
abbrev pub others : ℕ → List ℕ → ℕ
others x b = distance (replicate (length b) x) b

abbrev pub fits : fields.Meaning → Kind → List ℕ → Bool
fits F Every b = true
fits F ZeroSum b = total F b == 0
fits F Repeated b = others (slice_index b 0) b == 0

-- x stands in the block, and few enough places differ from it
pub record Elected (b : List ℕ) (x : ℕ) : Type 0 where
  pub place : ℕ
  pub within : place < length b
  pub stands : slice_index_or b place 0 ≡ x
  pub near : others x b ≤ radius (length b)

-- w is the word of a message, within the kind's radius of the block
pub record Near (F : fields.Meaning) (k : Kind) (b w : List ℕ) : Type 0 where
  pub message : List ℕ
  pub lawful : Word F (kind_size (length b) k) message
  pub word : w ≡ kind_word F (length b) k message
  pub close : distance w b ≤ radius (kind_distance (length b) k)

-- What correcting a block to a word of a kind answers, and what it leaves in the block.
abbrev pub BlockCorrected : fields.Meaning → Kind → List ℕ → Result (Unit {0}) Refusal → List ℕ → Type 0
BlockCorrected F k b (Ok _) kept = Near F k b kept
BlockCorrected F k b (Err e) kept = (e ≡ NoLevelWord) × (kept ≡ b) × ((w : List ℕ) → Near F k b w → ⊥)

-- What stripping a block of a kind answers, and what it leaves in the output.
abbrev pub BlockStripped : fields.Meaning → Kind → List ℕ → List ℕ → Result (Unit {0}) Refusal → List ℕ → Type 0
BlockStripped F k b out (Ok _) kept = T (fits F k b) × (kept ≡ take (kind_size (length b) k) b)
BlockStripped F k b out (Err e) kept = (e ≡ NoLevelWord) × (kept ≡ out) × (T (fits F k b) → ⊥)
