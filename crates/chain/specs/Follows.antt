-- What follows of every chain from its laws alone. Assumes nothing.
use Rattle.std.specs.Prelude.{◌≡◌, ℕ, ◌<◌, ◌≤◌, List, replicate, None}
use Rattle.field.specs.Places.{distance as differing}
use Rattle.field.specs.Words.{added, scaled}
use Rattle.chain.specs.Meaning.{Meaning, Level, Message, OfLevel, radius}

pub record LevelFacts (C : Meaning) (i : ℕ) : Type 0 where
  -- at most one word of the level is within its radius of a block
  pub one_near : (b v w : List ℕ) → OfLevel C i v → OfLevel C i w → differing v b ≤ radius (C.distance i) → differing w b ≤ radius (C.distance i) → v ≡ w
  -- a word of the level is the encoding of exactly one message
  pub one_message : (w xs ys : List ℕ) → Message C i xs → Message C i ys → C.encoding i xs ≡ w → C.encoding i ys ≡ w → xs ≡ ys
  -- sums and multiples of words of the level are words of the level, and so is the zero word
  pub sums : (v w : List ℕ) → OfLevel C i v → OfLevel C i w → OfLevel C i (added C.field v w)
  pub multiples : (a : ℕ) (w : List ℕ) → a < C.field.q → OfLevel C i w → OfLevel C i (scaled C.field a w)
  pub zeros : OfLevel C i (replicate C.m 0)

-- of each level of a chain without a flaw
abbrev pub Follows : Meaning → Type 0
Follows C = C.flaw ≡ None → (i : ℕ) → Level C i → LevelFacts C i
