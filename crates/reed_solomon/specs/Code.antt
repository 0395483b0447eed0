-- Reed-Solomon codes: what they mean, and when they have a flaw. Assumes nothing.
use Rattle.std.specs.Prelude.{ℕ, zero, suc, ◌+◌, ◌-◌, Bool, true, ◌&&◌, List, [], ◌∷◌, map, length, Some, None, Option, nat_le, slice_index}
use Rattle.std.specs.Option.{option_or}
use Rattle.refusal.specs.declared.Refusal.{Refusal}
use Rattle.refusal.specs.declared.Refusal.TheVariants.{ChainLength, LevelCount, LevelShape}
use Rattle.field.specs.Meaning as fields
use Rattle.field.specs.Words.{value_at}
use Rattle.chain.specs.Answers.{unless}
use Rattle.chain.specs.Meaning.{Meaning, flawed}

-- n numbers from i on
abbrev pub points_from : ℕ → ℕ → List ℕ
points_from i zero = []
points_from i (suc n) = i ∷ points_from (suc i) n

-- the points of words of m symbols: 0 to m − 1
abbrev pub points : ℕ → List ℕ
points m = points_from 0 m

-- the values at the points of the polynomial whose coefficients are the message, the lowest first
abbrev pub rs_word : fields.Meaning → ℕ → List ℕ → List ℕ
rs_word F m xs = map (λ x. value_at F x xs) (points m)

-- each size is at least 1 and at most the one before it, the first at most m
abbrev pub falling : ℕ → List ℕ → Bool
falling m [] = true
falling m (k ∷ ks) = nat_le 1 k && nat_le k m && falling k ks

-- why there is no such chain, in the order of the refusals
abbrev pub flaw : fields.Meaning → ℕ → List ℕ → Option Refusal
flaw F m ks =
    option_or (unless (nat_le 1 m && nat_le m 32 && nat_le m F.q) ChainLength)
    (option_or (unless (nat_le 1 (length ks) && nat_le (length ks) 4) LevelCount) (unless (falling m ks) LevelShape))

-- the size of a level
abbrev pub size_of : List ℕ → ℕ → ℕ
size_of ks i = slice_index ks (i - 1)

abbrev pub sound : fields.Meaning → ℕ → List ℕ → Meaning
sound F m ks = record {
  flaw = None;
  field = F;
  m = m;
  s = length ks;
  size = size_of ks;
  distance = λ i. m - size_of ks i + 1;
  encoding = λ _ xs. rs_word F m xs;
}

abbrev pub sound_unless : Option Refusal → fields.Meaning → ℕ → List ℕ → Meaning
sound_unless None F m ks = sound F m ks
sound_unless (Some r) F m ks = flawed F r

-- the chain of words of m symbols whose levels have these sizes
abbrev pub reed_solomon : fields.Meaning → ℕ → List ℕ → Meaning
reed_solomon F m ks = sound_unless (flaw F m ks) F m ks
