-- The plain chain: levels of three simple kinds. Assumes nothing.
use Rattle.std.specs.Prelude.{ℕ, zero, suc, ◌-◌, Bool, true, cond, not, ◌&&◌, ◌||◌, List, [], ◌∷◌, ◌++◌, length, replicate, Some, None, Ok, Err, Option, Result, ◌==◌, nat_le, nat_lt, slice_index}
use Rattle.std.specs.List.{list_any}
use Rattle.std.specs.Option.{option_or}
use Rattle.refusal.specs.declared.Refusal.{Refusal}
use Rattle.refusal.specs.declared.Refusal.TheVariants.{BadArgument, ChainLength, LevelCount, LevelShape}
use Rattle.field.specs.Meaning.{opposite_of}
use Rattle.field.specs.Meaning as fields
use Rattle.field.specs.Words.{total, symbols}
use Rattle.chain.specs.Answers.{unless}
use Rattle.chain.specs.Meaning.{Meaning, flawed}
use Rattle.plain.specs.declared.kinds.Kind.{Kind}
use Rattle.plain.specs.declared.kinds.Kind.TheVariants.{Every, ZeroSum, Repeated}

-- the kind of a level by its number
abbrev pub kind_of : ℕ → Kind
kind_of zero = Every
kind_of (suc zero) = ZeroSum
kind_of (suc (suc n)) = Repeated

-- a number from 3 on is none
abbrev pub kind_numbered : ℕ → Result Kind Refusal
kind_numbered n = cond (nat_lt n 3) (Ok (kind_of n)) (Err LevelShape)

abbrev pub kind_size : ℕ → Kind → ℕ
kind_size m Every = m
kind_size m ZeroSum = m - 1
kind_size m Repeated = 1

abbrev pub kind_distance : ℕ → Kind → ℕ
kind_distance m Every = 1
kind_distance m ZeroSum = 2
kind_distance m Repeated = m

-- every word; words whose symbols add to 0, the last being the opposite of the others' sum; one symbol repeated
abbrev pub kind_word : fields.Meaning → ℕ → Kind → List ℕ → List ℕ
kind_word F m Every xs = xs
kind_word F m ZeroSum xs = xs ++ opposite_of F (total F xs) ∷ []
kind_word F m Repeated xs = replicate m (slice_index xs 0)

-- kinds never fall from one level to the next
abbrev pub rising : List ℕ → Bool
rising [] = true
rising (k ∷ []) = true
rising (k ∷ l ∷ ks) = nat_le k l && rising (l ∷ ks)

abbrev pub has : ℕ → List ℕ → Bool
has k ks = list_any (λ l. k == l) ks

-- 1 added n times
abbrev pub ones : fields.Meaning → ℕ → ℕ
ones F n = total F (replicate n 1)

-- Kinds are below 3 and never fall. Kinds 1 and 2 occur together only if 1 added m times is 0: only then do repeated symbols add to 0.
abbrev pub kinds_fit : fields.Meaning → ℕ → List ℕ → Bool
kinds_fit F m ks = symbols 3 ks && rising ks && (not (has 1 ks && has 2 ks) || ones F m == 0)

-- the least number that applies
abbrev pub plain_flaw : fields.Meaning → ℕ → List ℕ → Option Refusal
plain_flaw F m ks =
    option_or (unless (nat_le 2 m && nat_le m 32) ChainLength)
    (option_or (unless (nat_le 1 (length ks) && nat_le (length ks) 4) LevelCount) (unless (kinds_fit F m ks) LevelShape))

-- level i, counted from 1, is there
abbrev pub is_kind : List ℕ → ℕ → Bool
is_kind ks i = nat_le 1 i && nat_le i (length ks)

-- the kind of level i
abbrev pub kind_at : List ℕ → ℕ → Kind
kind_at ks i = kind_of (slice_index ks (i - 1))

-- the kind of a level that is there and whose number is one
abbrev pub kind_told : List ℕ → ℕ → Result Kind Refusal
kind_told ks i = cond (is_kind ks i) (kind_numbered (slice_index ks (i - 1))) (Err BadArgument)

abbrev pub sound : fields.Meaning → ℕ → List ℕ → Meaning
sound F m ks = record {
  flaw = None;
  field = F;
  m = m;
  s = length ks;
  size = λ i. kind_size m (kind_at ks i);
  distance = λ i. kind_distance m (kind_at ks i);
  encoding = λ i. kind_word F m (kind_at ks i);
}

abbrev pub sound_unless : Option Refusal → fields.Meaning → ℕ → List ℕ → Meaning
sound_unless None F m ks = sound F m ks
sound_unless (Some r) F m ks = flawed F r

-- the chain of words of m symbols whose levels have these kinds
abbrev pub plain : fields.Meaning → ℕ → List ℕ → Meaning
plain F m ks = sound_unless (plain_flaw F m ks) F m ks
