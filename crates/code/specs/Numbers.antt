-- The numbers of a code, its codewords, and the reason why it cannot be used. Assumes nothing.
use Rattle.std.specs.Prelude.{◌≡◌, ℕ, zero, suc, ◌+◌, ◌-◌, ◌*◌, ◌≤◌, min, Bool, ◌&&◌, List, [], ◌++◌, length, take, drop, replicate, None, Option, ◌==◌, ◌≢◌, nat_eq, nat_le}
use Rattle.std.specs.Option.{option_or}
use Rattle.refusal.specs.declared.Refusal.{Refusal}
use Rattle.refusal.specs.declared.Refusal.TheVariants.{MatrixShape, MatrixEntry, SingularMatrix}
use Rattle.field.specs.Places.{distance as differing}
use Rattle.field.specs.Words.{symbols, plus_scaled}
use Rattle.algebra.specs.Matrices.{every}
use Rattle.chain.specs.Answers.{unless, told}
use Rattle.chain.specs.Meaning.{Word, radius}
use Rattle.code.specs.Columns.{nonsingular}
use Rattle.code.specs.Meaning.{Meaning, entry_at}

-- l is from s to 8, and the matrix has s rows of l entries
abbrev pub is_shaped : Meaning → Bool
is_shaped M = nat_le M.chain.s M.l && nat_le M.l 8 && length M.matrix == M.chain.s && every (λ r. nat_eq (length r) M.l) M.matrix

abbrev pub has_symbols : Meaning → Bool
has_symbols M = every (symbols M.chain.field.q) M.matrix

abbrev pub is_nonsingular : Meaning → Bool
is_nonsingular M = nonsingular M.chain.field M.chain.s M.l M.matrix

-- the chain's flaw, else the least number that applies to the matrix
abbrev pub code_flaw : Meaning → Option Refusal
code_flaw M =
    option_or M.chain.flaw
    (option_or (unless (is_shaped M) MatrixShape)
    (option_or (unless (has_symbols M) MatrixEntry) (unless (is_nonsingular M) SingularMatrix)))

-- a number that a code tells: 0 where it has a flaw
abbrev pub telling : (Meaning → ℕ) → Meaning → ℕ
telling number M = told (code_flaw M) (number M)

-- f 1 + … + f n
abbrev pub sum_to : (ℕ → ℕ) → ℕ → ℕ
sum_to f zero = 0
sum_to f (suc n) = sum_to f n + f (suc n)

-- the least of f 1, …, f n
abbrev pub least_to : (ℕ → ℕ) → ℕ → ℕ
least_to f zero = f 1
least_to f (suc n) = min (least_to f n) (f (suc n))

-- f 1, …, f n one after another
abbrev pub joined_to : (ℕ → List ℕ) → ℕ → List ℕ
joined_to f zero = []
joined_to f (suc n) = joined_to f n ++ f (suc n)

-- l·(l − 1)···(l − n + 1)
abbrev pub falling : ℕ → ℕ → ℕ
falling l zero = 1
falling l (suc n) = falling l n * (l - n)

-- k, the symbols of a message
abbrev pub k_of : Meaning → ℕ
k_of M = sum_to M.chain.size M.chain.s

-- n, the symbols of a codeword
abbrev pub n_of : Meaning → ℕ
n_of M = M.chain.m * M.l

-- d, the least of (l − i + 1)·d_i over the levels
abbrev pub d_of : Meaning → ℕ
d_of M = least_to (λ i. (M.l - i + 1) * M.chain.distance i) M.chain.s

-- t, the number of differences that the code corrects
abbrev pub t_of : Meaning → ℕ
t_of M = radius (d_of M)

-- L, the number of choices of s different columns in order
abbrev pub choices_of : Meaning → ℕ
choices_of M = falling M.l M.chain.s

-- c_i, the word of level i for its part of the message
abbrev pub part : Meaning → List ℕ → ℕ → List ℕ
part M xs i = M.chain.encoding i (take (M.chain.size i) (drop (sum_to M.chain.size (i - 1)) xs))

-- a_{1,j}·c_1 + … + a_{n,j}·c_n
abbrev pub block_to : Meaning → List ℕ → ℕ → ℕ → List ℕ
block_to M xs zero j = replicate M.chain.m 0
block_to M xs (suc n) j = plus_scaled M.chain.field (entry_at M.matrix (suc n) j) (block_to M xs n j) (part M xs (suc n))

-- blocks 1 to l one after another
abbrev pub codeword : Meaning → List ℕ → List ℕ
codeword M xs = joined_to (block_to M xs M.chain.s) M.l

abbrev pub IsCodeword : Meaning → List ℕ → Type 0
IsCodeword M w = (xs : List ℕ) × Word M.chain.field (k_of M) xs × (codeword M xs ≡ w)

-- Two different codewords differ in at least d places; so at most one lies within t of a word.
pub record Separated (M : Meaning) : Type 0 where
  pub apart : (v w : List ℕ) → IsCodeword M v → IsCodeword M w → (v ≢ w) → d_of M ≤ differing v w
  pub one_near : (b v w : List ℕ) → IsCodeword M v → IsCodeword M w → differing v b ≤ t_of M → differing w b ≤ t_of M → v ≡ w

-- of every code without a flaw
abbrev pub Separates : Meaning → Type 0
Separates M = code_flaw M ≡ None → Separated M

-- block j of a word of blocks of m symbols, counted from 1
abbrev pub piece : ℕ → List ℕ → ℕ → List ℕ
piece m xs j = take m (drop ((j - 1) * m) xs)
