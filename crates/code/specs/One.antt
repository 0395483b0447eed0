-- When two codes have one meaning, and what agrees then. Assumes nothing.
use Rattle.std.specs.Prelude.{◌≡◌, ℕ, ◌<◌, List, None}
use Rattle.field.specs.Meaning as fields
use Rattle.chain.specs.Meaning.{Level, Message, Word}
use Rattle.code.specs.Meaning.{Meaning}
use Rattle.code.specs.Numbers.{code_flaw, k_of, n_of, d_of, t_of, choices_of, codeword}

-- the symbols, their sums and their products agree
pub record OneField (F G : fields.Meaning) : Type 0 where
  pub q : F.q ≡ G.q
  pub sum : (a b : ℕ) → a < F.q → b < F.q → F.sum a b ≡ G.sum a b
  pub product : (a b : ℕ) → a < F.q → b < F.q → F.product a b ≡ G.product a b

pub record OneMeaning (M N : Meaning) : Type 0 where
  pub field : OneField M.chain.field N.chain.field
  pub m : M.chain.m ≡ N.chain.m
  pub s : M.chain.s ≡ N.chain.s
  pub size : (i : ℕ) → Level M.chain i → M.chain.size i ≡ N.chain.size i
  pub distance : (i : ℕ) → Level M.chain i → M.chain.distance i ≡ N.chain.distance i
  pub encoding : (i : ℕ) → Level M.chain i → (xs : List ℕ) → Message M.chain i xs → M.chain.encoding i xs ≡ N.chain.encoding i xs
  pub l : M.l ≡ N.l
  pub matrix : M.matrix ≡ N.matrix

pub record Agree (M N : Meaning) : Type 0 where
  pub k : k_of M ≡ k_of N
  pub n : n_of M ≡ n_of N
  pub d : d_of M ≡ d_of N
  pub t : t_of M ≡ t_of N
  pub choices : choices_of M ≡ choices_of N
  pub codewords : (xs : List ℕ) → Word M.chain.field (k_of M) xs → codeword M xs ≡ codeword N xs

-- Every code of one meaning with a code without a flaw agrees with it.
abbrev pub Respected : Meaning → Type 0
Respected M = code_flaw M ≡ None → (N : Meaning) → OneMeaning M N → Agree M N
