-- What each call of a code answers and leaves, for every argument. Assumes nothing.
use Rattle.std.specs.Prelude.{◌≡◌, ℕ, ◌&&◌, List, length, Option, Result, ◌==◌}
use Rattle.std.specs.Option.{option_or}
use Rattle.refusal.specs.declared.Refusal.{Refusal}
use Rattle.refusal.specs.declared.Refusal.TheVariants.{WrongLength, BadSymbol}
use Rattle.field.specs.Words.{symbols}
use Rattle.chain.specs.Answers.{unless, answer, left}
use Rattle.code.specs.Meaning.{Meaning}
use Rattle.code.specs.Numbers.{code_flaw, k_of, n_of, codeword}

-- each cause in its order: the flaw first
abbrev pub encode_cause : Meaning → List ℕ → ℕ → Option Refusal
encode_cause M xs n =
    option_or (code_flaw M)
    (option_or (unless (length xs == k_of M && n == n_of M) WrongLength) (unless (symbols M.chain.field.q xs) BadSymbol))

-- out is what the output held before, and kept what it holds after
pub record Encodes (M : Meaning) (xs out : List ℕ) (r : Result (Unit {0}) Refusal) (kept : List ℕ) : Type 0 where
  pub result : r ≡ answer (encode_cause M xs (length out))
  pub after : kept ≡ left (encode_cause M xs (length out)) (codeword M xs) out
