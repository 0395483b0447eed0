-- The lines of a parameter sheet, each after a newline. Assumes nothing.
use Rattle.std.specs.Prelude.{ℕ, List, ◌∷◌, ◌++◌, Some, None, codes, decimal, Option}
use Rattle.refusal.specs.declared.Refusal.{Refusal}
use Rattle.refusal.specs.Numbers.{refusal_number, number_or_0}
use Rattle.chain.specs.Answers.{told}
use Rattle.chain.specs.Meaning.{radius}
use Rattle.chain.specs.Meaning as chains
use Rattle.code.specs.Meaning.{entry_at}
use Rattle.code.specs.Meaning as codes_of
use Rattle.code.specs.Numbers.{code_flaw, k_of, n_of, d_of, t_of, choices_of, joined_to}
use Rattle.printing.specs.Texts.{spaced}

-- the size, the distance and the radius of level i
abbrev pub level_line : chains.Meaning → ℕ → List ℕ
level_line C i =
    10 ∷ (codes "level " ++ (decimal i ++ (codes " k " ++ (decimal (C.size i) ++ (codes " d " ++ (decimal (C.distance i) ++ (codes " t " ++ decimal (radius (C.distance i)))))))))

abbrev pub chain_line : ℕ → ℕ → ℕ → List ℕ
chain_line flaw m s = 10 ∷ (codes "chain flaw " ++ (decimal flaw ++ (codes " m " ++ (decimal m ++ (codes " s " ++ decimal s)))))

-- a chain with a flaw tells no level
abbrev pub chain_lines : chains.Meaning → List ℕ
chain_lines C =
    chain_line (number_or_0 C.flaw) (told C.flaw C.m) (told C.flaw C.s) ++ joined_to (level_line C) (told C.flaw C.s)

-- the entries of row i of the matrix
abbrev pub row_line : codes_of.Meaning → ℕ → List ℕ
row_line M i = (10 ∷ codes "row") ++ joined_to (λ j. spaced (entry_at M.matrix i j)) M.l

abbrev pub numbers_line : codes_of.Meaning → List ℕ
numbers_line M =
    10 ∷ (codes "k " ++ (decimal (k_of M) ++ (codes " n " ++ (decimal (n_of M) ++ (codes " d " ++ (decimal (d_of M) ++ (codes " t " ++ (decimal (t_of M) ++ (codes " choices " ++ decimal (choices_of M))))))))))

-- the matrix and the numbers of a code
abbrev pub details : codes_of.Meaning → List ℕ
details M = joined_to (row_line M) M.chain.s ++ numbers_line M

-- the lines of a code with that flaw, or without one
abbrev pub code_lines_by : Option Refusal → codes_of.Meaning → List ℕ
code_lines_by None M = 10 ∷ (codes "code flaw 0" ++ details M)
code_lines_by (Some r) M = 10 ∷ (codes "code flaw " ++ decimal (refusal_number r))

abbrev pub code_lines : codes_of.Meaning → List ℕ
code_lines M = code_lines_by (code_flaw M) M
