-- The texts, as bytes, in which the answers of a chain and a code are shown. Assumes nothing.
use Rattle.std.specs.Prelude.{ℕ, List, [], ◌∷◌, ◌++◌, Some, None, Ok, Err, decimal, Option, Result}
use Rattle.std.specs.List.{flat_map}
use Rattle.std.specs.Option.{unwrap_or}
use Rattle.refusal.specs.declared.Refusal.{Refusal}
use Rattle.refusal.specs.Printed.{printed_refusal}
use Rattle.chain.specs.Answers.{encode_cause, correct_cause, strip_cause, message_of, word_near}
use Rattle.chain.specs.Meaning as chains
use Rattle.code.specs.Answers as coded
use Rattle.code.specs.Meaning as codes_of
use Rattle.code.specs.Numbers.{n_of, codeword}

-- a number after a space
abbrev pub spaced : ℕ → List ℕ
spaced x = 32 ∷ decimal x

-- symbols with one space between two
abbrev pub listed : List ℕ → List ℕ
listed [] = []
listed (x ∷ xs) = decimal x ++ flat_map spaced xs

-- what a call answered: the symbols that it wrote, or its refusal
abbrev pub told : Result (Unit {0}) Refusal → List ℕ → List ℕ
told (Ok _) xs = listed xs
told (Err r) xs = printed_refusal r

-- the symbols that a call writes unless there is a cause to refuse it
abbrev pub told_unless : Option Refusal → List ℕ → List ℕ
told_unless None xs = listed xs
told_unless (Some r) xs = printed_refusal r

-- the calls of a chain C at level i; a correction is handed n bytes of scratch
abbrev pub encoded_text : chains.Meaning → ℕ → List ℕ → List ℕ
encoded_text C i xs = told_unless (encode_cause C i xs C.m) (C.encoding i xs)

abbrev pub corrected_text : chains.Meaning → ℕ → List ℕ → ℕ → List ℕ
corrected_text C i b n = told_unless (correct_cause C i b n) (unwrap_or (word_near C i b) b)

abbrev pub stripped_text : chains.Meaning → ℕ → List ℕ → List ℕ
stripped_text C i b = told_unless (strip_cause C i b (C.size i)) (unwrap_or (message_of C i b) [])

-- the encoding of a code M
unfoldable pub codeword_text : codes_of.Meaning → List ℕ → List ℕ
codeword_text M xs = told_unless (coded.encode_cause M xs (n_of M)) (codeword M xs)
