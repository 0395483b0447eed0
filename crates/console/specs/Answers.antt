-- What the console answers to each command, and what stands after it. Assumes nothing.
use Rattle.std.specs.Prelude.{◌≡◌, ℕ, List, [], ◌∷◌, ◌++◌, Some, None, Ok, Err, codes, decimal, Option, Result}
use Rattle.refusal.specs.declared.Refusal.{Refusal}
use Rattle.field.specs.Meaning as fields
use Rattle.field.specs.Answers.{summed, multiplied, opposed, inverted}
use Rattle.std.specs.Borrow.{Bor}
use Rattle.any_field.specs.declared.AnyField.{AnyField}
use Rattle.any_field.specs.Kinds.{meant, of_order}
use Rattle.any_chain.specs.declared.AnyChain.{AnyChain}
use Rattle.any_chain.specs.Kinds.{chain_meant}
use Rattle.chain.specs.Meaning as chains
use Rattle.plain.specs.Kinds as plains
use Rattle.reed_solomon.specs.Code as reed_solomons
use Rattle.code.specs.Meaning.{joining}
use Rattle.code.specs.Numbers.{code_flaw}
use Rattle.printing.specs.Sheets.{chain_lines, code_lines}
use Rattle.printing.specs.Texts.{encoded_text, corrected_text, stripped_text, codeword_text}
use Rattle.script.specs.Echo.{echoed}
use Rattle.script.specs.Commands.{Asked, field, sum, product, opposite, inverse, sheet, reed_solomon, plain, encode_level, correct_level, strip_level, code, encode, scratch}
use Rattle.script.specs.Lines.{Heard, passed_over, not_understood, understood}
use Rattle.console.specs.declared.answer.Answer.{Answer}
use Rattle.console.specs.declared.answer.Answer.TheVariants.{Field, Symbol, Chain, Code, Scratch, NotUnderstood}
use Rattle.console.specs.declared.answer.Failure.{Failure}
use Rattle.console.specs.declared.answer.Failure.TheVariants.{NotYet, Refused}
use Rattle.console.specs.declared.answer.Missing.{Missing}
use Rattle.console.specs.declared.answer.Unanswered.{Unanswered}
use Rattle.console.specs.Printed.{printed, printed_failure, replied}
use Rattle.console.specs.Standing.{Standing}

abbrev pub told : {X : Type 0} → (X → Answer) → Result X Refusal → Result Answer Failure
told f (Ok x) = Ok (f x)
told f (Err e) = Err (Refused e)

-- the answer of what a command wants, if it was ever made
abbrev pub on : {X : Type 0} → Missing → Option X → (X → Result Answer Failure) → Result Answer Failure
on missing None f = Err (NotYet missing)
on missing (Some x) f = f x

-- the same of a text
abbrev pub text_on : {X : Type 0} → Missing → Option X → (X → List ℕ) → List ℕ
text_on missing None f = printed_failure (NotYet missing)
text_on missing (Some x) f = f x

-- the text of what stands, nothing where it does not
abbrev pub text_of : {X : Type 0} → (X → List ℕ) → Option X → List ℕ
text_of f None = []
text_of f (Some x) = f x

abbrev pub sheet_text : Standing → fields.Meaning → List ℕ
sheet_text S F = codes "field q " ++ (decimal F.q ++ (text_of chain_lines S.chain ++ text_of code_lines S.code))

abbrev pub chain_made : Option fields.Meaning → (fields.Meaning → chains.Meaning) → Result Answer Failure
chain_made F make = on Missing.Field F (λ G. Ok (Chain (make G).flaw))

-- what a making of chains from a field, m and a level's numbers gives has the meaning that f makes of the field's
abbrev pub MakesBy : (AnyField → ℕ → Bor (List ℕ) → AnyChain → Type 0) → ℕ → List ℕ → (fields.Meaning → chains.Meaning) → Type 0
MakesBy gives m ks f = (x : AnyField) (p : Bor (List ℕ)) (r : AnyChain) → p.now ≡ ks → gives x m p r → chain_meant r ≡ f (meant x)

-- the answer to a command, where S stands
abbrev pub Answers : Standing → Asked → Answer → Type 0
Answers S (field q) a = a ≡ replied (told (λ G. Field G.q) (of_order q))
Answers S (sum x y) a = a ≡ replied (on Missing.Field S.field (λ G. told Symbol (summed G x y)))
Answers S (product x y) a = a ≡ replied (on Missing.Field S.field (λ G. told Symbol (multiplied G x y)))
Answers S (opposite x) a = a ≡ replied (on Missing.Field S.field (λ G. told Symbol (opposed G x)))
Answers S (inverse x) a = a ≡ replied (on Missing.Field S.field (λ G. told Symbol (inverted G x)))
Answers S (scratch n) a = a ≡ Scratch n
Answers S sheet a = printed a ≡ text_on Missing.Field S.field (sheet_text S)
Answers S (reed_solomon m ks) a = a ≡ replied (chain_made S.field (λ G. reed_solomons.reed_solomon G m ks))
Answers S (plain m ks) a = a ≡ replied (chain_made S.field (λ G. plains.plain G m ks))
Answers S (encode_level i xs) a = printed a ≡ text_on Missing.Chain S.chain (λ C. encoded_text C i xs)
Answers S (correct_level i xs) a = printed a ≡ text_on Missing.Chain S.chain (λ C. corrected_text C i xs S.scratch)
Answers S (strip_level i xs) a = printed a ≡ text_on Missing.Chain S.chain (λ C. stripped_text C i xs)
Answers S (code l es) a = a ≡ replied (on Missing.Chain S.chain (λ C. Ok (Code (code_flaw (joining C l es)))))
Answers S (encode xs) a = printed a ≡ text_on Missing.Code S.code (λ M. codeword_text M xs)

-- the answer that came, a failure among them; nothing where memory ran out
abbrev pub IfAnswered : Result Answer Unanswered → (Answer → Type 0) → Type 0
IfAnswered (Ok a) P = P a
IfAnswered (Err (Unanswered.Failed failure)) P = P (Answer.Failed failure)
IfAnswered (Err (Unanswered.OutOfMemory e)) P = Unit {0}

-- what is made stands, and a refusal leaves what stood before
abbrev pub kept : {X : Type 0} → Option X → Result X Refusal → Option X
kept o (Ok x) = Some x
kept o (Err e) = o

-- what is made of something that stands; else what stood before
abbrev pub made_of : {X Y : Type 0} → Option X → (X → Y) → Option Y → Option Y
made_of None make old = old
made_of (Some x) make old = Some (make x)

-- what stands after a command, where S stood before
abbrev pub after : Standing → Asked → Standing
after S (field q) = record S { field = kept S.field (of_order q) }
after S (reed_solomon m ks) = record S { chain = made_of S.field (λ G. reed_solomons.reed_solomon G m ks) S.chain }
after S (plain m ks) = record S { chain = made_of S.field (λ G. plains.plain G m ks) S.chain }
after S (code l es) = record S { code = made_of S.chain (λ C. joining C l es) S.code }
after S (scratch n) = record S { scratch = n }
after S (sum a b) = S
after S (product a b) = S
after S (opposite a) = S
after S (inverse a) = S
after S sheet = S
after S (encode_level i xs) = S
after S (correct_level i xs) = S
after S (strip_level i xs) = S
after S (encode xs) = S

-- a line shown again, and its answer, each with its newline
abbrev pub exchange : List ℕ → Answer → List ℕ
exchange line a = echoed line ++ 10 ∷ (printed a ++ 10 ∷ [])

-- what is printed for a line, where S stands
abbrev pub Prints : Standing → List ℕ → Heard → Option (List ℕ) → Type 0
Prints S line passed_over o = o ≡ None
Prints S line not_understood o = o ≡ Some (exchange line NotUnderstood)
Prints S line (understood c) o = (a : Answer) × Answers S c a × (o ≡ Some (exchange line a))

-- what stands after a line
abbrev pub standing_after : Standing → Heard → Standing
standing_after S passed_over = S
standing_after S not_understood = S
standing_after S (understood c) = after S c
