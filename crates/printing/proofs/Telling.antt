-- What a call answers, as text, from its contract. Assumes nothing.
use Rattle.std.proofs.Common.{◌≡◌, ℕ, min, Bool, true, false, ◌&&◌, eqb, leb, List, [], ◌++◌, length, take, is_some, Some, None, Ok, Err, Option, Result, unwrap_or, refl, ap, ◌∙◌, arith}
use Rattle.std.specs.Option.{option_or}
use Rattle.std.specs.Result as results
use Rattle.std.proofs.lemmas.List.{take_all, take-append-le}
use Rattle.std.proofs.lemmas.Bool.Decides.{nat_tests}
use Rattle.refusal.specs.declared.Refusal.{Refusal}
use Rattle.refusal.specs.declared.Refusal.TheVariants.{BadArgument, NoLevelWord, ShortScratch, WrongLength, BadSymbol}
use Rattle.field.specs.Words.{symbols}
use Rattle.chain.specs.Answers.{answer, left, unless, is_level, is_word, scratch_bytes, encode_cause, correct_cause, strip_cause, message_of, word_near}
use Rattle.chain.specs.Answers as answers
use Rattle.chain.specs.Meaning as chains
use Rattle.code.specs.Answers as coded
use Rattle.code.specs.Meaning as codes_of
use Rattle.code.specs.Numbers.{code_flaw, k_of, n_of, codeword}
use Rattle.printing.specs.declared.symbols.Untold.{Untold}
use Rattle.printing.specs.declared.symbols.Untold.TheVariants.{Refused, OutOfMemory}
use Rattle.printing.specs.Told.{IfTold}
use Rattle.printing.specs.Texts.{told, told_unless, encoded_text, corrected_text, stripped_text, codeword_text}

-- what follows of the text that is told
pub told_so : {S : Type 0} (bytes : S → List ℕ) (P Q : List ℕ → Type 0) (r : Result S Untold) → ((t : List ℕ) → P t → Q t) → IfTold bytes r P → IfTold bytes r Q
told_so bytes P Q (Ok s) f p = f _ p
told_so bytes P Q (Err (Refused r)) f p = f _ p
told_so bytes P Q (Err (OutOfMemory e)) f p = tt

-- what a buffer of n symbols holds after all n were written
pub written_back : (xs ys : List ℕ) (n : ℕ) → n ≡ length xs → take n (xs ++ ys) ≡ xs
written_back xs ys n e = take-append-le n xs ys (omega arith) ∙ take_all n xs (omega arith)

told_is : (o : Option Refusal) (done old : List ℕ) → told (answer o) (left o done old) ≡ told_unless o done
told_is None done old = refl
told_is (Some x) done old = refl

-- the text of a call that answered r and left `kept`, by the cause o of a refusal
pub told_by : (o : Option Refusal) (done old : List ℕ) {r : Result (Unit {0}) Refusal} {kept seen : List ℕ} → seen ≡ kept → r ≡ answer o → kept ≡ left o done old → told r seen ≡ told_unless o done
told_by o done old {r} back e f = ap (told r) (back ∙ f) ∙ ap (λ q. told q (left o done old)) e ∙ told_is o done old

-- where there is a flaw, the length of the output does not matter
flaw_first : (o : Option Refusal) (f : ℕ → Option Refusal) (n m : ℕ) → n ≡ answers.told o m → option_or o (f n) ≡ option_or o (f m)
flaw_first None f n m e = ap f e
flaw_first (Some r) f n m e = refl

-- nor does it where there is no such level
level_first : (o : Option Refusal) (there : Bool) (f : Bool → ℕ → Option Refusal) (n size : ℕ) → n ≡ results.result_unwrap_or (answers.told_of_level o there size) 0 → ((k l : ℕ) → f false k ≡ f false l) → option_or o (f there n) ≡ option_or o (f there size)
level_first None true f n size e h = ap (f true) e
level_first None false f n size e h = h n size
level_first (Some r) there f n size e h = refl

-- a call that is not refused has found what it looked for
found : (f x : Option Refusal) (o : Option (List ℕ)) (e : Refusal) (a b : List ℕ) → told_unless (option_or f (option_or x (unless (is_some o) e))) (unwrap_or o a) ≡ told_unless (option_or f (option_or x (unless (is_some o) e))) (unwrap_or o b)
found (Some r) x o e a b = refl
found None (Some r) o e a b = refl
found None None (Some w) e a b = refl
found None None None e a b = refl

-- the scratch that a search needs is never cut away
enough : (n : ℕ) → leb scratch_bytes (min n 65536) ≡ leb scratch_bytes n
enough n = grind (arith, nat_tests)

-- the texts of the calls, for buffers of the lengths that the chain or the code tells
pub encoded_is : (C : chains.Meaning) (i : ℕ) (xs : List ℕ) (n : ℕ) → n ≡ answers.told C.flaw C.m → told_unless (encode_cause C i xs n) (C.encoding i xs) ≡ encoded_text C i xs
encoded_is C i xs n e = ap (λ o. told_unless o (C.encoding i xs)) (flaw_first C.flaw (λ n. unless (is_level C i && is_word C (C.size i) xs && eqb n C.m) BadArgument) n C.m e)

pub corrected_is : (C : chains.Meaning) (i : ℕ) (b : List ℕ) (n scratch : ℕ) → n ≡ min scratch 65536 → told_unless (correct_cause C i b n) (unwrap_or (word_near C i b) b) ≡ corrected_text C i b scratch
corrected_is C i b n scratch e =
    ap (λ t. told_unless (option_or (option_or C.flaw (option_or (unless (is_level C i && is_word C C.m b) BadArgument) (unless t ShortScratch))) (unless (is_some (word_near C i b)) NoLevelWord)) (unwrap_or (word_near C i b) b))
    (ap (leb scratch_bytes) e ∙ enough scratch)

pub stripped_is : (C : chains.Meaning) (i : ℕ) (b out : List ℕ) → length out ≡ results.result_unwrap_or (answers.told_of_level C.flaw (is_level C i) (C.size i)) 0 → told_unless (strip_cause C i b (length out)) (unwrap_or (message_of C i b) out) ≡ stripped_text C i b
stripped_is C i b out e =
    ap (λ o. told_unless o (unwrap_or (message_of C i b) out))
    (level_first C.flaw (is_level C i) (λ there n. option_or (unless (there && is_word C C.m b && eqb n (C.size i)) BadArgument) (unless (is_some (message_of C i b)) NoLevelWord)) (length out) (C.size i) e (λ k l. refl))
    ∙ found C.flaw (unless (is_level C i && is_word C C.m b && eqb (C.size i) (C.size i)) BadArgument) (message_of C i b) NoLevelWord out []

pub codeword_is : (M : codes_of.Meaning) (xs : List ℕ) (n : ℕ) → n ≡ answers.told (code_flaw M) (n_of M) → told_unless (coded.encode_cause M xs n) (codeword M xs) ≡ codeword_text M xs
unfolding codeword_text
codeword_is M xs n e =
    ap (λ o. told_unless o (codeword M xs))
    (flaw_first (code_flaw M) (λ n. option_or (unless (eqb (length xs) (k_of M) && eqb n (n_of M)) WrongLength) (unless (symbols M.chain.field.q xs) BadSymbol)) n (n_of M) e)
