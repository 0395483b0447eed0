-- What each call of a chain answers and leaves, for every argument. Assumes nothing.
use Rattle.std.specs.Prelude.{ℕ, Bool, true, false, ◌&&◌, leb, List, length, is_some, Some, None, Ok, Err, Option, Result, ◌==◌, nat_le}
use Rattle.std.specs.Option.{option_map, option_or, unwrap_or}
use Rattle.refusal.specs.declared.Refusal.{Refusal}
use Rattle.refusal.specs.declared.Refusal.TheVariants.{BadArgument, NoLevelWord, ShortScratch}
use Rattle.field.specs.Places.{distance}
use Rattle.field.specs.Words.{symbols}
use Rattle.chain.specs.Meaning.{Meaning, radius}
use Rattle.chain.specs.Search.{all_words, first_that}

-- the bytes of scratch that a call of `correct` asks for
abbrev pub scratch_bytes : ℕ
scratch_bytes = 4096

abbrev pub words_equal : List ℕ → List ℕ → Bool
words_equal xs ys = distance xs ys == 0

-- the message of level i whose word is w
unfoldable pub message_of : Meaning → ℕ → List ℕ → Option (List ℕ)
message_of C i w = first_that (λ xs. words_equal (C.encoding i xs) w) (all_words C.field.q (C.size i))

-- the message of level i whose word is within the level's radius of b
unfoldable pub message_near : Meaning → ℕ → List ℕ → Option (List ℕ)
message_near C i b = first_that (λ xs. leb (distance (C.encoding i xs) b) (radius (C.distance i))) (all_words C.field.q (C.size i))

-- the word of level i that is within its radius of b
abbrev pub word_near : Meaning → ℕ → List ℕ → Option (List ℕ)
word_near C i b = option_map (C.encoding i) (message_near C i b)

-- No refusal where the test passes.
abbrev pub unless : Bool → Refusal → Option Refusal
unless true r = None
unless false r = Some r

-- The cause of a refusal, if there is one, decides the answer and what a buffer holds after.
abbrev pub answer : Option Refusal → Result (Unit {0}) Refusal
answer None = Ok tt
answer (Some r) = Err r

abbrev pub left : Option Refusal → List ℕ → List ℕ → List ℕ
left None done old = done
left (Some r) done old = old

abbrev pub is_level : Meaning → ℕ → Bool
is_level C i = nat_le 1 i && nat_le i C.s

abbrev pub is_word : Meaning → ℕ → List ℕ → Bool
is_word C n xs = length xs == n && symbols C.field.q xs

-- a chain with a flaw tells 0
abbrev pub told : Option Refusal → ℕ → ℕ
told None n = n
told (Some r) n = 0

abbrev pub told_of_level : Option Refusal → Bool → ℕ → Result ℕ Refusal
told_of_level None true n = Ok n
told_of_level None false n = Err BadArgument
told_of_level (Some r) there n = Ok 0

-- each cause in its order: the flaw first
abbrev pub encode_cause : Meaning → ℕ → List ℕ → ℕ → Option Refusal
encode_cause C i xs n = option_or C.flaw (unless (is_level C i && is_word C (C.size i) xs && n == C.m) BadArgument)

-- what is looked at before the search for a word begins
abbrev pub early_cause : Meaning → ℕ → List ℕ → ℕ → Option Refusal
early_cause C i b n = option_or C.flaw (option_or (unless (is_level C i && is_word C C.m b) BadArgument) (unless (nat_le scratch_bytes n) ShortScratch))

abbrev pub correct_cause : Meaning → ℕ → List ℕ → ℕ → Option Refusal
correct_cause C i b n = option_or (early_cause C i b n) (unless (is_some (word_near C i b)) NoLevelWord)

abbrev pub strip_cause : Meaning → ℕ → List ℕ → ℕ → Option Refusal
strip_cause C i b n = option_or C.flaw (option_or (unless (is_level C i && is_word C C.m b && n == C.size i) BadArgument) (unless (is_some (message_of C i b)) NoLevelWord))

abbrev pub encoded : Meaning → ℕ → List ℕ → List ℕ → List ℕ
encoded C i xs out = left (encode_cause C i xs (length out)) (C.encoding i xs) out

abbrev pub corrected : Meaning → ℕ → List ℕ → ℕ → List ℕ
corrected C i b n = left (correct_cause C i b n) (unwrap_or (word_near C i b) b) b

abbrev pub stripped : Meaning → ℕ → List ℕ → List ℕ → List ℕ
stripped C i b out = left (strip_cause C i b (length out)) (unwrap_or (message_of C i b) out) out
