-- The words of a line. Assumes nothing.
use Rattle.std.specs.Prelude.{ℕ, Bool, cond, ◌||◌, List, [], ◌∷◌, ◌++◌, map, ◌==◌}
use Rattle.std.specs.Borrow.{Bor}

-- a space, a tab or a carriage return
abbrev pub white : ℕ → Bool
white b = b == 32 || b == 9 || b == 13

-- the word, unless it is empty, and the words after it
abbrev pub then_words : List ℕ → List (List ℕ) → List (List ℕ)
then_words [] ws = ws
then_words (b ∷ w) ws = (b ∷ w) ∷ ws

-- the words of the bytes, where w is the front of a word that goes on with them
abbrev pub words_from : List ℕ → List ℕ → List (List ℕ)
words_from w [] = then_words w []
words_from w (b ∷ bs) = cond (white b) (then_words w (words_from [] bs)) (words_from (w ++ b ∷ []) bs)

abbrev pub words : List ℕ → List (List ℕ)
words bs = words_from [] bs

-- what the references point to
abbrev pub texts : List (Bor (List ℕ)) → List (List ℕ)
texts = map (λ r. r.now)
