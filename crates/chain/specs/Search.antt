-- A search through all messages, to define what is looked for; it is never run. Assumes nothing.
use Rattle.std.specs.Prelude.{ℕ, zero, suc, Bool, cond, List, [], ◌∷◌, ◌++◌, map, Some, None, Option}

-- each word with one of the n symbols below n in front
unfoldable pub led_by : ℕ → List (List ℕ) → List (List ℕ)
led_by zero ws = []
led_by (suc n) ws = led_by n ws ++ map (λ w. n ∷ w) ws

-- all words of k symbols below q, in dictionary order
unfoldable pub all_words : ℕ → ℕ → List (List ℕ)
unfolding led_by
all_words q zero = [] ∷ []
all_words q (suc k) = led_by q (all_words q k)

-- the first that passes the test
unfoldable pub first_that : (List ℕ → Bool) → List (List ℕ) → Option (List ℕ)
first_that test [] = None
first_that test (w ∷ ws) = cond (test w) (Some w) (first_that test ws)
