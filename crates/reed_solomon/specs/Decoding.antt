-- What reading a word and finding the nearest word answer. Assumes nothing.
use Rattle.std.specs.Prelude.{◌≡◌, ℕ, ◌≤◌, Some, None, Option, T, List, length, take, ◌≢◌}
use Rattle.field.specs.Meaning.{Meaning}
use Rattle.field.specs.Places.{distance}
use Rattle.field.specs.Words.{symbols}
use Rattle.algebra.specs.Correction.{Agrees}
use Rattle.algebra.specs.Symbols.{numbers, Symbols}
use Rattle.reed_solomon.specs.Code.{points, rs_word}

-- xs is a message of k symbols
abbrev pub Message : Meaning → ℕ → List ℕ → Type 0
Message F k xs = (length xs ≡ k) × T (symbols F.q xs)

-- the message of the word b is in out', or b is no word and `out` stays
abbrev pub Read : Meaning → List ℕ → List ℕ → Option (Unit {0}) → List ℕ → Type 0
Read F b out (Some u) out' = Message F (length out) out' × (rs_word F (length b) out' ≡ b)
Read F b out None out' = (out' ≡ out) × ((xs : List ℕ) → Message F (length out) xs → rs_word F (length b) xs ≢ b)

-- a message whose word is within t of b
abbrev pub Near : Meaning → ℕ → ℕ → List ℕ → List ℕ → Type 0
Near F k t b xs = Message F k xs × (distance (rs_word F (length b) xs) b ≤ t)

-- the lower coefficients of E stand first in xs, or no message is near
abbrev pub LocatedOrFar : Meaning → ℕ → ℕ → List ℕ → Option (Unit {0}) → List ℕ → Type 0
LocatedOrFar F k t b (Some u) xs = Symbols F xs × ((g : List ℕ) → Near F k t b g → Agrees (numbers F) (points (length b)) b (take t xs) g)
LocatedOrFar F k t b None xs = (g : List ℕ) → Near F k t b g → ⊥

-- w is the word of a message near b, or no message is near
abbrev pub Nearest : Meaning → ℕ → ℕ → List ℕ → Option (Unit {0}) → List ℕ → Type 0
Nearest F k t b (Some u) w = (xs : List ℕ) × Near F k t b xs × (w ≡ rs_word F (length b) xs)
Nearest F k t b None w = (xs : List ℕ) → Near F k t b xs → ⊥
