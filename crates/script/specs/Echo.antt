-- How a line is shown again. Assumes nothing.
use Rattle.std.specs.Prelude.{ℕ, cond, ◌&&◌, List, ◌∷◌, map, nat_le}
use Rattle.std.specs.List.{flat_map}
use Rattle.script.specs.Words.{words}

-- printable ASCII as it is, any other byte as `?`
abbrev pub shown : ℕ → ℕ
shown b = cond (nat_le 32 b && nat_le b 126) b 63

-- the word after a space
abbrev pub spaced : List ℕ → List ℕ
spaced w = 32 ∷ map shown w

-- `>`, and each word after a space
abbrev pub echoed : List ℕ → List ℕ
echoed line = 62 ∷ flat_map spaced (words line)
