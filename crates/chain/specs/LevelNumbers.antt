-- The numbers of a chain's levels. Assumes nothing.
use Rattle.std.specs.Prelude.{ℕ, ◌-◌, ◌&&◌, cond, List, [], length, Option, nat_le, slice_index}
use Rattle.std.specs.Bool.{then_some}

-- a list of more than four does not fit, and counts as none
abbrev pub fitted : List ℕ → List ℕ
fitted xs = cond (nat_le (length xs) 4) xs []

-- the number of a level, counted from 1
abbrev pub at_level : List ℕ → ℕ → Option ℕ
at_level xs level = then_some (nat_le 1 level && nat_le level (length xs)) (slice_index xs (level - 1))
