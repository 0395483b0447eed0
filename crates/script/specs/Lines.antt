-- What a line of a script says. Assumes nothing.
use Rattle.std.specs.Prelude.{ℕ, Bool, false, cond, List, [], ◌∷◌, Some, None, Option, ◌==◌}
use Rattle.script.specs.declared.lines.Line.{Line}
use Rattle.script.specs.Words.{words}
use Rattle.script.specs.Numbers.{numbers}
use Rattle.script.specs.Commands.{Asked, called, spelled, view}

-- what a line says
pub data Heard : Type 0 where
  passed_over not_understood : Heard
  understood : Asked → Heard

abbrev pub heard : Line → Heard
heard Line.PassedOver = passed_over
heard (Line.Understood c) = understood (view c)
heard Line.NotUnderstood = not_understood

-- the word begins with `#`
abbrev pub comment : List ℕ → Bool
comment [] = false
comment (b ∷ w) = b == 35

abbrev pub told : Option Asked → Heard
told None = not_understood
told (Some a) = understood a

-- the first word is a command's name, and all others are its numbers
abbrev pub read : List (List ℕ) → Heard
read [] = passed_over
read (w ∷ ws) = cond (comment w) passed_over (told (called (spelled w) (numbers ws)))

abbrev pub parsed : List ℕ → Heard
parsed line = read (words line)
