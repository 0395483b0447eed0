-- The arguments of a command, and when a part of a line is read. Assumes nothing.
use Rattle.std.specs.Prelude.{◌≡◌, ℕ, cond, List, [], ◌∷◌, Some, None, Ok, Err, Option, Result, nat_le}
use Rattle.std.specs.Option.{option_zip}
use Rattle.script.specs.Numbers.{each}
use Rattle.script.specs.declared.arguments.Unread.{Unread}
use Rattle.script.specs.declared.arguments.Unread.TheVariants.{NotUnderstood, Memory}

-- a symbol is a number up to 255
abbrev pub symbol : ℕ → Option ℕ
symbol n = cond (nat_le n 255) (Some n) None

-- the arguments of a command that takes none, one symbol, or two
abbrev pub none : List ℕ → Option (Unit {0})
none [] = Some tt
none (a ∷ ns) = None

abbrev pub one : List ℕ → Option ℕ
one [] = None
one (a ∷ []) = symbol a
one (a ∷ b ∷ ns) = None

abbrev pub two : List ℕ → Option (ℕ × ℕ)
two [] = None
two (a ∷ []) = None
two (a ∷ b ∷ []) = option_zip (symbol a) (symbol b)
two (a ∷ b ∷ c ∷ ns) = None

-- where memory suffices, what is read is what is asked for
abbrev pub Reads : {X Y : Type 0} → (X → Y) → Result X Unread → Option Y → Type 0
Reads v (Ok x) o = Some (v x) ≡ o
Reads v (Err NotUnderstood) o = None ≡ o
Reads v (Err Memory) o = Unit {0}

-- one number, whatever its value
abbrev pub whole : List ℕ → Option ℕ
whole [] = None
whole (a ∷ []) = Some a
whole (a ∷ b ∷ ns) = None

-- any number of symbols
abbrev pub symbols : List ℕ → Option (List ℕ)
symbols = each symbol

-- a symbol, and those after it
abbrev pub first_and_rest : List ℕ → Option (ℕ × List ℕ)
first_and_rest [] = None
first_and_rest (n ∷ ns) = option_zip (symbol n) (symbols ns)
