-- The commands of a script. Assumes nothing.
use Rattle.std.specs.Prelude.{ℕ, List, [], ◌∷◌, find, Some, None, vec_items, codes, Option}
use Rattle.std.specs.Option.{option_map}
use Rattle.std.specs.Str.{bytes_eq}
use Rattle.script.specs.declared.commands.Command.{Command}
use Rattle.script.specs.declared.commands.Name.{Name}
use Rattle.script.specs.Arguments.{first_and_rest, none, one, symbols, two, whole}

-- the names, with their spellings
abbrev pub names : List (List ℕ × Name)
names =
    (codes "field", Name.Field)
    ∷ (codes "sum", Name.Sum)
    ∷ (codes "product", Name.Product)
    ∷ (codes "opposite", Name.Opposite)
    ∷ (codes "inverse", Name.Inverse)
    ∷ (codes "sheet", Name.Sheet)
    ∷ (codes "reed-solomon", Name.ReedSolomon)
    ∷ (codes "plain", Name.Plain)
    ∷ (codes "encode-level", Name.EncodeLevel)
    ∷ (codes "correct-level", Name.CorrectLevel)
    ∷ (codes "strip-level", Name.StripLevel)
    ∷ (codes "code", Name.Code)
    ∷ (codes "encode", Name.Encode)
    ∷ (codes "scratch", Name.Scratch)
    ∷ []

-- the name that is spelled so
unfoldable pub spelled : List ℕ → Option Name
spelled word = option_map (λ e. e.1) (find (λ e. bytes_eq e.0 word) names)

-- what a command asks for
pub data Asked : Type 0 where
  field opposite inverse : ℕ → Asked
  sum product : ℕ → ℕ → Asked
  sheet : Asked
  reed_solomon : ℕ → List ℕ → Asked
  plain : ℕ → List ℕ → Asked
  encode_level : ℕ → List ℕ → Asked
  correct_level : ℕ → List ℕ → Asked
  strip_level : ℕ → List ℕ → Asked
  code : ℕ → List ℕ → Asked
  encode : List ℕ → Asked
  scratch : ℕ → Asked

abbrev pub view : Command → Asked
view (Command.Field q) = field q
view (Command.Sum a b) = sum a b
view (Command.Product a b) = product a b
view (Command.Opposite a) = opposite a
view (Command.Inverse a) = inverse a
view Command.Sheet = sheet
view (Command.ReedSolomon a v) = reed_solomon a (vec_items v)
view (Command.Plain a v) = plain a (vec_items v)
view (Command.EncodeLevel a v) = encode_level a (vec_items v)
view (Command.CorrectLevel a v) = correct_level a (vec_items v)
view (Command.StripLevel a v) = strip_level a (vec_items v)
view (Command.Code a v) = code a (vec_items v)
view (Command.Encode v) = encode (vec_items v)
view (Command.Scratch a) = scratch a

-- the command of that name with those numbers, if there is one
abbrev pub asked : Name → List ℕ → Option Asked
asked Name.Field ns = option_map field (one ns)
asked Name.Sum ns = option_map (λ p. sum p.0 p.1) (two ns)
asked Name.Product ns = option_map (λ p. product p.0 p.1) (two ns)
asked Name.Opposite ns = option_map opposite (one ns)
asked Name.Inverse ns = option_map inverse (one ns)
asked Name.Sheet ns = option_map (λ _. sheet) (none ns)
asked Name.ReedSolomon ns = option_map (λ p. reed_solomon p.0 p.1) (first_and_rest ns)
asked Name.Plain ns = option_map (λ p. plain p.0 p.1) (first_and_rest ns)
asked Name.EncodeLevel ns = option_map (λ p. encode_level p.0 p.1) (first_and_rest ns)
asked Name.CorrectLevel ns = option_map (λ p. correct_level p.0 p.1) (first_and_rest ns)
asked Name.StripLevel ns = option_map (λ p. strip_level p.0 p.1) (first_and_rest ns)
asked Name.Code ns = option_map (λ p. code p.0 p.1) (first_and_rest ns)
asked Name.Encode ns = option_map encode (symbols ns)
asked Name.Scratch ns = option_map scratch (whole ns)

abbrev pub called : Option Name → Option (List ℕ) → Option Asked
called None ns = None
called (Some n) None = None
called (Some n) (Some ns) = asked n ns
