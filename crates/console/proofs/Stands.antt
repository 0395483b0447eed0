-- What stands. Assumes nothing.
use Rattle.std.proofs.Common.{◌≡◌, ℕ, List, [], Some, None, Ok, Option, Result, refl}
use Rattle.std.specs.Option.{option_map, ok_or}
use Rattle.console.specs.Answers.{text_of}

-- what a search for it found stands
pub stands : {X E : Type 0} (o : Option X) (e : E) {x : X} {r : Result X E} → r ≡ ok_or o e → r ≡ Ok x → o ≡ Some x
stands None e is ok = cc
stands (Some y) e is ok = cc

-- what does not stand has no text
pub no_text : {X Y : Type 0} (o : Option X) (meaning : X → Y) (text : Y → List ℕ) → ((x : X) → o ≡ Some x → ⊥) → text_of text (option_map meaning o) ≡ []
no_text None meaning text none = refl
no_text (Some x) meaning text none = absurd (none x refl)
